-- The names that the code answers, case by case as songcode has them.
use Rattle.std.specs.Prelude.{Bool, true, false}
use Rattle.std.specs.Prelude as std
use Rattle.std.proofs.Math.Option.{Option, none, some}
use Rattle.songcode.specs.Song as song
use Rattle.songcode.specs.Answer.Modifiers as modifiers
use Rattle.settings.specs.declared.keys.KeyName.{KeyName}
use Rattle.settings.specs.declared.keys.KeyName.TheVariants.{Name, Artist, Original, Capo, Bpm, Time, Warning, End}
use Rattle.settings.specs.declared.modifiers.ModifierName.{ModifierName}
use Rattle.settings.specs.declared.modifiers.ModifierName.TheVariants.{Repeat, CutStart, CutEnd, Before, After}

unfoldable pub key_is : Option song.KeyName → std.Option KeyName
key_is (some song.name) = std.Some Name
key_is (some song.artist) = std.Some Artist
key_is (some song.original) = std.Some Original
key_is (some song.capo) = std.Some Capo
key_is (some song.bpm) = std.Some Bpm
key_is (some song.time) = std.Some Time
key_is (some song.warning) = std.Some Warning
key_is (some song.end) = std.Some End
key_is none = std.None

unfoldable pub modifier_is : Option modifiers.ModifierName → std.Option ModifierName
modifier_is (some modifiers.of_repeat) = std.Some Repeat
modifier_is (some modifiers.of_cut_start) = std.Some CutStart
modifier_is (some modifiers.of_cut_end) = std.Some CutEnd
modifier_is (some modifiers.of_before) = std.Some Before
modifier_is (some modifiers.of_after) = std.Some After
modifier_is none = std.None

-- What a name stands for, if the test says so.
abbrev pub if_named : {K : Type 0} → Bool → K → std.Option K
if_named true k = std.Some k
if_named false k = std.None
