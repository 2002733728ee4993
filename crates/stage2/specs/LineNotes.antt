-- What a key line and a modifier line are complained of in themselves, by the names that the code answers.
use Rattle.std.specs.Prelude.{ℕ, min, List, Bool, true, not}
use Rattle.std.specs.Prelude as std
use Rattle.songcode.specs.Lists.{is_some}
use Rattle.songcode.specs.Bytes.{Byte}
use Rattle.songcode.specs.Answer.Numbers.{repeat_in}
use Rattle.songcode.specs.Answer.Modifiers.{cut_in}
use Rattle.songcode.specs.Answer.PatternText.{side_text}
use Rattle.songcode.specs.Complaints.{complain_if}
use Rattle.settings.specs.KeySettings.{is_setting_of}
use Rattle.settings.specs.declared.keys.KeyName.{KeyName}
use Rattle.settings.specs.declared.keys.KeyName.TheVariants.{Name, Artist, Original, Capo, Bpm, Time, Warning, End}
use Rattle.settings.specs.declared.modifiers.ModifierName.{ModifierName}
use Rattle.settings.specs.declared.modifiers.ModifierName.TheVariants.{Repeat, CutStart, CutEnd, Before, After}
use Rattle.refusals.specs.Ranks.{least}

-- The places of the names, 8 for an unknown one.
abbrev pub key_number : std.Option KeyName → ℕ
key_number (std.Some Name) = 0
key_number (std.Some Artist) = 1
key_number (std.Some Original) = 2
key_number (std.Some Capo) = 3
key_number (std.Some Bpm) = 4
key_number (std.Some Time) = 5
key_number (std.Some Warning) = 6
key_number (std.Some End) = 7
key_number std.None = 8

abbrev pub modifier_number : std.Option ModifierName → ℕ
modifier_number (std.Some Repeat) = 0
modifier_number (std.Some CutStart) = 1
modifier_number (std.Some CutEnd) = 2
modifier_number (std.Some Before) = 3
modifier_number (std.Some After) = 4
modifier_number std.None = 8

-- A section's keys are "bpm, time"; metadata has all eight.
abbrev pub allowed_in : Bool → KeyName → Bool
allowed_in section Bpm = true
allowed_in section Time = true
allowed_in section Name = not section
allowed_in section Artist = not section
allowed_in section Original = not section
allowed_in section Capo = not section
allowed_in section Warning = not section
allowed_in section End = not section

-- An unknown key is nowhere allowed, and has no setting.
unfoldable pub key_note : Bool → std.Option KeyName → List Byte → ℕ → ℕ
key_note section std.None bs line = least (complain_if true 4 line)
key_note section (std.Some k) bs line =
    min (least (complain_if (not (allowed_in section k)) 4 line)) (least (complain_if (not (is_setting_of k bs)) 5 line))

-- The setting of a modifier, and what is given where it is malformed.
unfoldable pub setting_fine : ModifierName → List Byte → Bool
setting_fine Repeat bs = is_some (repeat_in bs)
setting_fine CutStart bs = is_some (cut_in bs)
setting_fine CutEnd bs = is_some (cut_in bs)
setting_fine Before bs = is_some (side_text bs)
setting_fine After bs = is_some (side_text bs)

abbrev pub setting_number : ModifierName → ℕ
setting_number Repeat = 5
setting_number CutStart = 5
setting_number CutEnd = 5
setting_number Before = 7
setting_number After = 7

unfoldable pub modifier_note : std.Option ModifierName → List Byte → ℕ → ℕ
modifier_note std.None bs line = least (complain_if true 8 line)
modifier_note (std.Some m) bs line = least (complain_if (not (setting_fine m bs)) (setting_number m) line)
