-- The settings of key and modifier lines: which line says one, and its text.
use Rattle.std.specs.Prelude.{ℕ, ◌+◌, ◌<◌, ◌≤◌, ◌≡◌, List, [], ◌∷◌, eqb, length}
use Rattle.std.proofs.Math.Option.{Option, none, some}
use Rattle.std.specs.Prelude as std
use Rattle.songcode.specs.Lists.{provided◌then◌else◌}
use Rattle.songcode.specs.Bytes.{Byte, placed}
use Rattle.songcode.specs.Answer.Lines.{Line}
use Rattle.songcode.specs.Song as song
use Rattle.songcode.specs.Answer.Keys.{key_place}
use Rattle.songcode.specs.Answer.Modifiers as modifiers
use Rattle.songcode.specs.Answer.Sections.{Kind, key_line, modifier_line, pattern_line, kind_of_line, key_name_of, modifier_name_of, setting_of}
use Rattle.text.specs.Spans.{part}
use Rattle.settings.specs.declared.keys.KeyName.{KeyName}
use Rattle.settings.specs.declared.keys.KeyName.TheVariants.{Name, Artist, Original, Capo, Bpm, Time, Warning, End}
use Rattle.settings.specs.declared.modifiers.ModifierName.{ModifierName}
use Rattle.settings.specs.declared.modifiers.ModifierName.TheVariants.{Repeat, CutStart, CutEnd, Before, After}
use Rattle.sections.specs.declared.slots.Said.{Said}

-- Keys are numbered in the order of the answer's table, modifiers behind them; any other line is 13.
abbrev pub key_slot : song.KeyName → ℕ
key_slot k = key_place k

abbrev pub modifier_slot : modifiers.ModifierName → ℕ
modifier_slot m = 8 + modifiers.modifier_place m

unfoldable pub slot_by : Kind → Option song.KeyName → Option modifiers.ModifierName → ℕ
slot_by key_line (some k) m = key_slot k
slot_by key_line none m = 13
slot_by modifier_line k (some m) = modifier_slot m
slot_by modifier_line k none = 13
slot_by pattern_line k m = 13

unfoldable pub slot_of : Line → ℕ
unfolding slot_by kind_of_line key_name_of modifier_name_of
slot_of l = slot_by (kind_of_line l) (key_name_of l) (modifier_name_of l)

-- The same of the names that the code reads.
abbrev pub key_number : KeyName → ℕ
key_number Name = 0
key_number Artist = 1
key_number Original = 2
key_number Capo = 3
key_number Bpm = 4
key_number Time = 5
key_number Warning = 6
key_number End = 7

abbrev pub modifier_number : ModifierName → ℕ
modifier_number Repeat = 8
modifier_number CutStart = 9
modifier_number CutEnd = 10
modifier_number Before = 11
modifier_number After = 12

-- The number of a name that is there.
abbrev pub number_or : {K : Type 0} → (K → ℕ) → std.Option K → ℕ
number_or f std.None = 13
number_or f (std.Some k) = f k

-- A setting: the number of its line, and its text.
pub record Setting : Type 0 where
  pub line : ℕ
  pub text : List Byte

-- The first setting of that number among the lines.
unfoldable pub setting_among : ℕ → List Line → Option Setting
unfolding provided◌then◌else◌ slot_of setting_of
setting_among k [] = none
setting_among k (l ∷ ls) = provided eqb (slot_of l) k then some (record { line = l.number; text = setting_of l }) else setting_among k ls

-- The setting at the places that the code answers.
unfoldable pub setting_at : List ℕ → std.Option Said → Option Setting
setting_at s std.None = none
setting_at s (std.Some r) = some (record { line = r.line; text = placed r.start (part r.start r.stop s) })

-- A setting that is said lies in the text.
abbrev pub Inside : List ℕ → std.Option Said → Type 0
Inside s std.None = Unit {0}
Inside s (std.Some r) = (r.start ≤ r.stop) × (r.stop ≤ length s)

-- The setting that a line of this number says; 13 and above say none.
pub record SaysLine (s : List ℕ) (slot : ℕ) (l : Line) (r : std.Option Said) : Type 0 where
  pub setting : slot < 13 → setting_at s r ≡ some (record { line = l.number; text = setting_of l })
  pub inside : Inside s r
