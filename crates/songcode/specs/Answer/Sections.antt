-- A section's lines: which is what; what is complained of, by the rows of "What stops a chart"; and the section that they say.
use Rattle.std.specs.Prelude.{ℕ, Bool, true, false, ◌&&◌, not, eqb, leb}
use Prim.Native.Char.{code}
use mathlib.Core.List.{List, [], ◌∷◌, ◌++◌, map, flat_map, filter_map}
use Rattle.std.proofs.Math.Option.{Option, none, some, get_or, bind}
use Rattle.songcode.specs.Lists.{provided◌then◌else◌, taken, left, is_empty, any, is_some, prepend}
use Rattle.songcode.specs.Bytes.{Byte, is, is_byte, is_letter}
use Rattle.songcode.specs.Answer.Characters.{characters}
use Rattle.songcode.specs.Answer.Chords.{Reading, chord_in}
use Rattle.songcode.specs.Answer.Lines.{Line, Block}
use Rattle.songcode.specs.Complaints.{Complaint, complaint, complain_if}
use Rattle.songcode.specs.Song.{KeyName, Key, Modifier, Pattern, named, Section, LyricLine}
use Rattle.songcode.specs.Answer.Keys.{name_in, setting_in, key_named, is_setting, of_section, key_place}
use Rattle.songcode.specs.Answer.Modifiers.{ModifierName, modifier_named, modifier_in_as, setting_refusal, modifier_place, modifiers_said}
use Rattle.songcode.specs.Answer.PatternText.{section_text_as}

-- "a line starting with `@` is a key and one starting with `_` and an ASCII letter a modifier, wherever it stands; any other is a pattern line"
pub data Kind : Type 0 where
  key_line modifier_line pattern_line : Kind

unfoldable pub kind_of : List Byte → Kind
unfolding provided◌then◌else◌ is_byte is_letter
kind_of [] = pattern_line
kind_of (b ∷ []) = provided is_byte (code "@") b then key_line else pattern_line
kind_of (b ∷ c ∷ bs) =
    provided is_byte (code "@") b then key_line else provided is_byte (code "_") b && is_letter c then modifier_line else pattern_line

unfoldable pub kind_of_line : Line → Kind
unfolding kind_of
kind_of_line l = kind_of l.text

unfoldable pub is_pattern_line : Line → Bool
unfolding kind_of_line
is_pattern_line l = elim (kind_of_line l) [ key_line ↦ false | modifier_line ↦ false | pattern_line ↦ true ]

unfoldable pub not_pattern_line : Line → Bool
unfolding is_pattern_line
not_pattern_line l = not (is_pattern_line l)

unfoldable pub is_key_line : Line → Bool
unfolding kind_of_line
is_key_line l = elim (kind_of_line l) [ key_line ↦ true | modifier_line ↦ false | pattern_line ↦ false ]

unfoldable pub not_key_line : Line → Bool
unfolding is_key_line
not_key_line l = not (is_key_line l)

-- A line without its first byte.
unfoldable pub behind_first : List Byte → List Byte
behind_first [] = []
behind_first (b ∷ bs) = bs

-- The name and the setting of a key or modifier line.
unfoldable pub name_of : Line → List Byte
unfolding name_in behind_first
name_of l = name_in (behind_first l.text)

unfoldable pub setting_of : Line → List Byte
unfolding setting_in behind_first
setting_of l = setting_in (behind_first l.text)

unfoldable pub key_name_of : Line → Option KeyName
unfolding key_named name_of
key_name_of l = key_named (name_of l)

-- Rows 4 and 5, of a key by itself: "key unknown, ... or not allowed here"; "setting of a key ... malformed or out of range".
unfoldable pub key_faults_by : (KeyName → Bool) → Option KeyName → Line → List Complaint
unfolding complain_if is_setting setting_of
key_faults_by allowed none l = complaint 4 l.number ∷ []
key_faults_by allowed (some k) l =
    complain_if (not (allowed k)) 4 l.number ++ complain_if (not (is_setting k (setting_of l))) 5 l.number

unfoldable pub key_faults : (KeyName → Bool) → Line → List Complaint
unfolding key_faults_by key_name_of
key_faults allowed l = key_faults_by allowed (key_name_of l) l

-- The key that a key line says.
unfoldable pub key_of : Line → Option Key
unfolding key_name_of setting_of bind
key_of l = bind (key_name_of l) (λ k. some (record { key = k; setting = setting_of l }))

unfoldable pub modifier_name_of : Line → Option ModifierName
unfolding modifier_named name_of
modifier_name_of l = modifier_named (name_of l)

unfoldable pub modifier_of_as : Reading → Line → Option Modifier
unfolding modifier_name_of modifier_in_as setting_of bind
modifier_of_as read l = bind (modifier_name_of l) (λ m. modifier_in_as read m l.number (setting_of l))

-- Rows 5, 7 and 8, of a modifier by itself: "setting of a ... repeat or cut malformed or out of range"; "pattern text against the rules", "lead-in, tail: own";
-- "unknown ... modifier".
unfoldable pub modifier_faults_by_as : Reading → Option ModifierName → Line → List Complaint
unfolding complain_if is_some modifier_in_as setting_refusal setting_of
modifier_faults_by_as read none l = complaint 8 l.number ∷ []
modifier_faults_by_as read (some m) l = complain_if (not (is_some (modifier_in_as read m l.number (setting_of l)))) (setting_refusal m) l.number

unfoldable pub modifier_faults_as : Reading → Line → List Complaint
unfolding modifier_faults_by_as modifier_name_of
modifier_faults_as read l = modifier_faults_by_as read (modifier_name_of l) l

-- Rows 4, 6 and 8, "twice" and "doubled": complained of where an earlier line says the same. A line's kind of thing is numbered, if it has one.
unfoldable pub twice_by : ℕ → Option ℕ → List ℕ → Line → List Complaint
unfolding complain_if any
twice_by number none seen l = []
twice_by number (some k) seen l = complain_if (any (λ x. eqb x k) seen) number l.number

unfoldable pub twice : ℕ → (Line → Option ℕ) → List ℕ → List Line → List Complaint
unfolding twice_by prepend
twice number said seen [] = []
twice number said seen (l ∷ ls) = twice_by number (said l) seen l ++ twice number said (prepend (said l) seen) ls

unfoldable pub key_said : Line → Option ℕ
unfolding kind_of_line key_name_of bind key_place
key_said l = elim (kind_of_line l) [ key_line ↦ bind (key_name_of l) (λ k. some (key_place k)) | modifier_line ↦ none | pattern_line ↦ none ]

unfoldable pub modifier_said : Line → Option ℕ
unfolding kind_of_line modifier_name_of bind modifier_place
modifier_said l = elim (kind_of_line l) [ key_line ↦ none | modifier_line ↦ bind (modifier_name_of l) (λ m. some (modifier_place m)) | pattern_line ↦ none ]

-- A line's own faults.
unfoldable pub faults_by_as : Reading → Kind → Line → List Complaint
unfolding key_faults of_section modifier_faults_as
faults_by_as read key_line l = key_faults of_section l
faults_by_as read modifier_line l = modifier_faults_as read l
faults_by_as read pattern_line l = []

unfoldable pub faults_as : Reading → Line → List Complaint
unfolding faults_by_as kind_of_line
faults_as read l = faults_by_as read (kind_of_line l) l

-- "the pattern is their first run"; what stands from its end on.
unfoldable pub pattern_run : List Line → List Line
unfolding taken left is_pattern_line not_pattern_line
pattern_run ls = taken is_pattern_line (left not_pattern_line ls)

unfoldable pub past_run : List Line → List Line
unfolding left is_pattern_line not_pattern_line
past_run ls = left is_pattern_line (left not_pattern_line ls)

-- Rows 4 and 8: "Out of place are a key after a pattern or modifier line, a modifier before the pattern, a pattern line past that run", by the lines before it.
unfoldable pub misplaced : Kind → List Line → Line → List Complaint
unfolding complain_if any not_key_line is_pattern_line is_empty past_run
misplaced key_line before l = complain_if (any not_key_line before) 4 l.number
misplaced modifier_line before l = complain_if (not (any is_pattern_line before)) 8 l.number
misplaced pattern_line before l = complain_if (not (is_empty (past_run before))) 8 l.number

unfoldable pub order : List Line → List Line → List Complaint
unfolding misplaced kind_of_line
order before [] = []
order before (l ∷ ls) = misplaced (kind_of_line l) before l ++ order (before ++ (l ∷ [])) ls

-- Rows 7 and 8: "pattern text against the rules", on its first line; "no pattern line", on the header.
unfoldable pub pattern_in_as : Reading → List Line → Option Pattern
unfolding section_text_as
pattern_in_as read [] = none
pattern_in_as read (l ∷ ls) = section_text_as read l ls

unfoldable pub pattern_faults_as : Reading → ℕ → List Line → List Complaint
unfolding complain_if is_some section_text_as
pattern_faults_as read header [] = complaint 8 header ∷ []
pattern_faults_as read header (l ∷ ls) = complain_if (not (is_some (section_text_as read l ls))) 7 l.number

-- Row 8, "name empty or long": "name of 1 to 50 characters up to the first `!`".
unfoldable pub header_faults : Line → List Complaint
unfolding complain_if characters taken is_byte
header_faults l =
    let n = characters (taken (λ b. not (is_byte (code "!") b)) l.text) in
    complain_if (not (leb 1 n && leb n 50)) 8 l.number

-- Row 8, "`--` without lyrics", on the `--`: "then, if wanted, `--` alone and one or more lyric lines, free text to the block's end".
unfoldable pub not_dashes : Line → Bool
unfolding is
not_dashes l = not (is "--" l.text)

unfoldable pub lyric_faults : List Line → List Complaint
unfolding complain_if is_empty
lyric_faults [] = []
lyric_faults (dashes ∷ ls) = complain_if (is_empty ls) 8 dashes.number

unfoldable pub lyric_line : Line → LyricLine
lyric_line l = record { number = l.number; text = l.text }

unfoldable pub lyrics_in : List Line → List LyricLine
unfolding lyric_line
lyrics_in [] = []
lyrics_in (dashes ∷ ls) = map lyric_line ls

-- The lines behind the header and before the `--`; the `--` and what stands behind it.
unfoldable pub body : Block → List Line
unfolding taken not_dashes
body b = taken not_dashes b.others

unfoldable pub from_dashes : Block → List Line
unfolding left not_dashes
from_dashes b = left not_dashes b.others

unfoldable pub section_faults_as : Reading → Block → List Complaint
unfolding header_faults flat_map faults_as order twice key_said modifier_said pattern_faults_as pattern_run lyric_faults body from_dashes
section_faults_as read b =
    header_faults b.first
    ++ order [] (body b)
    ++ twice 4 key_said [] (body b)
    ++ twice 8 modifier_said [] (body b)
    ++ flat_map (faults_as read) (body b)
    ++ pattern_faults_as read b.first.number (pattern_run (body b))
    ++ lyric_faults (from_dashes b)

-- The section that the block says, if nothing is complained of.
unfoldable pub key_in : Line → Option Key
unfolding kind_of_line key_of
key_in l = elim (kind_of_line l) [ key_line ↦ key_of l | modifier_line ↦ none | pattern_line ↦ none ]

unfoldable pub modifier_by_as : Reading → Kind → Line → Option Modifier
unfolding modifier_of_as
modifier_by_as read key_line l = none
modifier_by_as read modifier_line l = modifier_of_as read l
modifier_by_as read pattern_line l = none

unfoldable pub modifier_on_as : Reading → Line → Option Modifier
unfolding modifier_by_as kind_of_line
modifier_on_as read l = modifier_by_as read (kind_of_line l) l

unfoldable pub section_in_as : Reading → Block → Section
unfolding filter_map key_in modifier_on_as modifiers_said pattern_in_as pattern_run lyrics_in body from_dashes
section_in_as read b =
    record {
      header = b.first.number;
      keys = filter_map key_in (body b);
      pattern = get_or (pattern_in_as read (pattern_run (body b))) (named 0);
      modifiers = modifiers_said (filter_map (modifier_on_as read) (body b));
      lyrics = lyrics_in (from_dashes b);
    }

-- The same with chords as they are read today.
unfoldable abbrev pub modifier_of : Line → Option Modifier
unfolding modifier_of_as chord_in
modifier_of = modifier_of_as chord_in

unfoldable abbrev pub modifier_faults_by : Option ModifierName → Line → List Complaint
unfolding modifier_faults_by_as chord_in
modifier_faults_by = modifier_faults_by_as chord_in

unfoldable abbrev pub modifier_faults : Line → List Complaint
unfolding modifier_faults_as chord_in
modifier_faults = modifier_faults_as chord_in

unfoldable abbrev pub faults : Line → List Complaint
unfolding faults_as chord_in
faults = faults_as chord_in

unfoldable abbrev pub pattern_in : List Line → Option Pattern
unfolding pattern_in_as chord_in
pattern_in = pattern_in_as chord_in

unfoldable abbrev pub pattern_faults : ℕ → List Line → List Complaint
unfolding pattern_faults_as chord_in
pattern_faults = pattern_faults_as chord_in

unfoldable abbrev pub section_faults : Block → List Complaint
unfolding section_faults_as chord_in
section_faults = section_faults_as chord_in

unfoldable abbrev pub modifier_on : Line → Option Modifier
unfolding modifier_on_as chord_in
modifier_on = modifier_on_as chord_in

unfoldable abbrev pub section_in : Block → Section
unfolding section_in_as chord_in
section_in = section_in_as chord_in
