-- What requests 2 and 4 leave alone: a chord as it was read before each, and the songs that are answered as by it, word for word.
use Rattle.std.specs.Prelude.{ℕ, ◌≡◌, false}
use mathlib.Core.List.{List, ◌++◌, reverse, Memᴰ}
use Rattle.std.proofs.Math.Option.{none, some}
use Rattle.std.proofs.Math.ListN.{get_elem?}
use Rattle.songcode.specs.Lists.{any}
use Rattle.songcode.specs.Bytes.{Byte, placed, values, ascii, begins}
use Rattle.songcode.specs.Answer.Lines.{Line, Block}
use Rattle.songcode.specs.Answer.Chords.{bases, longest_from, longest_base, Chord, Reading, chord_by, is_slip, without_slip}
use Rattle.songcode.specs.Answer.Modifiers.{of_before, of_after}
use Rattle.songcode.specs.Answer.Sections.{modifier_line, kind_of_line, modifier_name_of, setting_of, pattern_run, body}
use Rattle.songcode.specs.Answer.SongText.{definition_blocks, section_blocks}
use Rattle.songcode.specs.Answer.Answer.{Room, blocks_of, answer_as, answer, song_answer_as, song_answer}
use Rattle.songcode.specs.Description.WrittenPattern.{Plain, NoPlain}

-- A chord by document 01, before both: "the base is the longest that fits", "extensions aren't checked".
unfoldable pub as_at_first : Reading
unfolding longest_from begins bases values chord_by
as_at_first w = chord_by (longest_from begins 0 bases (values w) none) w

-- A chord before request 2, and one before request 4.
unfoldable pub by_longest : Reading
unfolding as_at_first without_slip
by_longest w = without_slip (as_at_first w)

unfoldable pub unchecked : Reading
unfolding chord_by longest_base
unchecked w = chord_by (longest_base w) w

-- The texts of a file in which chords stand: the lines of definitions and of sections' patterns, and what is set by `_before` and `_after`.
-- The laws below ask nothing of its other bytes: letters in keys, headers and lyrics are no chords, and a song may be called `Cmaj7`.
pub data ChordText (bs : List Block) : List Byte → Type 0 where
  in_definition_lem : (b : Block) (l : Line) → Memᴰ b (definition_blocks bs) → Memᴰ l b.others → ChordText bs l.text
  in_pattern : (b : Block) (l : Line) → Memᴰ b (section_blocks bs) → Memᴰ l (pattern_run (body b)) → ChordText bs l.text
  in_lead_in : (b : Block) (l : Line) → Memᴰ b (section_blocks bs) → Memᴰ l (body b) → kind_of_line l ≡ modifier_line
      → modifier_name_of l ≡ some of_before → ChordText bs (setting_of l)
  in_tail : (b : Block) (l : Line) → Memᴰ b (section_blocks bs) → Memᴰ l (body b) → kind_of_line l ≡ modifier_line
      → modifier_name_of l ≡ some of_after → ChordText bs (setting_of l)

-- A word of a text: plain bytes, and none beside them.
pub record WordOf (text w : List Byte) : Type 0 where
  pub before : List Byte
  pub behind : List Byte
  pub joined : text ≡ before ++ (w ++ behind)
  pub plainly : Plain w
  pub none_before : NoPlain (reverse before)
  pub none_behind : NoPlain behind

-- No `maj` follows a base: no word begins with a base and these letters. Further on in a word they are an extension's, as in `A/Cmaj7`.
abbrev pub NoMaj : List Byte → Type 0
NoMaj text = (w : List Byte) → WordOf text w → (base rest : List ℕ) (n : ℕ) → get_elem? bases n ≡ some base → values w ≡ base ++ (ascii "maj" ++ rest) → ⊥

-- None of the four bytes stands in an extension.
abbrev pub NoSlips : List Byte → Type 0
NoSlips text = (w : List Byte) → WordOf text w → (c : Chord) → unchecked w ≡ some c → any is_slip c.extension ≡ false

-- All texts in which a file's chords stand are so.
abbrev pub OfChords : (List Byte → Type 0) → List ℕ → Type 0
OfChords P bs = (text : List Byte) → ChordText (blocks_of bs) text → P text

-- A file is answered as by another way to read a chord, the refusal and its line or every table word: whatever tables are lent, and without any.
pub record AnsweredAs (read : Reading) (bs : List ℕ) : Type 0 where
  pub with_tables : (room : Room) → answer room bs ≡ answer_as read room bs
  pub without_tables : song_answer bs ≡ song_answer_as read bs

pub record AsBefore : Type 0 where
  -- Before, `Cmaj7` came up as C minor and `A=` as a chord.
  pub came_up_minor : by_longest (placed 0 (ascii "Cmaj7")) ≡ some (record { base = 12; extension = placed 2 (ascii "aj7") })
  pub shown_as_chord : unchecked (placed 0 (ascii "A=")) ≡ some (record { base = 0; extension = placed 1 (ascii "=") })
  pub both_at_first : as_at_first (placed 0 (ascii "Cmaj=")) ≡ some (record { base = 12; extension = placed 2 (ascii "aj=") })
  -- Request 2: a song in which no `maj` follows a base reads as before, word for word.
  pub without_maj : (bs : List ℕ) → OfChords NoMaj bs → AnsweredAs by_longest bs
  -- Request 4: a song without the four bytes in extensions reads as before, word for word.
  pub without_slips : (bs : List ℕ) → OfChords NoSlips bs → AnsweredAs unchecked bs
  -- Both: a song without either reads as by document 01 alone.
  pub without_either : (bs : List ℕ) → OfChords NoMaj bs → OfChords NoSlips bs → AnsweredAs as_at_first bs
