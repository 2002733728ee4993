-- "Bit-packed fields, most significant first, bits not named are 0": the words of the five tables.
use Rattle.std.specs.Prelude.{ℕ, ◌+◌, ◌*◌, ◌^◌, Bool, true, false, length}
use mathlib.Core.List.{List, [], ◌∷◌, map, flat_map}
use Rattle.std.proofs.Math.Option.{Option, none, some}
use Rattle.songcode.specs.Bytes.{Byte}
use Rattle.songcode.specs.Answer.Chords.{Chord}
use Rattle.songcode.specs.Song.{KeyName, name, artist, original, capo, bpm, time, warning, end, Section, Song, Beat}
use Rattle.songcode.specs.Answer.Playing.{setting_named, time_of, bpm_of, played}
use Rattle.songcode.specs.Answer.Lyrics.{Prompt, prompts}

-- The place of a text: that of its first byte, 0 if it is empty.
unfoldable pub offset : List Byte → ℕ
offset [] = 0
offset (b ∷ bs) = b.place

-- keys: "present 1, offset 16, length 9 (absent: all 0)"
unfoldable pub key_word : Option (List Byte) → ℕ
unfolding offset
key_word none = 0
key_word (some bs) = 2 ^ 31 + offset bs * 2 ^ 15 + length bs * 2 ^ 6

unfoldable pub key_order : List KeyName
key_order = name ∷ artist ∷ original ∷ capo ∷ bpm ∷ time ∷ warning ∷ end ∷ []

unfoldable pub key_words : Song → List ℕ
unfolding key_word setting_named key_order
key_words s = map (λ k. key_word (setting_named k s.keys)) key_order

-- sections: "header line 17, first measure 16, measures 16, N 6, bpm 9"
unfoldable pub section_word : ℕ → ℕ → ℕ → ℕ → ℕ → ℕ
section_word header first measures n tempo = header * 2 ^ 47 + first * 2 ^ 31 + measures * 2 ^ 15 + n * 2 ^ 9 + tempo

unfoldable pub section_words : Song → ℕ → List Section → List ℕ
unfolding section_word played time_of bpm_of
section_words s first [] = []
section_words s first (x ∷ xs) =
    section_word x.header first (length (played s x)) (time_of s x) (bpm_of s x)
    ∷ section_words s (first + length (played s x)) xs

-- The measures of the whole song, section after section.
unfoldable pub all_measures : Song → List (List Beat)
unfolding flat_map played
all_measures s = flat_map (played s) s.sections

-- measures: "first beat 21, beats 6"
unfoldable pub measure_word : ℕ → ℕ → ℕ
measure_word first beats = first * 2 ^ 11 + beats * 2 ^ 5

unfoldable pub measure_words : ℕ → List (List Beat) → List ℕ
unfolding measure_word
measure_words first [] = []
measure_words first (m ∷ ms) = measure_word first (length m) ∷ measure_words (first + length m) ms

-- beats: "base 6 (63 silence), extension offset 16 (0 if empty), length 5, head 1"
unfoldable pub head_bit : Bool → ℕ
head_bit true = 1
head_bit false = 0

unfoldable pub beat_by : Option Chord → Bool → ℕ
unfolding head_bit offset
beat_by none h = 63 * 2 ^ 26 + head_bit h * 2 ^ 4
beat_by (some c) h = c.base * 2 ^ 26 + offset c.extension * 2 ^ 10 + length c.extension * 2 ^ 5 + head_bit h * 2 ^ 4

unfoldable pub beat_word : Beat → ℕ
unfolding beat_by
beat_word b = beat_by b.sounds b.head

-- items: "text offset 16, length 16, first measure 16, measures 14, style 2"
unfoldable pub item_word : Prompt → ℕ
unfolding offset
item_word p =
    offset p.words.text * 2 ^ 48
    + length p.words.text * 2 ^ 32
    + p.first * 2 ^ 16
    + p.measures * 2 ^ 2
    + p.words.style

-- The words of the five tables.
pub record Tables : Type 0 where
  pub keys : List ℕ
  pub sections : List ℕ
  pub measures : List ℕ
  pub beats : List ℕ
  pub items : List ℕ

unfoldable pub tables : Song → Tables
unfolding key_words section_words measure_words flat_map beat_word all_measures item_word prompts
tables s =
    record {
      keys = key_words s;
      sections = section_words s 0 s.sections;
      measures = measure_words 0 (all_measures s);
      beats = flat_map (map beat_word) (all_measures s);
      items = map item_word (prompts s);
    }
