-- What is promised of the fields of words: no word holds two readings; what was packed into a word of the tables is what is read from it; and the
-- words of sections and measures hold the fields that the definitions take out of them.
use Rattle.std.specs.Prelude.{ℕ, ◌^◌, ◌<◌, ◌≡◌, [], ◌∷◌, Bool, length}
use Rattle.std.proofs.Math.Option.{none, some}
use Rattle.songcode.specs.Answer.Chords.{Chord}
use Rattle.songcode.specs.Answer.Lyrics.{Prompt}
use Rattle.songcode.specs.Description.Joined.{first_beat, beat_count, first_measure, measure_count, section_bpm}
use Rattle.songcode.specs.Answer.Tables.{offset, section_word, measure_word, head_bit, beat_by, item_word}
use Rattle.songcode.specs.Description.Layout.{sections_row, measures_row, beats_row, items_row, fields_of}
use Rattle.packing.specs.declared.fields.SectionFields.{SectionFields}
use Rattle.packing.specs.declared.fields.MeasureFields.{MeasureFields}
use Rattle.packing.specs.declared.fields.BeatFields.{BeatFields}
use Rattle.packing.specs.declared.fields.ItemFields.{ItemFields}
use Rattle.packing.specs.Fields.{HoldsSection, HoldsMeasure, HoldsBeat, HoldsItem}

pub record ReadBack : Type 0 where
  pub one_section : (word : ℕ) (s t : SectionFields) → HoldsSection word s → HoldsSection word t → s ≡ t
  pub one_measure : (word : ℕ) (m n : MeasureFields) → HoldsMeasure word m → HoldsMeasure word n → m ≡ n
  pub one_beat : (word : ℕ) (b c : BeatFields) → HoldsBeat word b → HoldsBeat word c → b ≡ c
  pub one_item : (word : ℕ) (a b : ItemFields) → HoldsItem word a → HoldsItem word b → a ≡ b
  -- Round trips: the fields that fit come back, whatever holds them.
  pub section_read : (header first measures meter tempo : ℕ) → header < 2 ^ 17 → first < 2 ^ 16 → measures < 2 ^ 16 → meter < 2 ^ 6 → tempo < 2 ^ 9
      → (s : SectionFields) → HoldsSection (section_word header first measures meter tempo) s
      → s ≡ record { header = header; first = first; measures = measures; meter = meter; tempo = tempo }
  pub measure_read : (first beats : ℕ) → first < 2 ^ 21 → beats < 2 ^ 6 → (m : MeasureFields) → HoldsMeasure (measure_word first beats) m
      → m ≡ record { first = first; beats = beats }
  pub chord_read : (c : Chord) (head : Bool) → c.base < 2 ^ 6 → offset c.extension < 2 ^ 16 → length c.extension < 2 ^ 5
      → (b : BeatFields) → HoldsBeat (beat_by (some c) head) b
      → b ≡ record { base = c.base; extension = offset c.extension; length = length c.extension; head = head }
  pub silence_read : (head : Bool) (b : BeatFields) → HoldsBeat (beat_by none head) b → b ≡ record { base = 63; extension = 0; length = 0; head = head }
  pub item_read : (p : Prompt) → offset p.words.text < 2 ^ 16 → length p.words.text < 2 ^ 16 → p.first < 2 ^ 16 → p.measures < 2 ^ 14
      → p.words.style < 2 ^ 2 → (i : ItemFields) → HoldsItem (item_word p) i
      → i ≡ record { offset = offset p.words.text; length = length p.words.text; first = p.first; measures = p.measures; style = p.words.style }
  -- The definitions that take fields out of words take these.
  pub section_fields : (word : ℕ) (s : SectionFields) → HoldsSection word s
      → (s.first ≡ first_measure word) × (s.measures ≡ measure_count word) × (s.tempo ≡ section_bpm word)
  pub measure_fields : (word : ℕ) (m : MeasureFields) → HoldsMeasure word m → (m.first ≡ first_beat word) × (m.beats ≡ beat_count word)
  -- They are the fields of the word's row in the table of tables, as `songcode` reads a row back.
  pub section_row_lem : (word : ℕ) (s : SectionFields) → HoldsSection word s
      → fields_of sections_row word ≡ s.header ∷ s.first ∷ s.measures ∷ s.meter ∷ s.tempo ∷ []
  pub measure_row : (word : ℕ) (m : MeasureFields) → HoldsMeasure word m → fields_of measures_row word ≡ m.first ∷ m.beats ∷ []
  pub beat_row : (word : ℕ) (b : BeatFields) → HoldsBeat word b → fields_of beats_row word ≡ b.base ∷ b.extension ∷ b.length ∷ head_bit b.head ∷ []
  pub item_row : (word : ℕ) (i : ItemFields) → HoldsItem word i
      → fields_of items_row word ≡ i.offset ∷ i.length ∷ i.first ∷ i.measures ∷ i.style ∷ []
