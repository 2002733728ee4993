-- "Bit-packed fields, most significant first, bits not named are 0": which fields a word holds, said by packing. Every field fits its
-- bits, and the fields packed are the word. Where a word has bits that are not named, these may hold anything: the fields packed are
-- the word but for them. So every word holds fields, one of a table or any other, and the proofs' `RoundTrips` says that it holds no
-- second ones.
use Rattle.std.specs.Prelude.{ℕ, ◌+◌, ◌*◌, ◌^◌, ◌<◌, ◌≤◌, ◌≡◌, Bool}
use Rattle.songcode.specs.Answer.Tables.{section_word, measure_word, head_bit}
use Rattle.packing.specs.declared.fields.SectionFields.{SectionFields}
use Rattle.packing.specs.declared.fields.MeasureFields.{MeasureFields}
use Rattle.packing.specs.declared.fields.BeatFields.{BeatFields}
use Rattle.packing.specs.declared.fields.ItemFields.{ItemFields}

-- sections: "header line 17, first measure 16, measures 16, N 6, bpm 9"
pub record HoldsSection (word : ℕ) (s : SectionFields) : Type 0 where
  pub packed : word ≡ section_word s.header s.first s.measures s.meter s.tempo
  pub header_fits : s.header < 2 ^ 17
  pub first_fits : s.first < 2 ^ 16
  pub measures_fits : s.measures < 2 ^ 16
  pub meter_fits : s.meter < 2 ^ 6
  pub tempo_fits : s.tempo < 2 ^ 9

-- measures: "first beat 21, beats 6"; the lowest 5 bits are not named.
pub record HoldsMeasure (word : ℕ) (m : MeasureFields) : Type 0 where
  pub packed : measure_word m.first m.beats ≤ word
  pub spare : word < measure_word m.first m.beats + 2 ^ 5
  pub first_fits : m.first < 2 ^ 21
  pub beats_fits : m.beats < 2 ^ 6

-- beats: "base 6 (63 silence), extension offset 16 (0 if empty), length 5, head 1"
unfoldable pub packed_beat : ℕ → ℕ → ℕ → Bool → ℕ
unfolding head_bit
packed_beat base extension length head = base * 2 ^ 26 + extension * 2 ^ 10 + length * 2 ^ 5 + head_bit head * 2 ^ 4

-- The lowest 4 bits are not named.
pub record HoldsBeat (word : ℕ) (b : BeatFields) : Type 0 where
  pub packed : packed_beat b.base b.extension b.length b.head ≤ word
  pub spare : word < packed_beat b.base b.extension b.length b.head + 2 ^ 4
  pub base_fits : b.base < 2 ^ 6
  pub extension_fits : b.extension < 2 ^ 16
  pub length_fits : b.length < 2 ^ 5

-- items: "text offset 16, length 16, first measure 16, measures 14, style 2"
abbrev pub packed_item : ℕ → ℕ → ℕ → ℕ → ℕ → ℕ
packed_item offset length first measures style = offset * 2 ^ 48 + length * 2 ^ 32 + first * 2 ^ 16 + measures * 2 ^ 2 + style

pub record HoldsItem (word : ℕ) (i : ItemFields) : Type 0 where
  pub packed : word ≡ packed_item i.offset i.length i.first i.measures i.style
  pub offset_fits : i.offset < 2 ^ 16
  pub length_fits : i.length < 2 ^ 16
  pub first_fits : i.first < 2 ^ 16
  pub measures_fits : i.measures < 2 ^ 14
  pub style_fits : i.style < 2 ^ 2
