-- A word holds one reading of its fields; so what was packed into a word of the tables is what is read from it.
use Prim.Native.Nat.{ℕ, ◌^◌, ◌<◌}
use mathlib.Core.Path.{◌≡◌, refl}
use mathlib.Core.Bool.{Bool}
use mathlib.Core.Option.{none, some}
use native.Mathlib.Omega.{arith}
use lib.ListN.{length}
use Rattle.songcode.specs.Answer.Chords.{Chord}
use Rattle.songcode.specs.Answer.Lyrics.{Prompt}
use Rattle.songcode.specs.Description.Joined.{first_beat, beat_count, first_measure, measure_count, section_bpm}
use Rattle.songcode.specs.Answer.Tables.{offset, section_word, measure_word, beat_by, item_word}
use Rattle.packing.specs.declared.fields.SectionFields.{SectionFields}
use Rattle.packing.specs.declared.fields.MeasureFields.{MeasureFields}
use Rattle.packing.specs.declared.fields.BeatFields.{BeatFields}
use Rattle.packing.specs.declared.fields.ItemFields.{ItemFields}
use Rattle.songcode.proofs.CopyWords.{bit_small}
use Rattle.packing.proofs.Bits.{bit_one}
use Rattle.packing.specs.Fields.{HoldsSection, HoldsMeasure, packed_beat, HoldsBeat, HoldsItem}

-- A word holds one section.
pub one_section : {word : ℕ} {s t : SectionFields} → HoldsSection word s → HoldsSection word t → s ≡ t
unfolding section_word
one_section {s = s} {t = t} h g =
    let header : s.header ≡ t.header = omega arith in
    let first : s.first ≡ t.first = omega arith in
    let measures : s.measures ≡ t.measures = omega arith in
    let meter : s.meter ≡ t.meter = omega arith in
    let tempo : s.tempo ≡ t.tempo = omega arith in
    λ i. record { header = header i; first = first i; measures = measures i; meter = meter i; tempo = tempo i }

-- A word holds one measure.
pub one_measure : {word : ℕ} {m n : MeasureFields} → HoldsMeasure word m → HoldsMeasure word n → m ≡ n
unfolding measure_word
one_measure {m = m} {n = n} h g =
    let first : m.first ≡ n.first = omega arith in
    let beats : m.beats ≡ n.beats = omega arith in
    λ i. record { first = first i; beats = beats i }

-- A word holds one beat.
pub one_beat : {word : ℕ} {b c : BeatFields} → HoldsBeat word b → HoldsBeat word c → b ≡ c
unfolding packed_beat
one_beat {b = b} {c = c} h g =
    let small = bit_small b.head in
    let small' = bit_small c.head in
    let base : b.base ≡ c.base = omega arith in
    let extension : b.extension ≡ c.extension = omega arith in
    let length : b.length ≡ c.length = omega arith in
    let head : b.head ≡ c.head = bit_one b.head c.head (omega arith) in
    λ i. record { base = base i; extension = extension i; length = length i; head = head i }

-- A word holds one item.
pub one_item : {word : ℕ} {a b : ItemFields} → HoldsItem word a → HoldsItem word b → a ≡ b
one_item {a = a} {b = b} h g =
    let offset : a.offset ≡ b.offset = omega arith in
    let length : a.length ≡ b.length = omega arith in
    let first : a.first ≡ b.first = omega arith in
    let measures : a.measures ≡ b.measures = omega arith in
    let style : a.style ≡ b.style = omega arith in
    λ i. record { offset = offset i; length = length i; first = first i; measures = measures i; style = style i }

-- A section's word gives back what it was made of.
pub section_read : {header first measures meter tempo : ℕ} → header < 2 ^ 17 → first < 2 ^ 16 → measures < 2 ^ 16 → meter < 2 ^ 6
    → tempo < 2 ^ 9 → {s : SectionFields} → HoldsSection (section_word header first measures meter tempo) s
    → s ≡ record { header = header; first = first; measures = measures; meter = meter; tempo = tempo }
section_read header first measures meter tempo h =
    one_section
    h
    (record {
      packed = refl;
      header_fits = header;
      first_fits = first;
      measures_fits = measures;
      meter_fits = meter;
      tempo_fits = tempo;
    })

-- A measure's word gives back what it was made of.
pub measure_read : {first beats : ℕ} → first < 2 ^ 21 → beats < 2 ^ 6 → {m : MeasureFields} → HoldsMeasure (measure_word first beats) m
    → m ≡ record { first = first; beats = beats }
measure_read first beats h =
    one_measure
    h
    (record { packed = omega arith; spare = omega arith; first_fits = first; beats_fits = beats })

-- The fields that a section's word holds are those that the definitions take out of it.
pub section_fields : {word : ℕ} {s : SectionFields} → HoldsSection word s
    → (s.first ≡ first_measure word) × (s.measures ≡ measure_count word) × (s.tempo ≡ section_bpm word)
unfolding section_word first_measure measure_count section_bpm
section_fields h = (omega arith, omega arith, omega arith)

-- The fields that a measure's word holds are those that the definitions take out of it.
pub measure_fields : {word : ℕ} {m : MeasureFields} → HoldsMeasure word m → (m.first ≡ first_beat word) × (m.beats ≡ beat_count word)
unfolding measure_word first_beat beat_count
measure_fields h = (omega arith, omega arith)

-- A chord's word gives back its base, the place and length of its extension, and its head.
pub chord_read : (c : Chord) (head : Bool) → c.base < 2 ^ 6 → offset c.extension < 2 ^ 16 → length c.extension < 2 ^ 5
    → {b : BeatFields} → HoldsBeat (beat_by (some c) head) b
    → b ≡ record { base = c.base; extension = offset c.extension; length = length c.extension; head = head }
unfolding beat_by packed_beat
chord_read c head base extension size h =
    one_beat
    h
    (record {
      packed = omega arith;
      spare = omega arith;
      base_fits = base;
      extension_fits = extension;
      length_fits = size;
    })

-- The word of a silence gives back base 63, no extension, and its head.
pub silence_read : (head : Bool) {b : BeatFields} → HoldsBeat (beat_by none head) b → b ≡ record { base = 63; extension = 0; length = 0; head = head }
unfolding beat_by packed_beat
silence_read head h =
    one_beat
    h
    (record {
      packed = omega arith;
      spare = omega arith;
      base_fits = omega arith;
      extension_fits = omega arith;
      length_fits = omega arith;
    })

-- An item's word gives back the place and length of its text, its first measure, its measures and its style.
pub item_read : (p : Prompt) → offset p.words.text < 2 ^ 16 → length p.words.text < 2 ^ 16 → p.first < 2 ^ 16
    → p.measures < 2 ^ 14 → p.words.style < 2 ^ 2 → {i : ItemFields} → HoldsItem (item_word p) i
    → i ≡ record {
      offset = offset p.words.text;
      length = length p.words.text;
      first = p.first;
      measures = p.measures;
      style = p.words.style;
    }
unfolding item_word
item_read p place size first measures style h =
    one_item
    h
    (record {
      packed = refl;
      offset_fits = place;
      length_fits = size;
      first_fits = first;
      measures_fits = measures;
      style_fits = style;
    })
