-- The fields that a word holds are those of its row in the table of tables, by the one law that reads a row back.
use Prim.Native.Nat.{ℕ, ◌+◌, ◌-◌, ◌^◌, ◌<◌}
use mathlib.Core.Path.{◌≡◌, ap, ◌∙◌}
use mathlib.Core.List.{List, [], ◌∷◌}
use native.Mathlib.Omega.{arith}
use Rattle.songcode.specs.Answer.Tables.{section_word, measure_word, head_bit}
use Rattle.songcode.specs.Description.Layout.{Row, sections_row, measures_row, beats_row, items_row, spare, laid, fields_of, Fit}
use Rattle.songcode.proofs.LayoutLaws.{words_laid}
use Rattle.songcode.proofs.CopyWords.{bit_small}
use Rattle.packing.specs.declared.fields.SectionFields.{SectionFields}
use Rattle.packing.specs.declared.fields.MeasureFields.{MeasureFields}
use Rattle.packing.specs.declared.fields.BeatFields.{BeatFields}
use Rattle.packing.specs.declared.fields.ItemFields.{ItemFields}
use Rattle.packing.specs.Fields.{HoldsSection, HoldsMeasure, packed_beat, HoldsBeat, HoldsItem}

row_read : (r : Row) (vs : List ℕ) (word low : ℕ) → Fit r.fields vs → low < 2 ^ spare r → word ≡ laid r vs + low → fields_of r word ≡ vs
row_read r vs word low f h e = ap (λ w. fields_of r w) e ∙ words_laid.read_back r vs low f h

pub section_row_lem : (word : ℕ) (s : SectionFields) → HoldsSection word s
    → fields_of sections_row word ≡ s.header ∷ s.first ∷ s.measures ∷ s.meter ∷ s.tempo ∷ []
unfolding section_word laid sections_row Fit
section_row_lem word s h =
    let e = h.packed in
    row_read sections_row (s.header ∷ s.first ∷ s.measures ∷ s.meter ∷ s.tempo ∷ []) word 0
    (h.header_fits, (h.first_fits, (h.measures_fits, (h.meter_fits, (h.tempo_fits, tt))))) (omega arith) (omega arith)

pub measure_row : (word : ℕ) (m : MeasureFields) → HoldsMeasure word m → fields_of measures_row word ≡ m.first ∷ m.beats ∷ []
unfolding measure_word laid measures_row Fit
measure_row word m h =
    let least = h.packed in
    let most = h.spare in
    row_read measures_row (m.first ∷ m.beats ∷ []) word (word - measure_word m.first m.beats) (h.first_fits, (h.beats_fits, tt))
    (omega arith) (omega arith)

pub beat_row : (word : ℕ) (b : BeatFields) → HoldsBeat word b → fields_of beats_row word ≡ b.base ∷ b.extension ∷ b.length ∷ head_bit b.head ∷ []
unfolding packed_beat laid beats_row Fit
beat_row word b h =
    let least = h.packed in
    let most = h.spare in
    let bit = bit_small b.head in
    row_read beats_row (b.base ∷ b.extension ∷ b.length ∷ head_bit b.head ∷ []) word (word - packed_beat b.base b.extension b.length b.head)
    (h.base_fits, (h.extension_fits, (h.length_fits, (omega arith, tt)))) (omega arith) (omega arith)

pub item_row : (word : ℕ) (i : ItemFields) → HoldsItem word i
    → fields_of items_row word ≡ i.offset ∷ i.length ∷ i.first ∷ i.measures ∷ i.style ∷ []
unfolding laid items_row Fit
item_row word i h =
    let e = h.packed in
    row_read items_row (i.offset ∷ i.length ∷ i.first ∷ i.measures ∷ i.style ∷ []) word 0
    (h.offset_fits, (h.length_fits, (h.first_fits, (h.measures_fits, (h.style_fits, tt))))) (omega arith) (omega arith)
