-- What stage 4 finds of a section, from the outlines of its texts.
use Rattle.std.specs.Prelude.{ℕ, min, not, Option, Some, None}
use Rattle.songcode.specs.Complaints.{complain_if}
use Rattle.refusals.specs.Ranks.{least, none}
use Rattle.outlines.specs.declared.readings.Outline.{Outline}
use Rattle.outlines.specs.Sizes.{divides}
use Rattle.sections.specs.declared.slots.Said.{Said}
use Rattle.sections.specs.declared.values.Modifiers.{Modifiers}
use Rattle.laying.specs.declared.texts.Texts.{Texts}

abbrev pub text_fault : Outline → ℕ → ℕ → ℕ
text_fault o n line = min (least (complain_if (not (divides o.sizes n)) 12 line)) (least (complain_if o.wants 13 line))

-- A lead-in or tail that is not said is complained of nowhere.
abbrev pub side_fault : Option Said → Outline → ℕ → ℕ
side_fault None o n = none
side_fault (Some x) o n = text_fault o n x.line

abbrev pub meter_fault : ℕ → Modifiers → Texts → ℕ → ℕ
meter_fault header m t n =
    min (text_fault t.pattern.outline n header)
    (min (side_fault m.before t.lead.outline n) (side_fault m.after t.tail.outline n))
