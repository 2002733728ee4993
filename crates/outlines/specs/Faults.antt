-- What is wrong with the references of a text, read word by word.
use Rattle.std.specs.Prelude.{ℕ, ◌+◌, ◌-◌, List, [], ◌∷◌, Bool, false, ◌||◌, ltb, Option, Some, None}
use Rattle.songcode.specs.Lists.{provided◌then◌else◌}
use Rattle.songcode.specs.Answer.PatternText.{loops_deep}
use Rattle.refusals.specs.declared.names.Why.{Why}
use Rattle.refusals.specs.declared.names.Why.TheVariants.{ReferenceUndefined, ReferenceKind}
use Rattle.tokens.specs.Signs.{kind_of, number_of, is_opening, is_closing, is_reference}
use Rattle.outlines.specs.declared.readings.Outline.{Outline}
use Rattle.outlines.specs.declared.faults.Faults.{Faults}
use Rattle.outlines.specs.Readings.{inner_level}

-- A definition that is empty or holds a reference, or whose loops pass the limit where it is put in.
unfoldable pub too_deep : ℕ → Outline → Bool
unfolding loops_deep
too_deep level o = (o.empty || o.refers) || ltb loops_deep (level + o.depth)

unfoldable pub reference_read : Bool → Outline → Faults → Faults
unfolding too_deep
reference_read missing o f = record { level = f.level; missing = f.missing || missing; deep = f.deep || too_deep f.level o }

unfoldable pub bracket_read : ℕ → Faults → Faults
unfolding provided◌then◌else◌
bracket_read k f =
    provided is_opening k then record { level = inner_level f.level; missing = f.missing; deep = f.deep }
    else (provided is_closing k then record { level = f.level - 1; missing = f.missing; deep = f.deep }
    else f)

-- Each word, with what references find.
unfoldable pub faults_read : (ℕ → Bool) → (ℕ → Outline) → Faults → ℕ → Faults
unfolding provided◌then◌else◌ reference_read bracket_read
faults_read missing find f w = provided is_reference (kind_of w) then reference_read (missing (number_of w)) (find (number_of w)) f else bracket_read
    (kind_of w) f

unfoldable pub all_faults : (ℕ → Bool) → (ℕ → Outline) → Faults → List ℕ → Faults
unfolding faults_read
all_faults missing find f [] = f
all_faults missing find f (w ∷ ws) = all_faults missing find (faults_read missing find f w) ws

unfoldable pub faultless : Faults
faultless = record { level = 0; missing = false; deep = false }

-- What is given for them: a missing definition goes before one that may not stand there.
unfoldable pub fault_told : Faults → Option Why
unfolding provided◌then◌else◌
fault_told f = provided f.missing then Some ReferenceUndefined else (provided f.deep then Some ReferenceKind else None)

unfoldable pub fault_in : (ℕ → Bool) → (ℕ → Outline) → List ℕ → Option Why
unfolding all_faults faultless fault_told
fault_in missing find ws = fault_told (all_faults missing find faultless ws)
