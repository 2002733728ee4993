-- "`$n` means an earlier definition's items, put in its place." Stage 3.
use Rattle.std.specs.Prelude.{ℕ, not, eqb, leb}
use mathlib.Core.List.{List, [], ◌∷◌, ◌++◌, flat_map}
use Rattle.std.proofs.Math.Option.{Option, none, some, get_or, bind}
use Rattle.songcode.specs.Lists.{provided◌then◌else◌}
use Rattle.songcode.specs.Complaints.{Complaint, complaint, complain_if}
use Rattle.songcode.specs.Song.{Separator, Item, measure, loop, refer, Items, one, next, Pattern, items, named, Definition, Song}
use Rattle.songcode.specs.Answer.PatternText.{depth, loops_deep, references, no_reference}

-- The definition of that number.
unfoldable pub definition_of : ℕ → List Definition → Option Definition
unfolding provided◌then◌else◌
definition_of n [] = none
definition_of n (d ∷ ds) = provided eqb d.id n then some d else definition_of n ds

-- The items of the definition of that number: none where it is empty or missing.
unfoldable pub items_of : List Definition → ℕ → Option Items
unfolding definition_of bind
items_of ds n = bind (definition_of n ds) (λ d. d.items)

-- A row behind a row.
unfoldable pub glue : Items → Separator → Items → Items
glue r s (one i) = next r s i
glue r s (next q t i) = next (glue r s q) t i

-- The items with every reference's own put in its place.
unfoldable mutual
  unfolding glue

  pub put_in_item : (ℕ → Option Items) → Item → Items
  put_in_item f (measure m) = one (measure m)
  put_in_item f (loop r n) = one (loop (put_in f r) n)
  put_in_item f (refer n) = get_or (f n) (one (refer n))

  pub put_in : (ℕ → Option Items) → Items → Items
  put_in f (one i) = put_in_item f i
  put_in f (next r s i) = glue (put_in f r) s (put_in_item f i)

-- 10: "reference not defined earlier".
-- 11: "reference too deep, ... or from a definition to an empty one": one that holds a reference cannot be referred to by a definition.
unfoldable pub items_fault : Option Items → ℕ → List Complaint
unfolding complain_if no_reference
items_fault none head = complaint 11 head ∷ []
items_fault (some r) head = complain_if (not (no_reference r)) 11 head

unfoldable pub reference_fault : Option Definition → ℕ → List Complaint
unfolding items_fault
reference_fault none head = complaint 10 head ∷ []
reference_fault (some d) head = items_fault d.items head

-- 11: "making a loop in a loop", counted with the references put in.
unfoldable pub depth_fault : List Definition → Items → ℕ → List Complaint
unfolding complain_if depth loops_deep put_in items_of
depth_fault earlier r head = complain_if (not (leb (depth (put_in (items_of earlier) r)) loops_deep)) 11 head

unfoldable pub definition_references : List Definition → Option Items → ℕ → List Complaint
unfolding flat_map reference_fault definition_of references depth_fault
definition_references earlier none head = []
definition_references earlier (some r) head =
    flat_map (λ n. reference_fault (definition_of n earlier) head) (references r) ++ depth_fault earlier r head

unfoldable pub definitions_references : List Definition → List Definition → List Complaint
unfolding definition_references
definitions_references earlier [] = []
definitions_references earlier (d ∷ ds) = definition_references earlier d.items d.head ++ definitions_references (d ∷ earlier) ds

-- "A section may name it": only 10 is said of a section.
unfoldable pub named_fault : Option Definition → ℕ → List Complaint
named_fault none header = complaint 10 header ∷ []
named_fault (some d) header = []

unfoldable pub section_reference : List Definition → Pattern → ℕ → List Complaint
unfolding named_fault definition_of
section_reference ds (items r) header = []
section_reference ds (named n) header = named_fault (definition_of n ds) header

unfoldable pub reference_faults : Song → List Complaint
unfolding definitions_references flat_map section_reference
reference_faults s =
    definitions_references [] s.definitions
    ++ flat_map (λ x. section_reference s.definitions x.pattern x.header) s.sections

-- What a section's pattern says, references put in: none where it is empty.
unfoldable pub pattern_items : List Definition → Pattern → Option Items
unfolding bind items_of put_in
pattern_items ds (items r) = some r
pattern_items ds (named n) = bind (items_of ds n) (λ r. some (put_in (items_of ds) r))
