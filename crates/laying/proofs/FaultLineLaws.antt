-- The lines of the complaints of stage 3: each stands on the head of its definition or on the header of its section.
use Prim.Native.Nat.{ℕ, ◌<◌}
use mathlib.Core.Path.{◌≡◌, refl}
use mathlib.Core.List.{List, [], ◌∷◌, flat_map}
use mathlib.Core.Bool.{Bool, true, false, not}
use mathlib.Core.Option.{Option, none, some}
use native.Mathlib.Omega.{arith}
use lib.Dec.{leb}
use Rattle.songcode.specs.Lists.{when}
use Rattle.songcode.specs.Complaints.{complain_if}
use Rattle.songcode.specs.Song.{Items, Pattern, items, named, Definition, Section}
use Rattle.songcode.specs.Answer.PatternText.{no_reference, depth, loops_deep, references}
use Rattle.songcode.specs.Answer.References.{definition_of, items_of, put_in, items_fault, reference_fault, depth_fault, definition_references}
use Rattle.songcode.specs.Answer.References.{definitions_references, named_fault, section_reference}
use Rattle.songcode.proofs.ListLaws.{Each, each_append, each_map}
use Rattle.laying.proofs.ComplaintLaws.{Behind}
use Rattle.laying.proofs.DefinitionLaws.{LaterHeads}

-- The complaint of a test stands on its line.
pub line_if : (b : Bool) (number line : ℕ) → Each (λ c. c.line ≡ line) (complain_if b number line)
unfolding Each complain_if when
line_if true number line = (refl, tt)
line_if false number line = tt

items_line : (i : Option Items) (head : ℕ) → Each (λ c. c.line ≡ head) (items_fault i head)
unfolding items_fault Each
items_line none head = (refl, tt)
items_line (some r) head = line_if (not (no_reference r)) 11 head

reference_line : (x : Option Definition) (head : ℕ) → Each (λ c. c.line ≡ head) (reference_fault x head)
unfolding reference_fault Each
reference_line none head = (refl, tt)
reference_line (some x) head = items_line x.items head

gathered_line : (ds : List Definition) (head : ℕ) (ns : List ℕ) → Each (λ c. c.line ≡ head) (flat_map (λ n. reference_fault (definition_of n ds) head) ns)
unfolding flat_map Each
gathered_line ds head [] = tt
gathered_line ds head (n ∷ ns) =
    each_append (λ c. c.line ≡ head) (reference_fault (definition_of n ds) head) (flat_map (λ n. reference_fault (definition_of n ds) head) ns)
    (reference_line (definition_of n ds) head) (gathered_line ds head ns)

pub definition_line : (ds : List Definition) (i : Option Items) (head : ℕ) → Each (λ c. c.line ≡ head) (definition_references ds i head)
unfolding definition_references depth_fault Each
definition_line ds none head = tt
definition_line ds (some r) head =
    each_append (λ c. c.line ≡ head) (flat_map (λ n. reference_fault (definition_of n ds) head) (references r)) (depth_fault ds r head)
    (gathered_line ds head (references r))
    (line_if (not (leb (depth (put_in (items_of ds) r)) loops_deep)) 11 head)

pub definitions_behind : (line : ℕ) (earlier ds : List Definition) → LaterHeads line ds → Each (Behind line) (definitions_references earlier ds)
unfolding LaterHeads definitions_references Each Behind
definitions_behind line earlier [] h = tt
definitions_behind line earlier (d ∷ ds) h =
    each_append (λ c. line < c.line) (definition_references earlier d.items d.head) (definitions_references (d ∷ earlier) ds)
    (each_map (λ c e. let k = h.0 in omega arith) (definition_references earlier d.items d.head) (definition_line earlier d.items d.head))
    (definitions_behind line (d ∷ earlier) ds h.1)

pub section_line : (ds : List Definition) (x : Section) → Each (λ c. c.line ≡ x.header) (section_reference ds x.pattern x.header)
unfolding section_reference named_fault Each
section_line ds x = of x.pattern
  where
    found : (o : Option Definition) → Each (λ c. c.line ≡ x.header) (named_fault o x.header)
    found none = (refl, tt)
    found (some d) = tt

    of : (p : Pattern) → Each (λ c. c.line ≡ x.header) (section_reference ds p x.header)
    of (items r) = tt
    of (named n) = found (definition_of n ds)
