-- Complaints of 10 and 11 on one line: which is given, and what each reference is complained of for.
use Prim.Native.Nat.{ℕ}
use mathlib.Core.Path.{◌≡◌, refl, sym, ◌∙◌}
use mathlib.Core.Logic.{◌⊎◌, inl, inr}
use mathlib.Core.List.{List, [], ◌∷◌, ◌++◌}
use mathlib.Core.Bool.{Bool, true, false, ◌||◌, not}
use mathlib.Core.Option.{Option, none, some}
use native.Mathlib.Omega.{arith}
use borrow.Author.Tests.{eq-eqb, le-ltb}
use lib.Dec.{eqb}
use Rattle.songcode.specs.Lists.{provided◌then◌else◌, any, is_empty, when}
use Rattle.songcode.specs.Complaints.{Complaint, complaint, complain_if, goes_first, earlier, earliest}
use Rattle.songcode.specs.Song.{Items, Definition}
use Rattle.songcode.specs.Answer.PatternText.{references, no_reference}
use Rattle.songcode.specs.Answer.References.{items_fault, reference_fault}
use Rattle.songcode.proofs.ListLaws.{true_is_not_false, any_append, Each}
use Rattle.outlines.specs.declared.readings.Outline.{Outline}
use Rattle.outlines.specs.declared.faults.Faults.{Faults}
use Rattle.outlines.specs.Words.{vacant}
use Rattle.outlines.specs.Faults.{fault_told}
use Rattle.outlines.specs.Told.{KnowsItems, Knows, refusal}

-- The earliest is a 10 if there is one.
unfoldable pub has : ℕ → List Complaint → Bool
unfolding any
has k cs = any (λ c. eqb c.number k) cs

unfoldable pub given : Bool → Bool → ℕ → Option Complaint
given true u head = some (complaint 10 head)
given false true head = some (complaint 11 head)
given false false head = none

abbrev pub TenOrEleven : ℕ → Complaint → Type 0
TenOrEleven head c = (c ≡ complaint 10 head) ⊎ (c ≡ complaint 11 head)

first_ten : (t u : Bool) (head : ℕ) → some (earlier (complaint 10 head) (given t u head)) ≡ given true u head
unfolding earlier given goes_first provided◌then◌else◌
first_ten true u head = rw (le-ltb head head (omega arith), eq-eqb head head refl)
first_ten false true head = rw (le-ltb head head (omega arith), eq-eqb head head refl)
first_ten false false head = refl

first_eleven : (t u : Bool) (head : ℕ) → some (earlier (complaint 11 head) (given t u head)) ≡ given t true head
unfolding earlier given goes_first provided◌then◌else◌
first_eleven true u head = rw (le-ltb head head (omega arith), eq-eqb head head refl)
first_eleven false true head = rw (le-ltb head head (omega arith), eq-eqb head head refl)
first_eleven false false head = refl

pub given_first : (head : ℕ) (cs : List Complaint) → Each (TenOrEleven head) cs → earliest cs ≡ given (has 10 cs) (has 11 cs) head
unfolding earliest has any given Each
given_first head [] h = refl
given_first head (c ∷ cs) h = go h.0 (given_first head cs h.1)
  where
    go : TenOrEleven head c → earliest cs ≡ given (has 10 cs) (has 11 cs) head
        → some (earlier c (earliest cs)) ≡ given (eqb c.number 10 || has 10 cs) (eqb c.number 11 || has 11 cs) head
    go (inl e) i = rw (e, i) (first_ten (has 10 cs) (has 11 cs) head)
    go (inr e) i = rw (e, i) (first_eleven (has 10 cs) (has 11 cs) head)

pub refusal_ten : (f : Faults) (u : Bool) (head : ℕ) → f.missing ≡ true → refusal (fault_told f) head ≡ given true u head
unfolding refusal fault_told given provided◌then◌else◌
refusal_ten f u head e = rw e

pub refusal_other : (f : Faults) (u : Bool) (head : ℕ) → f.missing ≡ false → f.deep ≡ u → refusal (fault_told f) head ≡ given false u head
unfolding refusal fault_told given provided◌then◌else◌
refusal_other f true head e d = rw (e, d)
refusal_other f false head e d = rw (e, d)

-- One reference.
no_reference_lem : (r : Items) → not (no_reference r) ≡ not (is_empty (references r))
unfolding no_reference is_empty
no_reference_lem r = go (references r)
  where
    go : (ns : List ℕ) → not (elim ns [ [] ↦ true | n ∷ ms ↦ false ]) ≡ not (is_empty ns)
    go [] = refl
    go (n ∷ ns) = refl

pub when_ten : (b : Bool) (head : ℕ) → has 10 (complain_if b 11 head) ≡ false
unfolding has any complain_if when
when_ten true head = refl
when_ten false head = refl

pub when_eleven : (b : Bool) (head : ℕ) → has 11 (complain_if b 11 head) ≡ b
unfolding has any complain_if when
when_eleven true head = refl
when_eleven false head = refl

pub when_either : (b : Bool) (head : ℕ) → Each (TenOrEleven head) (complain_if b 11 head)
unfolding Each complain_if when
when_either true head = (inr refl, tt)
when_either false head = tt

pub fault_either : (d : Option Definition) (head : ℕ) → Each (TenOrEleven head) (reference_fault d head)
unfolding reference_fault Each
fault_either none head = (inl refl, tt)
fault_either (some d) head = go d.items
  where
    go : (o : Option Items) → Each (TenOrEleven head) (items_fault o head)
    go none = (inr refl, tt)
    go (some r) = when_either (not (no_reference r)) head

pub fault_ten : (d : Option Definition) (m : Bool) (o : Outline) (head : ℕ) → Knows d m o → has 10 (reference_fault d head) ≡ m
unfolding reference_fault items_fault has any Knows
fault_ten none m o head k = sym k.0
fault_ten (some d) m o head k = go d.items ∙ sym k.0
  where
    go : (i : Option Items) → has 10 (items_fault i head) ≡ false
    go none = refl
    go (some r) = when_ten (not (no_reference r)) head

items_eleven : (i : Option Items) (o : Outline) (head : ℕ) → KnowsItems i o → has 11 (items_fault i head) ≡ (o.empty || o.refers)
unfolding items_fault has any KnowsItems vacant
items_eleven none o head k = rw k
items_eleven (some r) o head k = when_eleven (not (no_reference r)) head ∙ no_reference_lem r ∙ sym (rw k.0.filled k.0.refers)

pub fault_eleven : (d : Option Definition) (m : Bool) (o : Outline) (head : ℕ) → Knows d m o → m ≡ false
    → has 11 (reference_fault d head) ≡ (o.empty || o.refers)
unfolding reference_fault Knows
fault_eleven none m o head k e = true_is_not_false k.0 e
fault_eleven (some d) m o head k e = items_eleven d.items o head k.1

-- All of them.
pub has_append : (k : ℕ) (cs ds : List Complaint) → has k (cs ++ ds) ≡ (has k cs || has k ds)
unfolding has
has_append k cs ds = any_append (λ c. eqb c.number k) cs ds
