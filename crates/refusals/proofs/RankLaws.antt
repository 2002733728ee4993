-- The least number says the complaint that goes first.
use Prim.Native.Nat.{ℕ, ◌/◌, ◌%◌, ◌<◌, ◌≤◌, min}
use mathlib.Core.Path.{◌≡◌, refl, ap, ◌∙◌}
use mathlib.Core.List.{List, [], ◌∷◌, ◌++◌}
use mathlib.Core.Bool.{Bool, true, false}
use mathlib.Core.Option.{Option}
use mathlib.Core.Option as option
use native.Mathlib.Omega.{arith}
use borrow.Author.Tests.{ltb-true, ltb-false, leb-true, leb-false, eqb-true, eqb-false, lt-ltb}
use lib.Dec.{eqb, leb, ltb}
use Rattle.songcode.specs.Lists.{provided◌then◌else◌, is_empty, when}
use Rattle.songcode.specs.Answer.Lines.{Block}
use Rattle.songcode.specs.Complaints.{Complaint, complaint, complain_if, goes_first, earlier, earliest}
use Rattle.songcode.specs.Answer.SongText.{or_no_section}
use Rattle.songcode.proofs.ListLaws.{Each, by_cases}
use Rattle.refusals.specs.Names.{Numbered}
use Rattle.refusals.specs.Ranks.{ranked, rank, no_section, none, Small, least, only_if, refusal_at}

pub least_le : (cs : List Complaint) → least cs ≤ none
unfolding least
least_le [] = omega arith
least_le (c ∷ cs) = let h = least_le cs in omega arith

pub least_append : (xs ys : List Complaint) → least (xs ++ ys) ≡ min (least xs) (least ys)
unfolding least
least_append [] ys = let h = least_le ys in omega arith
least_append (x ∷ xs) ys = let h = least_append xs ys in omega arith

pub least_if : (t : Bool) (number line : ℕ) → least (complain_if t number line) ≡ min none (only_if t (ranked number line))
unfolding least complain_if when only_if provided◌then◌else◌
least_if true number line = omega arith
least_if false number line = refl

-- What complain_if returns.
module _ (number line : ℕ) where
  pub complained : (test : Bool) (r : ℕ) → number < 32 → test ≡ true → r ≡ ranked number line → r ≡ least (complain_if test number line)
  unfolding least complain_if when ranked
  complained test r n t e = rw t (omega arith)

  pub not_complained : (test : Bool) → test ≡ false → none ≡ least (complain_if test number line)
  unfolding least complain_if when
  not_complained test t = rw t refl

-- Several complaints at once: each group splits into its first part and its rest.
pub min_assoc : (a b c : ℕ) → min (min a b) c ≡ min a (min b c)
min_assoc a b c = omega arith

pub min_swap : (a b c d : ℕ) → min (min a b) (min c d) ≡ min (min a c) (min b d)
min_swap a b c d = omega arith

pub min_both : {x y : ℕ} (a b c d : ℕ) → x ≡ min a b → y ≡ min c d → min x y ≡ min (min a c) (min b d)
min_both a b c d p q = rw (p, q) (min_swap a b c d)

pub least_both : (a b c d : List Complaint) → min (least (a ++ b)) (least (c ++ d)) ≡ min (min (least a) (least c)) (min (least b) (least d))
least_both a b c d = min_both (least a) (least b) (least c) (least d) (least_append a b) (least_append c d)

module _ (c d : Complaint) where
  goes_first_lem : Small c → Small d → goes_first c d ≡ true → rank c ≤ rank d
  unfolding goes_first ranked
  goes_first_lem s t e =
      by_cases (ltb c.line d.line) (λ x. let h = ltb-true c.line d.line x in omega arith)
      (λ x. by_cases (eqb c.line d.line)
      (λ y. let n : leb c.number d.number ≡ true = rw (x, y) at e in
      let h = leb-true c.number d.number n in
      let k = eqb-true c.line d.line y in omega arith)
      (λ y. let z : false ≡ true = rw (x, y) at e in
      let w : ◌≡◌ {A = ℕ} 0 1 = cc in absurd (omega arith)))

  goes_behind : Small c → Small d → goes_first c d ≡ false → rank d ≤ rank c
  unfolding goes_first ranked
  goes_behind s t e =
      by_cases (ltb c.line d.line) (λ x. let z : true ≡ false = rw x at e in
      let w : ◌≡◌ {A = ℕ} 0 1 = cc in absurd (omega arith))
      (λ x. let h = ltb-false c.line d.line x in by_cases (eqb c.line d.line)
      (λ y. let n : leb c.number d.number ≡ false = rw (x, y) at e in
      let j = leb-false c.number d.number n in
      let k = eqb-true c.line d.line y in omega arith)
      (λ y. let k = eqb-false c.line d.line y in omega arith))

-- What a number says of a complaint, if there is one.
unfoldable pub Says : ℕ → Option Complaint → Type 0
Says r option.none = r ≡ none
Says r (option.some c) = (r ≡ rank c) × Small c

says_earlier : (c : Complaint) (o : Option Complaint) (r : ℕ) → Small c → Says r o → Says (min (rank c) r) (option.some (earlier c o))
unfolding Says earlier ranked provided◌then◌else◌
says_earlier c option.none r s h = (omega arith, s)
says_earlier c (option.some d) r s h =
    by_cases (goes_first c d)
    (λ e. let k = goes_first_lem c d s h.1 e in rw e (omega arith, s))
    (λ e. let k = goes_behind c d s h.1 e in rw e (omega arith, h.1))

pub least_says : (cs : List Complaint) → Each Small cs → Says (least cs) (earliest cs)
unfolding least earliest Each Says
least_says [] h = refl
least_says (c ∷ cs) h = says_earlier c (earliest cs) (least cs) h.0 (least_says cs h.1)

refusal_said : (r : ℕ) (o : Option Complaint) → Says r o → refusal_at r ≡ o
unfolding Says refusal_at ranked provided◌then◌else◌
refusal_said r option.none h = rw h refl
refusal_said r (option.some c) h =
    let l : ltb r no_section ≡ true = lt-ltb r no_section (omega arith) in
    let n : r % 32 ≡ c.number = omega arith in
    let k : r / 32 ≡ c.line = omega arith in
    rw (l, n, k) refl

-- A complaint that a text may have, whose number is 1 to 22. The least of such, where it is below "no section", has one of these numbers.
abbrev pub SmallNumbered : Complaint → Type 0
SmallNumbered c = Numbered c.number × (c.line < 131072)

lesser_numbered : (c : Complaint) (n : ℕ) → SmallNumbered c → (n < no_section → Numbered (n % 32)) → min (rank c) n < no_section
    → Numbered (min (rank c) n % 32)
unfolding ranked
lesser_numbered c n h k l =
    by_cases (leb (rank c) n)
    (λ t. let le = leb-true (rank c) n t in
    let e : min (rank c) n ≡ rank c = omega arith in
    let m : rank c % 32 ≡ c.number = omega arith in
    rw (e, m) h.0)
    (λ t. let le = leb-false (rank c) n t in
    let e : min (rank c) n ≡ n = omega arith in
    rw e (k (omega arith)))

pub least_numbered : (cs : List Complaint) → Each SmallNumbered cs → least cs < no_section → Numbered (least cs % 32)
unfolding least Each
least_numbered [] h l = absurd (omega arith)
least_numbered (c ∷ cs) h l = lesser_numbered c (least cs) h.0 (least_numbered cs h.1) l

pub before_no_section : (cs : List Complaint) (t : Bool) → Each SmallNumbered cs → min (least cs) (only_if t no_section) < no_section
    → Numbered (min (least cs) (only_if t no_section) % 32)
unfolding only_if provided◌then◌else◌
before_no_section cs true h l =
    let n = least_numbered cs h (omega arith) in
    let k : min (least cs) no_section ≡ least cs = omega arith in
    rw k n
before_no_section cs false h l =
    let n = least_numbered cs h (omega arith) in
    let k : min (least cs) none ≡ least cs = omega arith in
    rw k n

pub earliest_least : (cs : List Complaint) → Each Small cs → refusal_at (least cs) ≡ earliest cs
earliest_least cs h = refusal_said (least cs) (earliest cs) (least_says cs h)

least_low : (c : Complaint) (cs : List Complaint) → Each Small (c ∷ cs) → least (c ∷ cs) ≤ no_section
unfolding least Each ranked
least_low c cs h = omega arith

low_stays : (t : Bool) (r : ℕ) → r ≤ no_section → min r (only_if t no_section) ≡ r
unfolding only_if provided◌then◌else◌
low_stays true r h = omega arith
low_stays false r h = omega arith

nothing_else : (t : Bool) → refusal_at (min (least []) (only_if t no_section)) ≡ earliest (complain_if t 9 0)
unfolding least only_if provided◌then◌else◌ refusal_at earliest earlier complain_if when
nothing_else true = refl
nothing_else false = refl

-- Complaints of numbers that ranks tell apart, on whatever lines: where the least names no number, there are none.
unfoldable pub Ranked : Complaint → Type 0
Ranked c = (1 ≤ c.number) × (c.number < 32)

pub ranked_if : (t : Bool) (number line : ℕ) → 1 ≤ number → number < 32 → Each Ranked (complain_if t number line)
unfolding Each Ranked complain_if when
ranked_if true number line h k = ((h, k), tt)
ranked_if false number line h k = tt

least_named : (c : Complaint) (cs : List Complaint) → Each Ranked (c ∷ cs) → (1 ≤ least (c ∷ cs) % 32) × (least (c ∷ cs) < no_section)
unfolding least Each Ranked ranked
least_named c [] h = (omega arith, omega arith)
least_named c (d ∷ cs) h = let k = least_named d cs h.1 in (omega arith, omega arith)

pub least_clear : (cs : List Complaint) → Each Ranked cs → refusal_at (least cs) ≡ option.none → cs ≡ []
unfolding refusal_at provided◌then◌else◌
least_clear [] h e = refl
least_clear (c ∷ cs) h e =
    let k = least_named c cs h in
    let z : option.some (complaint (least (c ∷ cs) % 32) (least (c ∷ cs) / 32)) ≡ option.none = rw (lt-ltb (least (c ∷ cs)) no_section k.1) at e in
    let w : ◌≡◌ {A = ℕ} 0 1 = cc in
    absurd (omega arith)

-- 9 is given where nothing else is.
pub or_no_section_lem : (cs : List Complaint) (bs : List Block) → Each Small cs
    → refusal_at (min (least cs) (only_if (is_empty bs) no_section)) ≡ earliest (or_no_section cs bs)
unfolding or_no_section
or_no_section_lem [] bs h = nothing_else (is_empty bs)
or_no_section_lem (c ∷ cs) bs h =
    ap refusal_at (low_stays (is_empty bs) (least (c ∷ cs)) (least_low c cs h)) ∙ earliest_least (c ∷ cs) h

-- Where no number is given nothing is complained of.
pub clear_faults : (cs : List Complaint) (bs : List Block) → Each Small cs → earliest (or_no_section cs bs) ≡ option.none → or_no_section cs bs ≡ []
unfolding or_no_section complain_if when earliest earlier
clear_faults [] bs h e =
    by_cases (is_empty bs) (λ t. let z : option.some (complaint 9 0) ≡ option.none = rw t at e in
    let w : ◌≡◌ {A = ℕ} 0 1 = cc in absurd (omega arith)) (λ t. rw t)
clear_faults (c ∷ cs) bs h e = let w : ◌≡◌ {A = ℕ} 0 1 = cc in absurd (omega arith)
