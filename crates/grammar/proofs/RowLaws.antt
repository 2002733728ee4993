-- What the check keeps of a row that grows, and of a check that loops too deep in loops spoil.
use Prim.Native.Nat.{ℕ, suc, ◌+◌, ◌-◌, ◌≤◌, ◌<◌, max}
use mathlib.Core.Path.{◌≡◌, refl, sym, ◌∙◌}
use mathlib.Core.List.{List, [], ◌∷◌, ◌++◌, append_assoc, append-nil}
use mathlib.Core.Bool.{Bool, true, not}
use native.Mathlib.Numerals.{add-one}
use native.Mathlib.Omega.{arith}
use borrow.Author.Tests.{le-leb, lt-leb, leb-true, leb-false, ne_eqb}
use lib.Dec.{leb}
use lib.ListN.{length}
use Rattle.songcode.specs.Lists.{provided◌then◌else◌, is_empty}
use Rattle.songcode.specs.Song.{Separator, Measure, Item, measure, loop, refer}
use Rattle.songcode.specs.Answer.PatternText.{Begun, start, more, add, depth_i, depth, loops_deep, references_i, references}
use Rattle.songcode.proofs.ListLaws.{by_cases}
use Rattle.grammar.specs.declared.kinds.Kind.{Kind}
use Rattle.grammar.specs.declared.kinds.Kind.TheVariants.{Opens, Closes}
use Rattle.grammar.specs.declared.checks.Place.{Place}
use Rattle.grammar.specs.declared.checks.Place.TheVariants.{Wants, Full}
use Rattle.grammar.specs.declared.checks.Check.{Check}
use Rattle.grammar.specs.Checks.{check, spoiled, opened, closed, check_step}
use Rattle.grammar.specs.States.{depth_begun, depth_rows, references_begun, references_rows, within, check_rows, check_item}
use Rattle.grammar.proofs.ArmLaws.{stays_spoiled}

-- Up to the limit a check is itself, and past it spoiled.
pub within_limit : (d : ℕ) (c : Check) → d ≤ loops_deep → within d c ≡ c
unfolding within provided◌then◌else◌
within_limit d c h = simp (le-leb _ _ h)

pub past_limit : (d : ℕ) (c : Check) → loops_deep < d → within d c ≡ spoiled
unfolding within provided◌then◌else◌
past_limit d c h = simp (lt-leb _ _ h)

pub by_limit : {X : Type 0} (d : ℕ) → (d ≤ loops_deep → X) → (loops_deep < d → X) → X
by_limit d f g = by_cases (leb d loops_deep) (λ t. f (leb-true _ _ t)) (λ t. g (leb-false _ _ t))

opens_within : (p : Place) (n : ℕ) (b : Bool) → n < loops_deep → opened (check p n b) ≡ check Wants (suc n) b
unfolding opened provided◌then◌else◌
opens_within p n b h = simp (lt-leb _ _ h, add-one)

opens_past : (p : Place) (n : ℕ) (b : Bool) → loops_deep ≤ n → opened (check p n b) ≡ spoiled
unfolding opened provided◌then◌else◌
opens_past p n b h = simp (le-leb _ _ h)

closes_one : (p : Place) (n : ℕ) (b : Bool) → closed (check p (suc n) b) ≡ check Full n b
unfolding closed provided◌then◌else◌
closes_one p n b = let e : suc n - 1 ≡ n = omega arith in simp (ne_eqb (suc n) 0 (λ z. omega arith), e)

-- What a step does to a check, it does to it within the limit: a check that is spoiled stays so.
module _ (d : ℕ) (c : Check) (k : Kind) where
  pub step_within : (e : Check) → e ≡ check_step c k → within d e ≡ check_step (within d c) k
  unfolding check_step
  step_within e h = by_limit d (λ l. rw (within_limit d c l, within_limit d e l) h) (λ l. rw (past_limit d c l, past_limit d e l) (stays_spoiled k))

  pub spoiled_within : spoiled ≡ check_step c k → spoiled ≡ check_step (within d c) k
  unfolding check_step
  spoiled_within h = by_limit d (λ l. rw (within_limit d c l) h) (λ l. rw (past_limit d c l) (stays_spoiled k))

-- Two checks that a step leads to the same.
pub alike_within : (d : ℕ) (c e : Check) (k : Kind) → check_step c k ≡ check_step e k → check_step (within d c) k ≡ check_step (within d e) k
alike_within d c e k h = by_limit d (λ l. rw (within_limit d c l, within_limit d e l) h) (λ l. rw (past_limit d c l, past_limit d e l) refl)

-- One more loop is open: the depth is at least their number.
module _ (d n : ℕ) (b : Bool) (p : Place) (low : n ≤ d) where
  pub opened_within : opened (check p n b) ≡ check_step (check p n b) Opens
      → within (max (suc n) d) (check Wants (suc n) b) ≡ check_step (within d (check p n b)) Opens
  unfolding check_step
  opened_within h =
      by_limit
      (suc n)
      (λ m. by_limit d (λ l. rw (within_limit d (check p n b) l, within_limit (max (suc n) d) (check Wants (suc n) b) (omega arith))
      (sym (opens_within p n b m) ∙ h)) (λ l. rw (past_limit d (check p n b) l, past_limit (max (suc n) d) (check Wants (suc n) b) (omega arith))
      refl))
      (λ m. past_limit (max (suc n) d) (check Wants (suc n) b) (omega arith) ∙ spoiled_within d (check p n b) Opens (sym (opens_past p n b (omega arith)) ∙ h))

-- An item in a row adds its depth and its references.
pub depth_added : (r : Begun) (i : Item) → depth (add r i) ≡ max (depth_begun r) (depth_i i)
unfolding add depth_begun depth
depth_added start i = omega arith
depth_added (more r s) i = refl

pub references_added : (r : Begun) (i : Item) → references (add r i) ≡ references_begun r ++ references_i i
unfolding add references_begun references
references_added start i = refl
references_added (more r s) i = refl

some_behind : (ns : List ℕ) (n : ℕ) → not (is_empty (ns ++ (n ∷ []))) ≡ true
unfolding is_empty
some_behind [] n = refl
some_behind (m ∷ ns) n = refl

-- The row with the item and a separator behind it has the check of the item behind the row.
module _ (p : Place) (r : Begun) (os : List Begun) where
  pub separated : (i : Item) (s : Separator) → check_rows p (more (add r i) s) os ≡ check_item p r os i
  unfolding check_rows check_item depth_rows depth_begun references_rows references_begun
  separated i s =
      let d : max (length os + depth (add r i)) (depth_rows os) ≡ max (max (length os + depth_begun r) (depth_rows os)) (length os + depth_i i) = omega
      (arith, depth_added r i) in
      rw (d, references_added r i, ← append_assoc (references_rows os) (references_begun r) (references_i i)) refl

  pub with_measure : (m : Measure) → check_item p r os (measure m) ≡ check_rows p r os
  unfolding check_rows check_item depth_rows depth_begun references_rows references_begun depth_i references_i
  with_measure m =
      let d : max (max (length os + depth_begun r) (depth_rows os)) (length os + 0) ≡ max (length os + depth_begun r) (depth_rows os) = omega arith in
      rw (d, append-nil (references_rows os ++ references_begun r)) refl

  pub with_reference : (n : ℕ) → check_item p r os (refer n) ≡ within (depth_rows (r ∷ os)) (check p (length os) true)
  unfolding check_item depth_rows depth_begun depth_i references_i
  with_reference n =
      let d : max (max (length os + depth_begun r) (depth_rows os)) (length os + 0) ≡ max (length os + depth_begun r) (depth_rows os) = omega arith in
      rw (d, some_behind (references_rows (r ∷ os)) n) refl

  -- A loop that opens, where one may.
  pub row_opened : ((n : ℕ) (b : Bool) → opened (check p n b) ≡ check_step (check p n b) Opens)
      → check_rows Wants start (r ∷ os) ≡ check_step (check_rows p r os) Opens
  unfolding check_rows depth_rows depth_begun references_rows references_begun
  row_opened h =
      let b = not (is_empty (references_rows os ++ references_begun r)) in
      let d : suc (length os) + 0 ≡ suc (length os) = omega arith in
      rw
      (d, append-nil (references_rows os ++ references_begun r))
      (opened_within (max (length os + depth_begun r) (depth_rows os)) (length os) b p (omega arith) (h (length os) b))

-- A loop that closes becomes an item of the row around it; around no loop no row stands.
module _ (p : Place) (r : Begun) (i : Item) (h : (n : ℕ) (b : Bool) → closed (check p n b) ≡ check_step (check p n b) Closes) where
  pub row_closed : (o : Begun) (os : List Begun) (n : ℕ) → check_item Full o os (loop (add r i) n) ≡ check_step (check_item p r (o ∷ os) i) Closes
  unfolding check_item depth_rows depth_begun references_rows depth_i references_i closed
  row_closed o os n =
      let d : max (depth_rows (o ∷ os)) (length os + suc (depth (add r i))) ≡ max (max (suc (length os) + depth_begun r) (depth_rows (o ∷ os)))
      (suc (length os) + depth_i i) = omega (arith, depth_added r i) in
      rw
      (d, references_added r i, ← append_assoc (references_rows (o ∷ os)) (references_begun r) (references_i i))
      (step_within _ _ Closes _ (sym (closes_one p (length os) _) ∙ h (suc (length os)) _))

  pub none_closed : spoiled ≡ check_step (check_item p r [] i) Closes
  unfolding check_item closed provided◌then◌else◌
  none_closed = spoiled_within _ _ Closes (h 0 _)
