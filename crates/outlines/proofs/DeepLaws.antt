-- References that are too deep: what the faults tell of them, and how deep the items are with references put in.
use Prim.Native.Nat.{ℕ, suc, ◌+◌, ◌≤◌, max}
use mathlib.Core.Path.{◌≡◌, refl, sym, ap, ◌∙◌}
use mathlib.Core.Bool.{Bool, true, false, ◌||◌}
use mathlib.Core.Option.{Option}
use native.Mathlib.Omega.{arith}
use borrow.Author.Tests.{lt-ltb, le-ltb, ltb-true, ltb-false}
use lib.Dec.{ltb}
use Rattle.songcode.specs.Lists.{any}
use Rattle.songcode.specs.Song.{Separator, Item, measure, loop, refer, Items, one, next}
use Rattle.songcode.specs.Answer.PatternText.{depth_i, depth, loops_deep, references_i, references}
use Rattle.songcode.specs.Answer.References.{glue, put_in_item, put_in}
use Rattle.songcode.proofs.ListLaws.{by_cases, any_append}
use Rattle.outlines.specs.declared.readings.Outline.{Outline}
use Rattle.outlines.specs.declared.faults.Faults.{Faults}
use Rattle.outlines.specs.Faults.{too_deep, reference_read}
use Rattle.outlines.proofs.ChordLaws.{or_false}
use Rattle.outlines.proofs.FaultTrees.{sunk, fault_item, fault_items}

four : (d a b x y : Bool) → ((d || (a || b)) || (x || y)) ≡ (d || ((a || x) || (b || y)))
four true a b x y = refl
four false true b x y = refl
four false false true true y = refl
four false false true false y = refl
four false false false true y = refl
four false false false false y = refl

-- The deeper of two passes a limit exactly where one of them does.
past_both : (k l a b : ℕ) → ltb k (l + max a b) ≡ (ltb k (l + a) || ltb k (l + b))
past_both k l a b = by_cases (ltb k (l + a))
    (λ e. let h = ltb-true k (l + a) e in rw (e, lt-ltb k (l + max a b) (omega arith)))
    (λ e. rw e (less (ltb-false k (l + a) e)))
  where
    less : l + a ≤ k → ltb k (l + max a b) ≡ ltb k (l + b)
    less h = by_cases (ltb k (l + b))
        (λ e. let m = ltb-true k (l + b) e in rw (e, lt-ltb k (l + max a b) (omega arith)))
        (λ e. let m = ltb-false k (l + b) e in rw (e, le-ltb k (l + max a b) (omega arith)))

depth_glue : (r : Items) (s : Separator) (q : Items) → depth (glue r s q) ≡ max (depth r) (depth q)
unfolding glue depth
depth_glue r s (one i) = refl
depth_glue r s (next q t i) = rw (depth_glue r s q) (omega arith)

module _ (missing : ℕ → Bool) (find : ℕ → Outline) where
  abbrev pub flawed : ℕ → Bool
  flawed n = (find n).empty || (find n).refers

  -- Whether a reference of items at that level puts in loops that pass the limit.
  unfoldable mutual
    pub deep_item : ℕ → Item → Bool
    deep_item l (measure m) = false
    deep_item l (loop r n) = deep_items (l + 1) r
    deep_item l (refer n) = ltb loops_deep (l + (find n).depth)

    pub deep_items : ℕ → Items → Bool
    deep_items l (one i) = deep_item l i
    deep_items l (next r t i) = deep_items l r || deep_item l i

  mutual
    unfolding fault_item fault_items reference_read depth depth_i

    item_level : (i : Item) (g : Faults) → g.level + depth_i i ≤ 7 → (fault_item missing find i g).level ≡ g.level
    item_level (measure m) g d = refl
    item_level (loop r n) g d = let e = items_level r (sunk g) (omega arith) in rw e (omega arith)
    item_level (refer n) g d = refl

    items_level : (r : Items) (g : Faults) → g.level + depth r ≤ 7 → (fault_items missing find r g).level ≡ g.level
    items_level (one i) g d = item_level i g d
    items_level (next r t i) g d =
        let e = items_level r g (omega arith) in
        item_level i (fault_items missing find r g) (rw e (omega arith)) ∙ e

  mutual
    unfolding fault_item fault_items reference_read too_deep depth depth_i references references_i any deep_item deep_items

    item_deep : (i : Item) (g : Faults) (l : ℕ) → g.level ≡ l → l + depth_i i ≤ 7
        → (fault_item missing find i g).deep ≡ (g.deep || (any flawed (references_i i) || deep_item l i))
    item_deep (measure m) g l e d = sym (or_false g.deep)
    item_deep (loop r n) g l e d = items_deep r (sunk g) (l + 1) (omega arith) (omega arith)
    item_deep (refer n) g l e d = rw e (ap (λ b. g.deep || (b || ltb loops_deep (l + (find n).depth))) (sym (or_false (flawed n))))

    pub items_deep : (r : Items) (g : Faults) (l : ℕ) → g.level ≡ l → l + depth r ≤ 7
        → (fault_items missing find r g).deep ≡ (g.deep || (any flawed (references r) || deep_items l r))
    items_deep (one i) g l e d = item_deep i g l e d
    items_deep (next r t i) g l e d =
        item_deep i (fault_items missing find r g) l (items_level r g (omega arith) ∙ e) (omega arith)
        ∙ ap (λ b. b || (any flawed (references_i i) || deep_item l i)) (items_deep r g l e (omega arith))
        ∙ four g.deep (any flawed (references r)) (deep_items l r) (any flawed (references_i i)) (deep_item l i)
        ∙ ap (λ b. g.deep || (b || (deep_items l r || deep_item l i))) (sym (any_append flawed (references r) (references_i i)))

  -- How deep the items are with references put in, each of which is told rightly.
  module _ (f : ℕ → Option Items) (right : (n : ℕ) → depth (put_in_item f (refer n)) ≡ (find n).depth) where
    mutual
      unfolding put_in put_in_item depth depth_i deep_item deep_items

      item_put : (i : Item) (l : ℕ) → l + depth_i i ≤ loops_deep → ltb loops_deep (l + depth (put_in_item f i)) ≡ deep_item l i
      item_put (measure m) l d = le-ltb loops_deep (l + 0) d
      item_put (loop r n) l d =
          let e : l + suc (depth (put_in f r)) ≡ l + 1 + depth (put_in f r) = omega arith in
          ap (λ k. ltb loops_deep k) e ∙ items_put r (l + 1) (omega arith)
      item_put (refer n) l d = ap (λ k. ltb loops_deep (l + k)) (right n)

      pub items_put : (r : Items) (l : ℕ) → l + depth r ≤ loops_deep → ltb loops_deep (l + depth (put_in f r)) ≡ deep_items l r
      items_put (one i) l d = item_put i l d
      items_put (next r t i) l d =
          ap (λ k. ltb loops_deep (l + k)) (depth_glue (put_in f r) t (put_in_item f i))
          ∙ past_both loops_deep l (depth (put_in f r)) (depth (put_in_item f i))
          ∙ ap (λ b. b || ltb loops_deep (l + depth (put_in_item f i))) (items_put r l (omega arith))
          ∙ ap (λ b. deep_items l r || b) (item_put i l (omega arith))
