-- What an outline says of the items alone: that there are some, how deep their loops are, and whether one is a reference.
use Prim.Native.Nat.{ℕ, zero, suc, ◌+◌, ◌≤◌, min, max}
use mathlib.Core.Path.{◌≡◌, refl, sym, ap, ◌∙◌}
use mathlib.Core.List.{List, [], ◌∷◌, ◌++◌}
use mathlib.Core.Bool.{Bool, false, ◌||◌, not, or-true}
use native.Mathlib.Omega.{arith}
use lib.Dec.{eqb}
use lib.ListN.{take, drop}
use Rattle.songcode.specs.Lists.{provided◌then◌else◌, is_empty}
use Rattle.songcode.specs.Song.{Sounds, only, also, Item, measure, loop, refer, Items, one, next}
use Rattle.songcode.specs.Answer.Tokens.{Token, sound}
use Rattle.songcode.specs.Answer.PatternText.{depth_i, depth, loops_deep, references_i, references}
use Rattle.songcode.proofs.WrittenBefore.{write_sounds, write_measure, write_item, write_items}
use Rattle.songcode.proofs.ListLaws.{by_cases}
use Rattle.tokens.specs.TokenWords.{token_words}
use Rattle.score.specs.declared.stretches.Stretch.{Stretch}
use Rattle.score.specs.Standing.{ItemsFit, Stands}
use Rattle.score.proofs.StandingLaws.{stands_written}
use Rattle.outlines.specs.declared.readings.Outline.{Outline}
use Rattle.outlines.specs.declared.readings.Reading.{Reading}
use Rattle.outlines.specs.Readings.{started, sounded, measured, closed, opened, loop_shut, referred, summed, outlined}
use Rattle.outlines.specs.Told.{Sketches}
use Rattle.outlines.proofs.TreeLaws.{heard_in, heard_all, removed, after_item, after, closed_level, items_level}
use Rattle.outlines.proofs.ChordLaws.{or_false, or_assoc}
use Rattle.outlines.proofs.OutlineAgree.{read_whole}

-- Some token is written.
sounds_some : (xs : Sounds) (k : List Token) → is_empty (token_words (write_sounds xs k)) ≡ false
unfolding write_sounds token_words is_empty
sounds_some (only x) k = refl
sounds_some (also xs x) k = sounds_some xs (sound x ∷ k)

mutual
  unfolding write_item write_items write_measure token_words is_empty

  item_some : (i : Item) (k : List Token) → is_empty (token_words (write_item i k)) ≡ false
  item_some (measure m) k = sounds_some m.sounds _
  item_some (loop r n) k = refl
  item_some (refer n) k = refl

  pub items_some : (r : Items) (k : List Token) → is_empty (token_words (write_items r k)) ≡ false
  items_some (one i) k = item_some i k
  items_some (next r t i) k = items_some r _

closed_deepest : (s : Reading) → (closed s).deepest ≡ s.deepest
unfolding closed measured provided◌then◌else◌
closed_deepest s = by_cases (eqb s.positions 0) (λ e. rw e) (λ e. rw e)

closed_refers : (s : Reading) → (closed s).refers ≡ s.refers
unfolding closed measured provided◌then◌else◌
closed_refers s = by_cases (eqb s.positions 0) (λ e. rw e) (λ e. rw e)

all_deepest : (xs : Sounds) (s : Reading) → (heard_all xs s).deepest ≡ s.deepest
unfolding heard_all heard_in sounded
all_deepest (only x) s = refl
all_deepest (also xs x) s = all_deepest xs s

all_refers : (xs : Sounds) (s : Reading) → (heard_all xs s).refers ≡ s.refers
unfolding heard_all heard_in sounded
all_refers (only x) s = refl
all_refers (also xs x) s = all_refers xs s

removed_deepest : (n : ℕ) (s : Reading) → (removed n s).deepest ≡ s.deepest
unfolding removed sounded
removed_deepest zero s = refl
removed_deepest (suc n) s = removed_deepest n s

removed_refers : (n : ℕ) (s : Reading) → (removed n s).refers ≡ s.refers
unfolding removed sounded
removed_refers zero s = refl
removed_refers (suc n) s = removed_refers n s

some_of_both : (xs ys : List ℕ) → not (is_empty (xs ++ ys)) ≡ (not (is_empty xs) || not (is_empty ys))
unfolding is_empty
some_of_both [] ys = refl
some_of_both (x ∷ xs) ys = refl

-- Two parts one behind the other, and a loop around a part.
deepest_both : (d l j k x y : ℕ) → x ≡ l → y ≡ max d (l + j) → max y (x + k) ≡ max d (l + max j k)
deepest_both d l j k x y e f = rw (e, f) (omega arith)

deepest_inside : (d l k : ℕ) → l + suc k ≤ 7 → max (max d (min 7 (l + 1))) (min 7 (l + 1) + k) ≡ max d (l + suc k)
deepest_inside d l k h = let e : min 7 (l + 1) ≡ l + 1 = omega arith in rw e (omega arith)

module _ (find : ℕ → Outline) where
  mutual
    unfolding after after_item depth depth_i loop_shut opened referred

    item_deepest : (i : Item) (s : Reading) → s.level ≤ s.deepest → s.level + depth_i i ≤ 7
        → (after_item find i s).deepest ≡ max s.deepest (s.level + depth_i i)
    item_deepest (measure m) s low d = removed_deepest m.removers (heard_all m.sounds s) ∙ all_deepest m.sounds s ∙ omega arith
    item_deepest (loop r n) s low d =
        closed_deepest (after find r (opened s))
        ∙ items_deepest r (opened s) (omega arith) (omega arith)
        ∙ deepest_inside s.deepest s.level (depth r) d
    item_deepest (refer n) s low d = omega arith

    items_deepest : (r : Items) (s : Reading) → s.level ≤ s.deepest → s.level + depth r ≤ 7
        → (after find r s).deepest ≡ max s.deepest (s.level + depth r)
    items_deepest (one i) s low d = item_deepest i s low d
    items_deepest (next r t i) s low d =
        let c = closed (after find r s) in
        let e : c.level ≡ s.level = closed_level (after find r s) ∙ items_level find r s (omega arith) in
        let f : c.deepest ≡ max s.deepest (s.level + depth r) = closed_deepest (after find r s) ∙ items_deepest r s low (omega arith) in
        item_deepest i c (rw (e, f) (omega arith)) (rw e (omega arith))
        ∙ deepest_both s.deepest s.level (depth r) (depth_i i) c.level c.deepest e f

  mutual
    unfolding after after_item references references_i is_empty loop_shut opened referred

    item_refers : (i : Item) (s : Reading) → (after_item find i s).refers ≡ (s.refers || not (is_empty (references_i i)))
    item_refers (measure m) s = removed_refers m.removers (heard_all m.sounds s) ∙ all_refers m.sounds s ∙ sym (or_false s.refers)
    item_refers (loop r n) s = closed_refers (after find r (opened s)) ∙ items_refers r (opened s)
    item_refers (refer n) s = sym (or-true s.refers)

    items_refers : (r : Items) (s : Reading) → (after find r s).refers ≡ (s.refers || not (is_empty (references r)))
    items_refers (one i) s = item_refers i s
    items_refers (next r t i) s =
        item_refers i (closed (after find r s))
        ∙ ap (λ b. b || not (is_empty (references_i i))) (closed_refers (after find r s) ∙ items_refers r s)
        ∙ or_assoc s.refers (not (is_empty (references r))) (not (is_empty (references_i i)))
        ∙ ap (λ b. s.refers || b) (sym (some_of_both (references r) (references_i i)))

sum_sketches : (find : ℕ → Outline) (e : Bool) (r : Items) → depth r ≤ loops_deep → e ≡ false → Sketches (summed e (closed (after find r started))) r
unfolding summed started loops_deep
sum_sketches find e r d h =
    record {
      filled = h;
      depth = closed_deepest (after find r started) ∙ items_deepest find r started (omega arith) (omega arith) ∙ omega arith;
      refers = closed_refers (after find r started) ∙ items_refers find r started;
    }

pub outline_sketches : (find : ℕ → Outline) (ws : List ℕ) (s : Stretch) (r : Items) → Stands ws s r → ItemsFit r → depth r ≤ loops_deep
    → Sketches (outlined find (drop s.from (take s.to ws))) r
unfolding outlined
outline_sketches find ws s r p h d =
    rw (stands_written ws s r p, read_whole find r h d) (sum_sketches find (is_empty (token_words (write_items r []))) r d (items_some r []))
