-- How many measures items play, as the state tells it where a measure ends: at every depth.
use Prim.Native.Nat.{ℕ, ◌+◌, ◌*◌, min}
use mathlib.Core.Path.{◌≡◌, ap, ◌∙◌}
use mathlib.Core.Option.{Option}
use native.Mathlib.Omega.{arith}
use Rattle.songcode.specs.Song.{Item, measure, loop, refer, Items, one, next}
use Rattle.songcode.specs.Answer.PatternText.{references_i, references}
use Rattle.songcode.specs.Answer.References.{put_in_item, put_in}
use Rattle.songcode.specs.Answer.Meter.{count_item, count}
use Rattle.songcode.proofs.ListLaws.{Each, append_each}
use Rattle.outlines.specs.declared.readings.Outline.{Outline}
use Rattle.outlines.specs.declared.readings.Reading.{Reading}
use Rattle.outlines.specs.Readings.{closed, opened, loop_shut, referred}
use Rattle.outlines.specs.Told.{Told}
use Rattle.outlines.proofs.SizeLaws.{min_times}
use Rattle.outlines.proofs.TreeLaws.{after_item, after}
use Rattle.outlines.proofs.MeterLaws.{closed_none, closed_same, count_glue, measure_closed}

-- So many measures are added to the row at hand.
abbrev Adds : Reading → Reading → ℕ → Type 0
Adds s t k = t.count ≡ min 65536 (s.count + k)

sums : (x y z j k : ℕ) → x ≡ min 65536 (z + j) → y ≡ min 65536 (x + k) → y ≡ min 65536 (z + (j + k))
sums x y z j k a b = omega arith

-- A loop of n plays its row n times.
loop_sum : (b r c n : ℕ) → r ≡ min 65536 (0 + c) → min 65536 (b + min 65536 (n * r)) ≡ min 65536 (b + n * c)
loop_sum b r c n f =
    let h : r ≡ min 65536 c = omega arith in
    let m : min 65536 (n * r) ≡ min 65536 (n * c) = ap (λ y. min 65536 (n * y)) h ∙ min_times n c in
    rw m (caps b (n * c))
  where
    caps : (x q : ℕ) → min 65536 (x + min 65536 q) ≡ min 65536 (x + q)
    caps x q = omega arith

module _ (find : ℕ → Outline) (f : ℕ → Option Items) where
  refer_adds : (k : ℕ) (s : Reading) → s.positions ≡ 0 → Told find f k → Adds s (closed (after_item find (refer k) s)) (count (put_in_item f (refer k)))
  unfolding after_item referred Told
  refer_adds k s e t =
      let h = t.measures in
      rw (closed_same (referred (find k) s) e, h) (omega arith)

  mutual
    unfolding after after_item put_in put_in_item references_i references Each count count_item loop_shut opened

    item_adds : (i : Item) (s : Reading) → s.positions ≡ 0 → Each (Told find f) (references_i i)
        → Adds s (closed (after_item find i s)) (count (put_in_item f i))
    item_adds (measure m) s e t = (measure_closed find m s e).count
    item_adds (loop r k) s e t =
        let c = closed (after find r (opened s)) in
        rw (closed_same (loop_shut k s.count c) (closed_none (after find r (opened s))))
        (loop_sum s.count c.count (count (put_in f r)) k (items_adds r (opened s) e t))
    item_adds (refer k) s e t = refer_adds k s e t.0

    pub items_adds : (r : Items) (s : Reading) → s.positions ≡ 0 → Each (Told find f) (references r)
        → Adds s (closed (after find r s)) (count (put_in f r))
    items_adds (one i) s e t = item_adds i s e t
    items_adds (next r u i) s e t =
        let g = append_each (Told find f) (references r) (references_i i) t in
        let c = count_glue (put_in f r) u (put_in_item f i) in
        rw c (sums _ _ s.count (count (put_in f r)) (count (put_in_item f i)) (items_adds r s e g.0)
        (item_adds i (closed (after find r s)) (closed_none (after find r s)) g.1))
