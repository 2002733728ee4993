-- The sizes of items' measures, as the state tells them where a measure ends.
use Prim.Native.Nat.{ℕ, zero, suc, ◌+◌, ◌≤◌, min}
use mathlib.Core.Path.{◌≡◌, refl, sym, ap, ◌∙◌}
use mathlib.Core.Bool.{Bool, true, false, ◌&&◌}
use mathlib.Core.Option.{Option}
use native.Mathlib.Omega.{arith}
use borrow.Author.Tests.{eq-eqb, ne_eqb, eqb-true}
use lib.Dec.{eqb}
use Rattle.songcode.specs.Lists.{provided◌then◌else◌}
use Rattle.songcode.specs.Song.{Sounds, only, also, Measure, Separator, Item, measure, loop, refer, Items, one, next}
use Rattle.songcode.specs.Answer.Tokens.{sound}
use Rattle.songcode.specs.Answer.PatternText.{references_i, references}
use Rattle.songcode.specs.Answer.References.{glue, put_in_item, put_in}
use Rattle.songcode.specs.Answer.Playing.{sound_count, positions}
use Rattle.songcode.specs.Answer.Meter.{fits, all_fit_item, all_fit, count}
use Rattle.songcode.proofs.ListLaws.{by_cases, Each, append_each}
use Rattle.songcode.proofs.PlayingAgree.{sounds_some}
use Rattle.tokens.specs.TokenWords.{token_word}
use Rattle.tokens.specs.Signs.{kind_of}
use Rattle.outlines.specs.declared.readings.Outline.{Outline}
use Rattle.outlines.specs.declared.readings.Reading.{Reading}
use Rattle.outlines.specs.Sizes.{divides, joined}
use Rattle.outlines.specs.Readings.{sounded, measured, closed, opened, loop_shut, referred}
use Rattle.outlines.specs.Told.{Told}
use Rattle.outlines.proofs.FitLaws.{joined_fits, capped_fits}
use Rattle.outlines.proofs.TreeLaws.{heard_in, heard_all, removed, after_item, after}

-- Where a measure ends.
pub closed_none : (s : Reading) → (closed s).positions ≡ 0
unfolding closed measured provided◌then◌else◌
closed_none s = by_cases (eqb s.positions 0) (λ e. rw e (eqb-true s.positions 0 e)) (λ e. rw e)

pub closed_same : (s : Reading) → s.positions ≡ 0 → closed s ≡ s
unfolding closed provided◌then◌else◌
closed_same s h = rw (eq-eqb s.positions 0 h)

closed_one : (s : Reading) → 1 ≤ s.positions → closed s ≡ measured s
unfolding closed provided◌then◌else◌
closed_one s h = rw (ne_eqb s.positions 0 (λ z. omega arith))

-- The positions of a measure; nothing else of these changes within it.
record Within (s t : Reading) (p : ℕ) : Type 0 where
  positions : t.positions ≡ min 33 (s.positions + p)
  sizes : t.sizes ≡ s.sizes
  count : t.count ≡ s.count

within_more : (k : ℕ) (s t : Reading) (p : ℕ) → Within s t p → Within s (sounded k t) (suc p)
unfolding sounded
within_more k s t p w = let e = w.positions in record { positions = rw e (omega arith); sizes = w.sizes; count = w.count }

within_one : (k : ℕ) (s : Reading) → Within s (sounded k s) 1
unfolding sounded
within_one k s = record { positions = refl; sizes = refl; count = refl }

all_within : (xs : Sounds) (s : Reading) → Within s (heard_all xs s) (sound_count xs)
unfolding heard_all heard_in sound_count
all_within (only x) s = within_one (kind_of (token_word (sound x))) s
all_within (also xs x) s = within_more (kind_of (token_word (sound x))) s (heard_all xs s) (sound_count xs) (all_within xs s)

removed_within : (n : ℕ) (s t : Reading) (p : ℕ) → Within s t p → Within s (removed n t) (p + n)
unfolding removed
removed_within zero s t p w = let e : p + 0 ≡ p = omega arith in rw e w
removed_within (suc n) s t p w = let e : p + suc n ≡ suc (p + n) = omega arith in rw e (within_more 61 s (removed n t) (p + n) (removed_within n s t p w))

-- A measure, and its end.
pub record Measured (s t : Reading) (p : ℕ) : Type 0 where
  pub sizes : t.sizes ≡ joined s.sizes (min 33 p)
  pub count : t.count ≡ min 65536 (s.count + 1)

pub measure_closed : (find : ℕ → Outline) (m : Measure) (s : Reading) → s.positions ≡ 0 → Measured s (closed (after_item find (measure m) s)) (positions m)
unfolding after_item positions measured
measure_closed find m s h =
    let t = removed m.removers (heard_all m.sounds s) in
    let w = removed_within m.removers s (heard_all m.sounds s) (sound_count m.sounds) (all_within m.sounds s) in
    let e = w.positions in
    let k = sounds_some m.sounds in
    let g : t.positions ≡ min 33 (sound_count m.sounds + m.removers) = omega arith in
    rw (closed_one t (omega arith)) (record { sizes = rw (w.sizes, g); count = rw w.count })

pub and_assoc : (a b c : Bool) → ((a && b) && c) ≡ (a && (b && c))
and_assoc true b c = refl
and_assoc false b c = refl

fit_glue : (n : ℕ) (r : Items) (t : Separator) (q : Items) → all_fit n (glue r t q) ≡ (all_fit n r && all_fit n q)
unfolding glue all_fit
fit_glue n r t (one i) = refl
fit_glue n r t (next q u i) = rw (fit_glue n r t q) (and_assoc (all_fit n r) (all_fit n q) (all_fit_item n i))

pub count_glue : (r : Items) (t : Separator) (q : Items) → count (glue r t q) ≡ count r + count q
unfolding glue count
count_glue r t (one i) = refl
count_glue r t (next q u i) = rw (count_glue r t q) (omega arith)

module _ (find : ℕ → Outline) (f : ℕ → Option Items) (n : ℕ) (low : 1 ≤ n) (high : n ≤ 32) where
  mutual
    unfolding after after_item put_in put_in_item references_i references Each all_fit all_fit_item fits divides loop_shut opened referred Told

    item_sizes_lem : (i : Item) (s : Reading) → s.positions ≡ 0 → Each (Told find f) (references_i i)
        → divides (closed (after_item find i s)).sizes n ≡ (divides s.sizes n && all_fit n (put_in_item f i))
    item_sizes_lem (measure m) s e t =
        ap (λ x. divides x n) (measure_closed find m s e).sizes
        ∙ joined_fits s.sizes (min 33 (positions m)) n low high
        ∙ ap (λ b. divides s.sizes n && b) (capped_fits (positions m) n low high)
    item_sizes_lem (loop r k) s e t =
        ap (λ (x : Reading). divides x.sizes n)
        (closed_same (loop_shut k s.count (closed (after find r (opened s)))) (closed_none (after find r (opened s))))
        ∙ items_sizes_lem r (opened s) e t
    item_sizes_lem (refer k) s e t =
        ap (λ (x : Reading). divides x.sizes n) (closed_same (referred (find k) s) e)
        ∙ joined_fits s.sizes (find k).sizes n low high
        ∙ ap (λ b. divides s.sizes n && b) (t.0.sizes n low high)

    pub items_sizes_lem : (r : Items) (s : Reading) → s.positions ≡ 0 → Each (Told find f) (references r)
        → divides (closed (after find r s)).sizes n ≡ (divides s.sizes n && all_fit n (put_in f r))
    items_sizes_lem (one i) s e t = item_sizes_lem i s e t
    items_sizes_lem (next r u i) s e t =
        let g = append_each (Told find f) (references r) (references_i i) t in
        item_sizes_lem i (closed (after find r s)) (closed_none (after find r s)) g.1
        ∙ ap (λ b. b && all_fit n (put_in_item f i)) (items_sizes_lem r s e g.0)
        ∙ and_assoc (divides s.sizes n) (all_fit n (put_in f r)) (all_fit n (put_in_item f i))
        ∙ ap (λ b. divides s.sizes n && b) (sym (fit_glue n (put_in f r) u (put_in_item f i)))
