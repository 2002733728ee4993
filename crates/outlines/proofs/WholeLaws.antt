-- Whether items have no remover, as the state tells it; and how many measures an outline tells where each has N beats.
use Prim.Native.Nat.{ℕ, zero, suc, ◌≤◌, min}
use mathlib.Core.Path.{◌≡◌, refl, sym, ap, ◌∙◌}
use mathlib.Core.Bool.{Bool, ◌&&◌, and-true, and-false}
use mathlib.Core.Option.{Option, some}
use native.Mathlib.Omega.{arith}
use borrow.Author.Tests.{ne_eqb, leb-true, leb-false, lt-leb}
use lib.Dec.{eqb, leb}
use Rattle.songcode.specs.Lists.{provided◌then◌else◌}
use Rattle.songcode.specs.Song.{Sound, chord, again, silence, Sounds, only, also, Separator, Item, measure, loop, refer, Items, one, next}
use Rattle.songcode.specs.Answer.PatternText.{references_i, references}
use Rattle.songcode.specs.Answer.References.{glue, put_in_item, put_in}
use Rattle.songcode.specs.Answer.Meter.{all_fit, count, most_measures}
use Rattle.songcode.proofs.ListLaws.{by_cases, Each, append_each}
use Rattle.tokens.specs.TokenWords.{chord_word, token_word}
use Rattle.tokens.specs.Signs.{kind_of}
use Rattle.tokens.proofs.KindLaws.{chord_kind}
use Rattle.score.specs.Standing.{ChordFits, ChordsFit, ItemFits, ItemsFit}
use Rattle.score.specs.Even.{is_whole_item, is_whole, even_measures}
use Rattle.outlines.specs.declared.readings.Outline.{Outline}
use Rattle.outlines.specs.declared.readings.Reading.{Reading}
use Rattle.outlines.specs.Readings.{sounded, measured, closed, opened, loop_shut, referred}
use Rattle.outlines.specs.Told.{Tells, Told}
use Rattle.outlines.specs.Even.{even_in}
use Rattle.outlines.proofs.TreeLaws.{heard_in, heard_all, removed, after_item, after}
use Rattle.outlines.proofs.MeterLaws.{and_assoc}

pub closed_whole : (s : Reading) → (closed s).whole ≡ s.whole
unfolding closed measured provided◌then◌else◌
closed_whole s = by_cases (eqb s.positions 0) (λ e. rw e) (λ e. rw e)

-- What sounds is no remover.
heard_whole : (x : Sound) (s : Reading) → ChordFits x → (heard_in x s).whole ≡ s.whole
unfolding heard_in sounded token_word ChordFits
heard_whole (chord c) s h =
    let k = chord_kind (chord_word c) h in
    rw (ne_eqb (kind_of (chord_word c)) 61 (λ z. omega arith)) (and-true s.whole)
heard_whole again s h = and-true s.whole
heard_whole silence s h = and-true s.whole

all_whole : (xs : Sounds) (s : Reading) → ChordsFit xs → (heard_all xs s).whole ≡ s.whole
unfolding heard_all ChordsFit
all_whole (only x) s h = heard_whole x s h
all_whole (also xs x) s h = heard_whole x (heard_all xs s) h.1 ∙ all_whole xs s h.0

removed_whole : (n : ℕ) (s : Reading) → (removed n s).whole ≡ (s.whole && eqb n 0)
unfolding removed sounded
removed_whole zero s = sym (and-true s.whole)
removed_whole (suc n) s =
    and-false (removed n s).whole ∙ sym (ap (λ b. s.whole && b) (ne_eqb (suc n) 0 (λ z. omega arith)) ∙ and-false s.whole)

whole_glue : (r : Items) (t : Separator) (q : Items) → is_whole (glue r t q) ≡ (is_whole r && is_whole q)
unfolding glue is_whole
whole_glue r t (one i) = refl
whole_glue r t (next q u i) = rw (whole_glue r t q) (and_assoc (is_whole r) (is_whole q) (is_whole_item i))

module _ (find : ℕ → Outline) (f : ℕ → Option Items) where
  mutual
    unfolding after after_item put_in put_in_item references_i references Each ItemFits ItemsFit is_whole is_whole_item loop_shut opened referred Told

    item_whole : (i : Item) (s : Reading) → ItemFits i → Each (Told find f) (references_i i)
        → (after_item find i s).whole ≡ (s.whole && is_whole (put_in_item f i))
    item_whole (measure m) s h t =
        removed_whole m.removers (heard_all m.sounds s)
        ∙ ap (λ b. b && eqb m.removers 0) (all_whole m.sounds s h)
    item_whole (loop r n) s h t = closed_whole (after find r (opened s)) ∙ items_whole r (opened s) h.2 t
    item_whole (refer n) s h t = ap (λ b. s.whole && b) t.0.whole

    pub items_whole : (r : Items) (s : Reading) → ItemsFit r → Each (Told find f) (references r)
        → (after find r s).whole ≡ (s.whole && is_whole (put_in f r))
    items_whole (one i) s h t = item_whole i s h t
    items_whole (next r u i) s h t =
        let g = append_each (Told find f) (references r) (references_i i) t in
        item_whole i (closed (after find r s)) h.1 g.1
        ∙ ap (λ b. b && is_whole (put_in_item f i)) (closed_whole (after find r s) ∙ items_whole r s h.0 g.0)
        ∙ and_assoc s.whole (is_whole (put_in f r)) (is_whole (put_in_item f i))
        ∙ ap (λ b. s.whole && b) (sym (whole_glue (put_in f r) u (put_in_item f i)))

few_capped : (a b : Bool) (c : ℕ) → (provided a && (b && leb (min 65536 c) 65535) then min 65536 c else 0) ≡ (provided (a && b) && leb c 65535 then c else 0)
unfolding provided◌then◌else◌
few_capped a b c = by_cases (leb c 65535)
    (λ e. let l = leb-true c 65535 e in
    let m : min 65536 c ≡ c = omega arith in rw (m, and_assoc a b (leb c 65535)))
    (λ e. let l = leb-false c 65535 e in rw (e, lt-leb (min 65536 c) 65535 (omega arith), and-false b, and-false a, and-false (a && b)))

-- An outline that tells of items tells this too.
pub tells_even : (o : Outline) (r : Items) (n : ℕ) → Tells o r → 1 ≤ n → n ≤ 32 → even_in o n ≡ even_measures n (some r)
unfolding even_in even_measures most_measures
tells_even o r n t low high = rw (t.whole, t.sizes n low high, t.measures) (few_capped (is_whole r) (all_fit n r) (count r))
