-- What each of the five modifiers says, by its setting.
use Prim.Native.Nat.{ℕ}
use mathlib.Core.Path.{◌≡◌, refl, ap}
use mathlib.Core.Option.{Option, none, some, bind}
use native.Mathlib.Omega.{arith}
use Rattle.songcode.specs.Answer.Numbers.{repeat_in}
use Rattle.songcode.specs.Song.{repeated, cut_start, cut_end, before, after}
use Rattle.songcode.specs.Answer.Modifiers.{of_repeat, of_cut_start, of_cut_end, of_before, of_after, modifier_place, modifier_in, cut_in}
use Rattle.songcode.specs.Answer.Modifiers.{repeat_said, cut_start_said, cut_end_said, before_said, after_said}
use Rattle.songcode.specs.Answer.PatternText.{side_text}
use Rattle.sections.specs.SectionSays.{side_on, side_said}
use Rattle.sections.proofs.SaidLaws.{Told, Tells}

-- What a reading gives that is read further into one value.
then_some : {A C : Type 0} (o : Option A) (h : A → C) {y : C} → bind o (λ k. some (h k)) ≡ some y → (k : A) × (o ≡ some k) × (y ≡ h k)
unfolding bind
then_some none h e = let z : ◌≡◌ {A = ℕ} 0 1 = cc in absurd (omega arith)
then_some (some k) h e = (k, refl, cc)

pub repeat_tells : Tells of_repeat repeat_said (λ x. repeat_in x.text)
unfolding modifier_in modifier_place Told repeat_said
repeat_tells of_repeat n bs y e = let r = then_some (repeat_in bs) repeated e in (r.0, ap repeat_said r.2, r.1)
repeat_tells of_cut_start n bs y e = let r = then_some (cut_in bs) cut_start e in rw r.2 refl
repeat_tells of_cut_end n bs y e = let r = then_some (cut_in bs) cut_end e in rw r.2 refl
repeat_tells of_before n bs y e = let r = then_some (side_text bs) (λ k. before n k) e in rw r.2 refl
repeat_tells of_after n bs y e = let r = then_some (side_text bs) (λ k. after n k) e in rw r.2 refl

pub cut_start_tells : Tells of_cut_start cut_start_said (λ x. cut_in x.text)
unfolding modifier_in modifier_place Told cut_start_said
cut_start_tells of_repeat n bs y e = let r = then_some (repeat_in bs) repeated e in rw r.2 refl
cut_start_tells of_cut_start n bs y e = let r = then_some (cut_in bs) cut_start e in (r.0, ap cut_start_said r.2, r.1)
cut_start_tells of_cut_end n bs y e = let r = then_some (cut_in bs) cut_end e in rw r.2 refl
cut_start_tells of_before n bs y e = let r = then_some (side_text bs) (λ k. before n k) e in rw r.2 refl
cut_start_tells of_after n bs y e = let r = then_some (side_text bs) (λ k. after n k) e in rw r.2 refl

pub cut_end_tells : Tells of_cut_end cut_end_said (λ x. cut_in x.text)
unfolding modifier_in modifier_place Told cut_end_said
cut_end_tells of_repeat n bs y e = let r = then_some (repeat_in bs) repeated e in rw r.2 refl
cut_end_tells of_cut_start n bs y e = let r = then_some (cut_in bs) cut_start e in rw r.2 refl
cut_end_tells of_cut_end n bs y e = let r = then_some (cut_in bs) cut_end e in (r.0, ap cut_end_said r.2, r.1)
cut_end_tells of_before n bs y e = let r = then_some (side_text bs) (λ k. before n k) e in rw r.2 refl
cut_end_tells of_after n bs y e = let r = then_some (side_text bs) (λ k. after n k) e in rw r.2 refl

pub before_tells : Tells of_before before_said side_said
unfolding modifier_in modifier_place Told before_said side_said side_on bind
before_tells of_repeat n bs y e = let r = then_some (repeat_in bs) repeated e in rw r.2 refl
before_tells of_cut_start n bs y e = let r = then_some (cut_in bs) cut_start e in rw r.2 refl
before_tells of_cut_end n bs y e = let r = then_some (cut_in bs) cut_end e in rw r.2 refl
before_tells of_before n bs y e = let r = then_some (side_text bs) (λ k. before n k) e in
    (record { line = n; items = r.0 }, ap before_said r.2, ap (side_on n) r.1)
before_tells of_after n bs y e = let r = then_some (side_text bs) (λ k. after n k) e in rw r.2 refl

pub after_tells : Tells of_after after_said side_said
unfolding modifier_in modifier_place Told after_said side_said side_on bind
after_tells of_repeat n bs y e = let r = then_some (repeat_in bs) repeated e in rw r.2 refl
after_tells of_cut_start n bs y e = let r = then_some (cut_in bs) cut_start e in rw r.2 refl
after_tells of_cut_end n bs y e = let r = then_some (cut_in bs) cut_end e in rw r.2 refl
after_tells of_before n bs y e = let r = then_some (side_text bs) (λ k. before n k) e in rw r.2 refl
after_tells of_after n bs y e = let r = then_some (side_text bs) (λ k. after n k) e in
    (record { line = n; items = r.0 }, ap after_said r.2, ap (side_on n) r.1)
