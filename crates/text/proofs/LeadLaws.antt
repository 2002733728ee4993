-- The width of a character from its lead, and the tails behind: what the functions on characters cite.
use Prim.Native.Nat.{ℕ, zero, suc, ◌+◌, ◌-◌, ◌<◌, ◌≤◌}
use mathlib.Core.Path.{◌≡◌, refl, sym, ap, ◌∙◌}
use mathlib.Core.List.{List, [], ◌∷◌}
use mathlib.Core.Bool.{Bool, true, false, ◌&&◌}
use native.Mathlib.Omega.{arith}
use native.Mathlib.Numerals.{add-one}
use lib.ListN.{length, get_or, take, drop, get_or-eq_default}
use Rattle.std.proofs.Common.{Option, Some, None}
use Rattle.std.specs.Bool.{then_some}
use Rattle.std.specs.List.{list_all}
use Rattle.songcode.specs.Lists.{provided◌then◌else◌}
use Rattle.songcode.specs.Answer.Characters.{Form, form, forms, within, is_tail, tails, tails_follow, width_by}
use Rattle.songcode.proofs.ListLaws.{by_cases}
use Rattle.text.specs.declared.characters.Lead.{Lead}
use Rattle.text.specs.Leads.{lead_by, lead_of, width_from, whole, width_at}
use Rattle.text.proofs.ListLaws.{rest_part}

-- Of a form only the range of the second byte matters behind the first.
follows_range : (f : Form) (n : ℕ) (bs : List ℕ) → tails_follow (form 0 0 0 f.second_low f.second_high) n bs ≡ tails_follow f n bs
unfolding tails_follow
follows_range f zero bs = refl
follows_range f (suc n) [] = refl
follows_range f (suc n) (b ∷ bs) = refl

-- The width by the forms is the width from the lead.
unfoldable led : Option Lead → List ℕ → Option ℕ
led None bs = None
led (Some l) bs = width_from l bs

width_by_lead : (fs : List Form) (b : ℕ) (bs : List ℕ) → whole (width_by fs b bs) ≡ led (lead_by fs b) bs
unfolding whole led width_by lead_by width_from provided◌then◌else◌
width_by_lead [] b bs = refl
width_by_lead (f ∷ fs) b bs =
    let k : suc f.more - 1 ≡ f.more = omega arith in
    by_cases
    (within f.first_low f.first_high b)
    (λ e. by_cases (tails_follow f f.more bs) (λ t. rw (e, k, follows_range f f.more bs, t)) (λ t. rw (e, k, follows_range f f.more bs, t)))
    (λ e. rw e (width_by_lead fs b bs))

-- A lead of width 0 or 1 wants nothing behind it.
pub width_short : (l : Lead) (bs : List ℕ) → l.width < 2 → Some l.width ≡ width_from l bs
unfolding width_from tails_follow provided◌then◌else◌
width_short l bs h = let k : l.width - 1 ≡ 0 = omega arith in rw k

-- A longer one wants a second byte in its range, and tails behind that.
module _ (l : Lead) (h : 2 ≤ l.width) where
  wants : l.width - 1 ≡ suc (l.width - 2)
  wants = omega arith

  pub width_ended : None ≡ width_from l []
  unfolding width_from tails_follow provided◌then◌else◌
  width_ended = rw wants

  module _ (b : ℕ) (bs : List ℕ) {test : Bool} where
    pub width_second : within l.low l.high b ≡ false → test ≡ false → then_some test l.width ≡ width_from l (b ∷ bs)
    unfolding width_from tails_follow provided◌then◌else◌
    width_second e t = rw (wants, e, t)

    pub width_tails : within l.low l.high b ≡ true → test ≡ tails (l.width - 2) bs → then_some test l.width ≡ width_from l (b ∷ bs)
    unfolding width_from tails_follow provided◌then◌else◌
    width_tails e t = rw (wants, e, t) (by_cases (tails (l.width - 2) bs) (λ k. rw k) (λ k. rw k))

-- The tails that are wanted are the bytes that stand in front.
pub tails_short : (n : ℕ) (bs : List ℕ) → length bs < n → false ≡ tails n bs
unfolding tails
tails_short zero bs h = absurd (omega arith)
tails_short (suc n) [] h = refl
tails_short (suc n) (b ∷ bs) h = by_cases (is_tail b) (λ e. rw e (tails_short n bs (omega arith))) (λ e. rw e)

pub tails_all : (n : ℕ) (bs : List ℕ) → n ≤ length bs → list_all is_tail (take n bs) ≡ tails n bs
unfolding tails
tails_all zero bs h = refl
tails_all (suc n) [] h = absurd (omega arith)
tails_all (suc n) (b ∷ bs) h = ap (λ t. is_tail b && t) (tails_all n bs (omega arith))

-- The width at a place: of no byte, of a byte that no form begins with, and of any by its lead.
pub width_past : (s : List ℕ) (i : ℕ) → length s ≤ i → None ≡ width_at s i
unfolding whole width_by forms within provided◌then◌else◌
width_past s i h = rw (get_or-eq_default s 0 h)

module _ (s : List ℕ) (i : ℕ) where
  width_led : width_at s i ≡ led (lead_of (get_or s i 0)) (drop (suc i) s)
  unfolding lead_of
  width_led = width_by_lead forms (get_or s i 0) (drop (suc i) s)

  pub width_none : None ≡ lead_of (get_or s i 0) → None ≡ width_at s i
  unfolding led
  width_none e = sym (width_led ∙ rw (← e))

  pub width_lead : {l : Lead} {w : Option ℕ} → Some l ≡ lead_of (get_or s i 0)
      → w ≡ width_from l (take (length s - (i + 1)) (drop (i + 1) s)) → w ≡ width_at s i
  unfolding led
  width_lead {l} {w} p q = let r : w ≡ width_from l (drop (suc i) s) = rw (rest_part s (i + 1), add-one i) at q in
      r ∙ sym (width_led ∙ rw (← p))
