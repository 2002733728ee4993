-- Which complaint is given of two lists put together.
use Prim.Native.Nat.{ℕ, ◌<◌, ◌≤◌}
use mathlib.Core.Path.{◌≡◌, refl, ap, ◌∙◌, subst}
use mathlib.Core.List.{List, [], ◌∷◌, ◌++◌, flat_map}
use mathlib.Core.Logic.{inl, inr, ⊎_elim}
use mathlib.Core.Bool.{true, false}
use mathlib.Core.Option.{Option, none, some}
use native.Mathlib.Omega.{arith}
use borrow.Author.Tests.{lt-ltb, le-ltb, le-leb, eq-eqb}
use Rattle.songcode.specs.Lists.{provided◌then◌else◌}
use Rattle.songcode.specs.Complaints.{Complaint, goes_first, earlier, earliest}
use Rattle.songcode.specs.Description.Given.{Before}
use Rattle.songcode.specs.Song.{Section}
use Rattle.songcode.proofs.ListLaws.{by_cases, true_is_not_false, Each, each_append, each_map}
use Rattle.songcode.proofs.VerdictAgree.{goes_first_lem, goes_behind}
use Rattle.sections.specs.Onward.{Later}

pub before_goes : (c d : Complaint) → Before c d → goes_first c d ≡ true
unfolding goes_first Before
before_goes c d p =
    ⊎_elim
    (λ a. rw (lt-ltb c.line d.line a))
    (λ a. let h = a.0 in rw (le-ltb c.line d.line (omega arith), eq-eqb c.line d.line h) (le-leb c.number d.number a.1))
    p

before_trans : (c d e : Complaint) → Before c d → Before d e → Before c e
unfolding Before
before_trans c d e p q =
    ⊎_elim
    (λ a. ⊎_elim (λ b. inl (omega arith)) (λ b. inl (let h = b.0 in omega arith)) q)
    (λ a. ⊎_elim (λ b. inl (let h = a.0 in omega arith)) (λ b. inr (
      a.0 ∙ b.0,
      let h = a.1 in
          let k = b.1 in omega arith,
    )) q)
    p

-- One that goes behind a second, which goes behind a third, does not go before the third.
goes_behind_both : (c d e : Complaint) → goes_first c d ≡ false → goes_first d e ≡ false → goes_first c e ≡ false
goes_behind_both c d e p q =
    by_cases (goes_first c e)
    (λ t. let b = before_trans c e d (goes_first_lem c e t) (goes_behind d e q) in true_is_not_false (before_goes c d b) p)
    (λ f. f)

earlier_both : (c d e : Complaint) → earlier c (some (earlier d (some e))) ≡ earlier (earlier c (some d)) (some e)
unfolding earlier provided◌then◌else◌
earlier_both c d e =
    by_cases (goes_first c d)
    (λ p. by_cases (goes_first d e)
    (λ q. let t = before_goes c e (before_trans c d e (goes_first_lem c d p) (goes_first_lem d e q)) in rw (q, p, t))
    (λ q. rw (q, p)))
    (λ p. by_cases (goes_first d e)
    (λ q. rw (q, p, q))
    (λ q. rw (q, p, goes_behind_both c d e p q, q)))

-- The earlier of two that may be absent.
unfoldable pub first_of : Option Complaint → Option Complaint → Option Complaint
first_of none y = y
first_of (some c) y = some (earlier c y)

pub earliest_append : (xs ys : List Complaint) → earliest (xs ++ ys) ≡ first_of (earliest xs) (earliest ys)
unfolding earliest first_of earlier
earliest_append [] ys = refl
earliest_append (c ∷ xs) ys = ap (λ (o : Option Complaint). some (earlier c o)) (earliest_append xs ys) ∙ ap some (both (earliest xs) (earliest ys))
  where
    both : (x y : Option Complaint) → earlier c (first_of x y) ≡ earlier (earlier c x) y
    both none y = refl
    both (some d) none = refl
    both (some d) (some e) = earlier_both c d e

pub earliest_none : (xs : List Complaint) → earliest xs ≡ none → xs ≡ []
unfolding earliest
earliest_none [] e = refl
earliest_none (c ∷ xs) e = let z : ◌≡◌ {A = ℕ} 0 1 = cc in absurd (omega arith)

-- One of the list satisfies whatever all do.
pub earliest_each : (P : Complaint → Type 0) (xs : List Complaint) (c : Complaint) → Each P xs → earliest xs ≡ some c → P c
unfolding Each earliest earlier provided◌then◌else◌
earliest_each P [] c h e = let z : ◌≡◌ {A = ℕ} 0 1 = cc in absurd (omega arith)
earliest_each P (d ∷ xs) c h e = of (earliest xs) (λ b q. earliest_each P xs b h.1 q) (same_some (earlier d (earliest xs)) c e)
  where
    same_some : (a b : Complaint) → some a ≡ some b → a ≡ b
    same_some a b q = cc

    of : (o : Option Complaint) → ((b : Complaint) → o ≡ some b → P b) → earlier d o ≡ c → P c
    of none q r = subst P r h.0
    of (some b) q r =
        by_cases (goes_first d b)
        (λ t. let w : d ≡ c = rw t at r in subst P w h.0)
        (λ t. let w : b ≡ c = rw t at r in subst P w (q b refl))

-- A complaint on a line goes before all on later lines.
unfoldable pub UpTo : ℕ → Complaint → Type 0
UpTo line c = c.line ≤ line

unfoldable pub Behind : ℕ → Complaint → Type 0
Behind line c = line < c.line

pub first_wins : (line : ℕ) (xs ys : List Complaint) → Each (UpTo line) xs → Each (Behind line) ys → (xs ≡ [] → ⊥) → earliest (xs ++ ys) ≡ earliest xs
unfolding UpTo Behind first_of earlier provided◌then◌else◌ Before
first_wins line xs ys h k n = earliest_append xs ys ∙ of (earliest xs) (earliest ys) refl refl
  where
    of : (x y : Option Complaint) → earliest xs ≡ x → earliest ys ≡ y → first_of x y ≡ x
    of none y p q = absurd (n (earliest_none xs p))
    of (some c) none p q = refl
    of (some c) (some d) p q =
        let a = earliest_each (λ c. c.line ≤ line) xs c h p in
        let b = earliest_each (λ c. line < c.line) ys d k q in
        rw (before_goes c d (inl (omega arith)))

-- The complaints of sections behind a line, each on its section's header.
pub gather_behind : (line : ℕ) (f : Section → List Complaint) → ((x : Section) → Each (λ c. c.line ≡ x.header) (f x))
    → (xs : List Section) → Later line xs → Each (Behind line) (flat_map f xs)
unfolding Later flat_map Each Behind
gather_behind line f h [] w = tt
gather_behind line f h (x ∷ xs) w =
    each_append (λ c. line < c.line) (f x) (flat_map f xs) (each_map (λ c e. let l = w.0 in omega arith) (f x) (h x))
    (gather_behind line f h xs w.1)
