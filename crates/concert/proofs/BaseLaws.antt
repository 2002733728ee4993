-- The tables of roots and of sharp names, held to the spellings: each one test, computed for all entries.
use Prim.Native.Nat.{ℕ, ◌-◌, ◌%◌, ◌<◌, ◌≤◌}
use mathlib.Core.Path.{◌≡◌, refl}
use mathlib.Core.List.{List, [], ◌∷◌}
use mathlib.Core.Bool.{Bool, true, false, not, ◌&&◌}
use native.Mathlib.Omega.{arith}
use borrow.Author.Tests.{leb-true, ltb-true, eqb-true, not-true}
use lib.Dec.{eqb, leb, ltb}
use lib.IntN.{ℤ}
use lib.ListN.{get_or}
use Rattle.songcode.specs.Lists.{provided◌then◌else◌, any}
use Rattle.songcode.specs.Answer.Chords.{spelling_of, root_of, is_minor}
use Rattle.songcode.proofs.ListLaws.{by_cases, both_pass}
use Rattle.songcode.proofs.EachBelow.{all_below, each_below}
use Rattle.concert.specs.Pitches.{moved_root, sharp_base, moved_base}

-- The code's tables.
abbrev pub roots : List ℕ
roots =
    9 ∷ 10 ∷ 8 ∷ 21 ∷ 22 ∷ 20 ∷ 11 ∷ 10 ∷ 23 ∷ 22 ∷ 0 ∷ 1 ∷ 12 ∷ 13 ∷ 2 ∷ 1 ∷ 3 ∷ 14 ∷
    13 ∷ 15 ∷ 4 ∷ 3 ∷ 16 ∷ 15 ∷ 5 ∷ 6 ∷ 17 ∷ 18 ∷ 7 ∷ 6 ∷ 8 ∷ 19 ∷ 18 ∷ 20 ∷ []

abbrev pub root_at : ℕ → ℕ
root_at b = get_or roots b 0

abbrev pub majors : List ℕ
majors = 10 ∷ 11 ∷ 14 ∷ 16 ∷ 20 ∷ 24 ∷ 25 ∷ 28 ∷ 30 ∷ 0 ∷ 1 ∷ 6 ∷ []

abbrev pub minors : List ℕ
minors = 12 ∷ 13 ∷ 17 ∷ 19 ∷ 22 ∷ 26 ∷ 27 ∷ 31 ∷ 33 ∷ 3 ∷ 4 ∷ 8 ∷ []

-- The root of a base, and twelve more where it is minor.
unfoldable rooted : ℕ → Bool
rooted b =
    leb (root_at b) 23
    && (eqb (root_of (spelling_of b)) (root_at b % 12)
    && (provided is_minor (spelling_of b) then leb 12 (root_at b) else ltb (root_at b) 12))

each_rooted : (b : ℕ) → b < 34 → rooted b ≡ true
unfolding rooted all_below provided◌then◌else◌ root_of is_minor spelling_of
each_rooted = each_below rooted 34 refl

pub record Rooted (b : ℕ) : Type 0 where
  pub small : root_at b ≤ 23
  pub root : root_of (spelling_of b) ≡ root_at b % 12
  pub major : root_at b < 12 → is_minor (spelling_of b) ≡ false
  pub minor : 12 ≤ root_at b → is_minor (spelling_of b) ≡ true

pub base_rooted : (b : ℕ) → b < 34 → Rooted b
unfolding rooted provided◌then◌else◌
base_rooted b h =
    let x = both_pass _ _ (each_rooted b h) in
    let y = both_pass _ _ x.1 in
    record {
      small = leb-true _ _ x.0;
      root = eqb-true _ _ y.0;
      major = λ l. by_cases (is_minor (spelling_of b)) (λ t. absurd (let q = leb-true 12 (root_at b) (rw t at y.1) in omega arith)) (λ f. f);
      minor = λ l. by_cases (is_minor (spelling_of b)) (λ t. t) (λ f. absurd (let q = ltb-true (root_at b) 12 (rw f at y.1) in omega arith));
    }

-- The sharp name of a root: its number, and what it sounds.
unfoldable named : ℕ → Bool
named r = eqb (get_or majors r 0) (sharp_base r false) && eqb (get_or minors r 0) (sharp_base r true)

each_named : (r : ℕ) → r < 12 → named r ≡ true
unfolding named all_below sharp_base
each_named = each_below named 12 refl

pub moved_below : (z : ℤ) (root : ℕ) → moved_root z root < 12
unfolding moved_root
moved_below z root = omega arith

pub major_moved : (z : ℤ) (b r : ℕ) → b < 34 → root_at b < 12 → r ≡ moved_root z (root_at b) → get_or majors r 0 ≡ moved_base z b
unfolding moved_base named
major_moved z b r h l e =
    let k = base_rooted b h in
    let same : root_of (spelling_of b) ≡ root_at b = let q = k.root in omega arith in
    let n = moved_root z (root_at b) in
    let t = both_pass (eqb (get_or majors n 0) (sharp_base n false)) (eqb (get_or minors n 0) (sharp_base n true)) (each_named n (moved_below z (root_at b))) in
    rw (e, same, k.major l) (eqb-true (get_or majors n 0) (sharp_base n false) t.0)

pub minor_moved : (z : ℤ) (b r : ℕ) → b < 34 → 12 ≤ root_at b → r ≡ moved_root z (root_at b - 12) → get_or minors r 0 ≡ moved_base z b
unfolding moved_base named
minor_moved z b r h l e =
    let k = base_rooted b h in
    let same : root_of (spelling_of b) ≡ root_at b - 12 = let q = k.root in
    let s = k.small in omega arith in
    let n = moved_root z (root_at b - 12) in
    let t = both_pass (eqb (get_or majors n 0) (sharp_base n false)) (eqb (get_or minors n 0) (sharp_base n true))
    (each_named n (moved_below z (root_at b - 12))) in
    rw (e, same, k.minor l) (eqb-true (get_or minors n 0) (sharp_base n true) t.1)

-- What a sharp name is: a base chord of that root and quality, spelled without a flat.
unfoldable sounds : Bool → ℕ → Bool
sounds minor r =
    leb (sharp_base r minor) 33
    && (not (any (eqb 98) (spelling_of (sharp_base r minor)))
    && (eqb (root_of (spelling_of (sharp_base r minor))) r
    && (provided minor then is_minor (spelling_of (sharp_base r minor)) else not (is_minor (spelling_of (sharp_base r minor))))))

each_sounds : (minor : Bool) (r : ℕ) → r < 12 → sounds minor r ≡ true
unfolding sounds all_below sharp_base provided◌then◌else◌ any root_of is_minor spelling_of
each_sounds true = each_below (sounds true) 12 refl
each_sounds false = each_below (sounds false) 12 refl

pub record Sounds (minor : Bool) (r : ℕ) : Type 0 where
  pub listed : sharp_base r minor < 34
  pub no_flat : any (eqb 98) (spelling_of (sharp_base r minor)) ≡ false
  pub root : root_of (spelling_of (sharp_base r minor)) ≡ r
  pub quality : is_minor (spelling_of (sharp_base r minor)) ≡ minor

as_minor : (m b : Bool) → (provided m then b else not b) ≡ true → b ≡ m
unfolding provided◌then◌else◌
as_minor true b t = t
as_minor false b t = not-true b t

pub name_sounds : (minor : Bool) (r : ℕ) → r < 12 → Sounds minor r
unfolding sounds
name_sounds minor r h =
    let x = both_pass _ _ (each_sounds minor r h) in
    let y = both_pass _ _ x.1 in
    let w = both_pass _ _ y.1 in
    let q = leb-true (sharp_base r minor) 33 x.0 in
    record { listed = omega arith; no_flat = not-true _ y.0; root = eqb-true _ _ w.0; quality = as_minor minor _ w.1 }

-- And no other base chord is: one without a flat is the sharp name of its own root and quality.
unfoldable sharp : ℕ → Bool
sharp b = provided any (eqb 98) (spelling_of b) then true else eqb (sharp_base (root_of (spelling_of b)) (is_minor (spelling_of b))) b

each_sharp : (b : ℕ) → b < 34 → sharp b ≡ true
unfolding sharp all_below provided◌then◌else◌ any sharp_base root_of is_minor spelling_of
each_sharp = each_below sharp 34 refl

pub own_name : (b : ℕ) → b < 34 → any (eqb 98) (spelling_of b) ≡ false → sharp_base (root_of (spelling_of b)) (is_minor (spelling_of b)) ≡ b
unfolding sharp provided◌then◌else◌
own_name b h f = eqb-true _ _ (rw f at (each_sharp b h))
