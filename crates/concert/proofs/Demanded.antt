-- Every demand, proved.
use Prim.Native.Nat.{ℕ, ◌*◌, ◌+◌, ◌^◌}
use mathlib.Core.Path.{◌≡◌, refl, ap, sym, ◌∙◌, subst}
use mathlib.Core.Logic.{◌↔◌}
use mathlib.Core.List.{List, [], ◌∷◌, map}
use mathlib.Core.Bool.{false}
use native.Mathlib.Omega.{arith}
use lib.Dec.{eqb}
use lib.IntN.{ℤ, pos}
use lib.ListN.{length}
use borrow.Author.Tests.{eqb-true, eqb-false}
use Rattle.std.specs.Prelude.{Option}
use Rattle.refusals.specs.declared.names.Why.{Why}
use Rattle.songcode.specs.Lists.{any}
use Rattle.songcode.specs.Answer.Chords.{spelling_of, root_of, is_minor}
use Rattle.songcode.proofs.ListLaws.{by_cases, none_passes, pass_none}
use Rattle.concert.specs.Pitches.{moved_root, moved_base}
use Rattle.concert.specs.Moves.{base_in, behind_base, moved_word, moved_table, is_odd}
use Rattle.concert.specs.Promises.{Moves}
use Rattle.concert.specs.Demands.{ComesTo, SumsTo, Demands}
use Rattle.concert.proofs.BaseLaws.{moved_below, name_sounds, own_name}
use Rattle.concert.proofs.WordLaws.{moved_listed, packed_base, behind_stays, behind_below, silence_stays, chord_moves, even_stays}
use Rattle.concert.proofs.Octaves.{moved_twice_root}

-- What a base comes to.
pub comes_to : (z : ℤ) (b : ℕ) → ComesTo z b (moved_base z b)
unfolding moved_base
comes_to z b =
    let s = name_sounds (is_minor (spelling_of b)) (moved_root z (root_of (spelling_of b))) (moved_below z (root_of (spelling_of b))) in
    record { listed = s.listed; no_flat = s.no_flat; quality = s.quality; root = s.root }

moved_exactly : (z : ℤ) (old new : ℕ) → (moved_base z old ≡ new) ↔ ComesTo z old new
unfolding moved_base
moved_exactly z old new = (
  (λ e. subst (λ n. ComesTo z old n) e (comes_to z old)),
  (λ c. rw (← c.root, ← c.quality) (own_name new c.listed c.no_flat)),
)

-- Moved twice.
twice_base : (a b c : ℤ) (base : ℕ) → SumsTo a b c → moved_base b (moved_base a base) ≡ moved_base c base
twice_base a b c base s =
    let x = comes_to a base in
    let y = comes_to b (moved_base a base) in
    sym
    ((moved_exactly c base (moved_base b (moved_base a base))).1
    (record {
      listed = y.listed;
      no_flat = y.no_flat;
      quality = y.quality ∙ x.quality;
      root = y.root ∙ ap (moved_root b) x.root ∙ moved_twice_root a b c (root_of (spelling_of base)) s;
    }))

twice_word : (a b c : ℤ) (w : ℕ) → SumsTo a b c → moved_word b (moved_word a w) ≡ moved_word c w
twice_word a b c w s =
    by_cases (eqb (base_in w) 63)
    (λ t. let e = eqb-true (base_in w) 63 t in rw (silence_stays a w e, silence_stays c w e) (silence_stays b w e))
    (λ f.
    let n = eqb-false (base_in w) 63 f in
    let base : base_in (moved_word a w) ≡ moved_base a (base_in w) = moved_base_lem n in
    let other : base_in (moved_word a w) ≡ 63 → ⊥ = λ e. let l = moved_listed a (base_in w) in
    let q = base in
    let p = e in omega arith in
    chord_moves b (moved_word a w) other
    ∙ ap (λ k. moved_base b k * 2 ^ 26 + behind_base (moved_word a w)) base
    ∙ ap (λ k. moved_base b (moved_base a (base_in w)) * 2 ^ 26 + k) (behind_stays a w)
    ∙ ap (λ k. k * 2 ^ 26 + behind_base w) (twice_base a b c (base_in w) s)
    ∙ sym (chord_moves c w n))
  where
    moved_base_lem : (base_in w ≡ 63 → ⊥) → base_in (moved_word a w) ≡ moved_base a (base_in w)
    moved_base_lem n = rw (chord_moves a w n) (packed_base (moved_base a (base_in w)) (behind_base w) (behind_below w))

twice : (a b c : ℤ) (beats : List ℕ) → SumsTo a b c → moved_table b (moved_table a beats) ≡ moved_table c beats
unfolding moved_table
twice a b c [] s = refl
twice a b c (w ∷ ws) s =
    let x = twice_word a b c w s in
    let y = twice a b c ws s in
    cc

between : (a : ℤ) (beats : List ℕ) → any is_odd beats ≡ false → any is_odd (moved_table a beats) ≡ false
unfolding moved_table any
between a [] f = refl
between a (w ∷ ws) f =
    let p = none_passes (is_odd w) (any is_odd ws) f in
    pass_none (even_stays a w p.0) (between a ws p.1)

nothing_else : (a : ℤ) (beats : List ℕ) → map behind_base (moved_table a beats) ≡ map behind_base beats
unfolding moved_table
nothing_else a [] = refl
nothing_else a (w ∷ ws) =
    let x = behind_stays a w in
    let y = nothing_else a ws in
    cc

as_many : (a : ℤ) (beats : List ℕ) → length (moved_table a beats) ≡ length beats
unfolding moved_table
as_many a [] = refl
as_many a (w ∷ ws) = let x = as_many a ws in omega arith

one_outcome : (z : ℤ) (beats before : List ℕ) (r q : Option Why) (x y : List ℕ) → Moves z beats before r x → Moves z beats before q y → (r ≡ q) × (x ≡ y)
one_outcome z beats before r q x y m n = (m.refused ∙ sym n.refused, m.second ∙ sym n.second)

pub demanded : Demands
demanded =
    record {
      moved_exactly = moved_exactly;
      moved_twice = λ a b c beats f s. twice a b c beats s;
      between = between;
      nothing_else = nothing_else;
      as_many = as_many;
      silence_stays = silence_stays;
      once_respelled = λ beats f. twice (pos 0) (pos 0) (pos 0) beats (record { octaves = pos 0; sums = refl });
      one_outcome = one_outcome;
    }
