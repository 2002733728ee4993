-- Parts of a text, and bytes with their places.
use Prim.Native.Nat.{ℕ, zero, suc, ◌+◌, ◌-◌, ◌<◌, ◌≤◌}
use mathlib.Core.Path.{◌≡◌, refl, ◌∙◌}
use mathlib.Core.List.{List, [], ◌∷◌}
use native.Mathlib.Omega.{arith}
use native.Mathlib.Numerals.{add-one}
use native.Mathlib.Nat.{add-zero, add-suc, suc-add}
use lib.ListN.{length, get_or, drop}
use lib.Seq.{drop-cons, drop-drop}
use Rattle.songcode.specs.Bytes.{placed}
use Rattle.text.specs.Spans.{part}
use Rattle.songcode.proofs.ListLaws.{drop_take}

module _ (s : List ℕ) (a e : ℕ) where
  pub part_cons : a < e → e ≤ length s → part a e s ≡ get_or s a 0 ∷ part (a + 1) e s
  part_cons h l =
      let k : e - a ≡ suc (e - suc a) = omega arith in
      rw (k, drop-cons s a 0 (omega arith), add-one a)

  pub part_none : e ≤ a → part a e s ≡ []
  part_none h = let k : e - a ≡ 0 = omega arith in rw k

  pub part_drop : (k : ℕ) → drop k (part a e s) ≡ part (a + k) e s
  part_drop k =
      let i : e - a - k ≡ e - (a + k) = omega arith in
      drop_take k (e - a) (drop a s) ∙ rw (drop-drop k a s, i)

pub placed_drop : (at k : ℕ) (bs : List ℕ) → drop k (placed at bs) ≡ placed (at + k) (drop k bs)
unfolding placed
placed_drop at zero bs = rw add-zero
placed_drop at (suc k) [] = refl
placed_drop at (suc k) (b ∷ bs) = placed_drop (suc at) k bs ∙ rw (suc-add, ← add-suc)
