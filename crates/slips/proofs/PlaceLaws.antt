-- The line of a place does not change with a byte that ends no line.
use Prim.Native.Nat.{ℕ, suc, ◌+◌, ◌<◌}
use mathlib.Core.Path.{◌≡◌, refl, ap, sym, ◌∙◌}
use mathlib.Core.List.{List, [], ◌∷◌, ◌++◌}
use native.Mathlib.Numerals.{add-one}
use borrow.Author.Tests.{ne_eqb}
use lib.ListN.{length, take, get_or}
use lib.Seq.{take-suc}
use Rattle.songcode.specs.Lists.{provided◌then◌else◌}
use Rattle.songcode.specs.Bytes.{Byte, placed}
use Rattle.songcode.specs.Answer.Lines.{Ending, lf, cr, inside, ending, ending_of, LineCut, put, cut_lines}
use Rattle.songcode.specs.Answer.Answer.{line_of_place}

-- As many lines behind the first, whatever the first is.
put_same : (e n : Ending) (b : Byte) (c d : LineCut) → length c.others ≡ length d.others → length (put e n b c).others ≡ length (put e n b d).others
unfolding put
put_same inside n b c d h = h
put_same lf n b c d h = ap suc h
put_same cr lf b c d h = h
put_same cr cr b c d h = ap suc h
put_same cr inside b c d h = ap suc h

abbrev ends : ℕ → List ℕ → ℕ
ends at bs = length (cut_lines (placed at bs)).others

put_last : (e n : Ending) (b d : Byte) → length (put e inside b (record { first = []; others = [] })).others
    ≡ length (put e inside b (record { first = d ∷ []; others = [] })).others
unfolding put
put_last inside n b d = refl
put_last lf n b d = refl
put_last cr n b d = refl

module _ (b : ℕ) (h : (at : ℕ) → ending (record { place = at; value = b }) ≡ inside) where
  ends_behind : (at : ℕ) (xs : List ℕ) → ends at (xs ++ (b ∷ [])) ≡ ends at xs
  unfolding cut_lines placed put ending_of
  ends_behind at [] = rw (h at)
  ends_behind at (x ∷ []) =
      rw (h (suc at)) (sym (put_last (ending (record { place = at; value = x })) inside (record { place = at; value = x })
      (record { place = suc at; value = b })))
  ends_behind at (x ∷ y ∷ ys) =
      put_same (ending (record { place = at; value = x })) (ending (record { place = suc at; value = y })) (record { place = at; value = x })
      (cut_lines (placed (suc at) ((y ∷ ys) ++ (b ∷ [])))) (cut_lines (placed (suc at) (y ∷ ys))) (ends_behind (suc at) (y ∷ ys))

  one_more_lem : (s : List ℕ) (i : ℕ) → i < length s → get_or s i 0 ≡ b → take (i + 1) s ≡ take i s ++ (b ∷ [])
  one_more_lem s i k e = rw (add-one i) (take-suc s i 0 k ∙ ap (λ (c : ℕ). take i s ++ (c ∷ [])) e)

  pub line_on : (s : List ℕ) (i : ℕ) → i < length s → get_or s i 0 ≡ b → line_of_place (i + 1) s ≡ line_of_place i s
  unfolding line_of_place
  line_on s i k e = ap (λ (xs : List ℕ). suc (ends 0 xs)) (one_more_lem s i k e) ∙ ap suc (ends_behind 0 (take i s))

within : (b : ℕ) → (b ≡ 10 → ⊥) → (b ≡ 13 → ⊥) → (at : ℕ) → ending (record { place = at; value = b }) ≡ inside
unfolding ending provided◌then◌else◌
within b n m at = simp (ne_eqb b 10 n, ne_eqb b 13 m)

pub same_line : (s : List ℕ) (i : ℕ) → i < length s → (get_or s i 0 ≡ 10 → ⊥) → (get_or s i 0 ≡ 13 → ⊥) → line_of_place (i + 1) s ≡ line_of_place i s
same_line s i k n m = line_on (get_or s i 0) (within (get_or s i 0) n m) s i k refl
