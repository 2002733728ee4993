-- The rule of the table of beat lengths, proved once: one test over all entries, which is computed, carries the rule to each.
use Prim.Native.Nat.{ℕ, zero, suc, ◌+◌, ◌<◌}
use mathlib.Core.Path.{◌≡◌, subst}
use mathlib.Core.List.{List, [], ◌∷◌}
use mathlib.Core.Bool.{Bool, true, ◌&&◌}
use native.Mathlib.Omega.{arith}
use lib.Dec.{eqb}
use lib.ListN.{length, get_or}
use borrow.Author.Tests.{eqb-true}
use Rattle.songcode.proofs.ListLaws.{both_pass}
use Rattle.cues.specs.Cues.{beat_length}
use Rattle.cues.specs.Table.{IsTable}

-- Every entry of a table, the first for a given bpm, is the length of a beat.
unfoldable pub all_right : ℕ → List ℕ → Bool
unfolding beat_length
all_right bpm [] = true
all_right bpm (entry ∷ entries) = eqb entry (beat_length bpm) && all_right (suc bpm) entries

pub entry_right : (bpm : ℕ) (table : List ℕ) → all_right bpm table ≡ true → (place : ℕ) → place < length table
    → get_or table place 0 ≡ beat_length (bpm + place)
unfolding all_right
entry_right bpm [] t place l = absurd (omega arith)
entry_right bpm (x ∷ xs) t zero l =
    let g = both_pass (eqb x (beat_length bpm)) (all_right (suc bpm) xs) t in
    let e : bpm ≡ bpm + 0 = omega arith in
    subst (λ n. x ≡ beat_length n) e (eqb-true x (beat_length bpm) g.0)
entry_right bpm (x ∷ xs) t (suc place) l =
    let g = both_pass (eqb x (beat_length bpm)) (all_right (suc bpm) xs) t in
    let e : suc bpm + place ≡ bpm + suc place = omega arith in
    subst (λ n. get_or xs place 0 ≡ beat_length n) e (entry_right (suc bpm) xs g.1 place (omega arith))

-- A table of 401 entries that passes is the table that the code needs.
pub table_right : (table : List ℕ) → all_right 0 table ≡ true → length table ≡ 401 → IsTable table
table_right table t e = record { entry = λ bpm l. entry_at bpm (omega (arith, e, l)) }
  where
    entry_at : (bpm : ℕ) → bpm < length table → get_or table bpm 0 ≡ beat_length bpm
    entry_at bpm l = let z : 0 + bpm ≡ bpm = omega arith in subst (λ n. get_or table bpm 0 ≡ beat_length n) z (entry_right 0 table t bpm l)
