-- Tables word by word: a test that no word fails, and a second table as it is filled.
use Prim.Native.Nat.{ℕ, zero, suc, ◌+◌, ◌<◌, ◌≤◌}
use mathlib.Core.Path.{◌≡◌, ap, ◌∙◌}
use mathlib.Core.List.{List, [], ◌∷◌, ◌++◌, map, map-append}
use mathlib.Core.Bool.{Bool, false}
use native.Mathlib.Omega.{arith}
use native.Mathlib.Numerals.{add-one}
use lib.ListN.{length, get_or, take, set, length-map}
use lib.Seq.{sets, take-suc, take_all, length-take-le}
use Rattle.songcode.specs.Lists.{any}
use Rattle.songcode.proofs.ListLaws.{none_passes}
use Rattle.songcode.proofs.MemoryLaws.{sets_next}

-- Each word passes a test that none of the table fails.
pub none_there : (p : ℕ → Bool) (table : List ℕ) (i : ℕ) → any p table ≡ false → i < length table → p (get_or table i 0) ≡ false
unfolding any
none_there p [] i f h = absurd (omega arith)
none_there p (w ∷ ws) zero f h = (none_passes (p w) (any p ws) f).0
none_there p (w ∷ ws) (suc i) f h = none_there p ws i (none_passes (p w) (any p ws) f).1 (omega arith)

-- The first i words of a table, each mapped, stored at the front of a second table.
abbrev pub filled : (ℕ → ℕ) → List ℕ → List ℕ → ℕ → List ℕ
filled f table second i = sets second 0 (map f (take i table))

pub filled_more : (f : ℕ → ℕ) (table second now : List ℕ) (i v : ℕ) → i < length table → now ≡ filled f table second i → v ≡ f (get_or table i 0)
    → set now i v ≡ filled f table second (i + 1)
filled_more f table second now i v h e k =
    let done = map f (take i table) in
    let one : map f (take (i + 1) table) ≡ done ++ (v ∷ []) =
    rw (add-one i, k) (ap (map f) (take-suc table i 0 h) ∙ map-append f (take i table) (get_or table i 0 ∷ [])) in
    let size : length done ≡ i = length-map (take i table) f ∙ length-take-le i table (omega arith) in
    rw one (sets_next 0 i v now second done e (omega arith)).0

pub filled_all : (f : ℕ → ℕ) (table second : List ℕ) (i : ℕ) → length table ≤ i → filled f table second i ≡ sets second 0 (map f table)
filled_all f table second i l = rw (take_all i table l)
