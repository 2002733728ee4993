-- What the code's answers say of songcode's readings.
use Prim.Native.Nat.{ℕ, zero, suc, ◌+◌, ◌≤◌}
use mathlib.Core.Path.{◌≡◌, refl, sym, ◌∙◌}
use mathlib.Core.List.{List, [], ◌∷◌}
use mathlib.Core.Bool.{Bool, true, false, and-true}
use mathlib.Core.Option.{Option, none, some, bind}
use native.Mathlib.Omega.{arith}
use borrow.Author.Tests.{eq-eqb, ne_eqb}
use lib.Dec.{eqb}
use lib.ListN.{get_or, take, drop}
use Rattle.songcode.specs.Lists.{provided◌then◌else◌, is_some}
use Rattle.songcode.specs.Bytes.{Byte, placed, ascii, same, is_byte}
use Rattle.songcode.specs.Song as song
use Rattle.songcode.specs.Answer.Keys.{time_in}
use Rattle.songcode.specs.Answer.Modifiers.{cut, cut_in}
use Rattle.songcode.specs.Answer.Numbers.{number_in, count_in}
use Rattle.songcode.specs.Answer.Lyrics.{count_behind}
use Rattle.songcode.proofs.ListLaws.{by_cases}
use Rattle.tokens.specs.Decimals.{number_of}
use Rattle.std.specs.Prelude as std
use Rattle.std.specs.Prelude.{Some, None, bytes_eq}
use Rattle.cuts.specs.declared.Cut.{Cut}
use Rattle.settings.specs.Parts.{length_before}
use Rattle.settings.specs.Cuts.{cut_is, cut_read, CutFits, cut_pair}
use Rattle.settings.specs.LyricParts.{count_from}
use Rattle.settings.proofs.PartLaws.{taken_placed, left_placed}
use Rattle.settings.proofs.PlaceLaws.{not_byte_values}
use Rattle.settings.proofs.NameLaws.{is_by}
use Rattle.settings.proofs.NumberLaws.{count_in_range, count_in_placeless}
use Rattle.settings.proofs.CutLaws.{cut_fits}

pub number_some : (o : Option ℕ) {r : std.Option ℕ} {n : ℕ} → r ≡ number_of o → r ≡ Some n → o ≡ some n
unfolding number_of
number_some none e h = let z : ◌≡◌ {A = ℕ} 0 1 = cc in absurd (omega arith)
number_some (some m) e h = cc

pub number_none : (o : Option ℕ) {r : std.Option ℕ} → r ≡ number_of o → r ≡ None → o ≡ none
unfolding number_of
number_none none e h = refl
number_none (some m) e h = let z : ◌≡◌ {A = ℕ} 0 1 = cc in absurd (omega arith)

pub number_there : (o : Option ℕ) {r : Bool} {m : std.Option ℕ} → r ≡ std.is_some m → m ≡ number_of o → r ≡ is_some o
unfolding number_of is_some
number_there none e h = e ∙ rw h
number_there (some n) e h = e ∙ rw h

-- A time by the place of its slash.
module _ (w : List ℕ) (q : ℕ) (e : q ≡ length_before 47 w) where
  pub time_none : {r : Bool} → r ≡ same (ascii "/4") (drop q w) → r ≡ false → time_in (placed 0 w) ≡ none
  unfolding time_in provided◌then◌else◌
  time_none f h = rw (left_placed _ _ (not_byte_values 47) 0 w, sym e, is_by "/4" (0 + q) (drop q w) f h)

  pub time_some : {r : Bool} → r ≡ same (ascii "/4") (drop q w) → r ≡ true → time_in (placed 0 w) ≡ number_in 1 32 (placed 0 (take q w))
  unfolding time_in provided◌then◌else◌
  time_some f h = rw (left_placed _ _ (not_byte_values 47) 0 w, taken_placed _ _ (not_byte_values 47) 0 w, sym e, is_by "/4" (0 + q) (drop q w) f h)

-- A cut that is read is there where one stands.
pub cut_there : (o : Option song.Cut) → std.is_some (cut_is o) ≡ is_some o
unfolding cut_is is_some
cut_there none = refl
cut_there (some c) = refl

-- A cut from two numbers that were read.
pair_read : (o p : Option ℕ) → cut_read (number_of o) (number_of p) ≡ cut_is (cut_pair o p)
unfolding cut_read number_of cut_is cut_pair bind cut
pair_read none p = refl
pair_read (some m) none = refl
pair_read (some m) (some b) = refl

pub cut_read_lem : (bs : List Byte) (o p : Option ℕ) {m b : std.Option ℕ} {r : std.Option Cut} → cut_in bs ≡ cut_pair o p → m ≡ number_of o → b ≡ number_of p
    → r ≡ cut_read m b → (r ≡ cut_is (cut_in bs)) × CutFits r
cut_read_lem bs o p {m} {b} {r} h x y e =
    let k : r ≡ cut_is (cut_in bs) = e ∙ rw (x, y, h) (pair_read o p) in
    (k, rw k (cut_fits bs))

-- The count behind `_`.
-- The text has a `_` in front.
pub underscored : (w : List ℕ) {r : Bool} → bytes_eq (take 1 w) (95 ∷ []) ≡ r → eqb (get_or w 0 0) 95 ≡ r
underscored [] e = e
underscored (b ∷ w) e = sym (and-true (eqb b 95)) ∙ e

pub count_behind_none : (w : List ℕ) → (get_or w 0 0 ≡ 95 → ⊥) → count_behind (placed 0 w) ≡ none
unfolding count_behind placed is_byte provided◌then◌else◌
count_behind_none [] h = refl
count_behind_none (b ∷ w) h = rw (ne_eqb b 95 h)

pub count_behind_some : (w : List ℕ) → get_or w 0 0 ≡ 95 → count_behind (placed 0 w) ≡ count_in (placed 0 (drop 1 w))
unfolding count_behind placed is_byte provided◌then◌else◌
count_behind_some [] h = let z : ⊥ = omega arith in absurd z
count_behind_some (b ∷ w) h = rw (eq-eqb b 95 h) (count_in_placeless 1 w)

pub count_behind_range : (bs : List Byte) {n : ℕ} → count_behind bs ≡ some n → (1 ≤ n) × (n ≤ 9999)
unfolding count_behind provided◌then◌else◌
count_behind_range [] e = let z : ◌≡◌ {A = ℕ} 0 1 = cc in absurd (omega arith)
count_behind_range (b ∷ bs) {n} e =
    by_cases
    (is_byte 95 b)
    (λ t. count_in_range bs (rw t at e))
    (λ t. let z : none ≡ some n = rw t at e in absurd (none_some z))
  where
    none_some : none ≡ some n → ⊥
    none_some e = let z : ◌≡◌ {A = ℕ} 0 1 = cc in omega arith

pub count_from_some : (n : ℕ) → 1 ≤ n → count_from n ≡ some n
unfolding count_from
count_from_some zero h = let z : ⊥ = omega arith in absurd z
count_from_some (suc n) h = refl
