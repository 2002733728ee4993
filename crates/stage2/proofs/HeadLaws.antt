-- The heads that the code keeps agree with the numbers of the definitions so far.
use Prim.Native.Nat.{ℕ, suc, ◌+◌, ◌<◌, ◌≤◌, min}
use mathlib.Core.Path.{◌≡◌, refl, sym, ap, ◌∙◌}
use mathlib.Core.List.{List, [], ◌∷◌}
use mathlib.Core.Bool.{Bool, true, false, ◌||◌, ◌&&◌, not}
use mathlib.Core.Option.{Option, none, some}
use native.Mathlib.Omega.{arith}
use native.Mathlib.Numerals.{add-one}
use borrow.Author.Tests.{ne_eqb, le-leb, leb-true, leb-false}
use lib.Dec.{eqb, leb}
use lib.ListN.{length, set, take, length-set, replicate}
use lib.Seq.{take-suc, take-set-le, get_or-set_same}
use Rattle.songcode.specs.Lists.{provided◌then◌else◌, any, prepend, is_some, when}
use Rattle.songcode.specs.Answer.Lines.{Line}
use Rattle.songcode.specs.Answer.Numbers.{is_decimal, value_from, number_in, count_in}
use Rattle.songcode.specs.Complaints.{complain_if}
use Rattle.songcode.specs.Answer.Sections.{twice_by, behind_first}
use Rattle.songcode.specs.Answer.SongText.{head_in}
use Rattle.songcode.proofs.ListLaws.{any_append, both_pass, by_cases}
use Rattle.tokens.specs.Decimals.{number_of}
use Rattle.refusals.specs.Ranks.{least}
use Rattle.std.specs.Prelude as std
use Rattle.stage2.specs.Heads.{has_head, head_again, head_judged, with_head}
use Rattle.stage2.proofs.MarkLaws.{said}

-- A count is at least 1.
unfoldable pub Counts : Option ℕ → Type 0
Counts none = Unit {0}
Counts (some x) = 1 ≤ x

in_range : (b : Bool) (x : ℕ) → (b ≡ true → 1 ≤ x) → Counts (provided b then some x else none)
unfolding provided◌then◌else◌ Counts
in_range true x h = h refl
in_range false x h = tt

pub head_counts : (l : Line) → Counts (head_in l)
unfolding head_in count_in number_in
head_counts l =
    let bs = behind_first l.text in
    let v = value_from 0 bs in
    in_range (is_decimal bs && leb 1 v && leb v 9999) v (λ e. leb-true 1 v
    (both_pass (is_decimal bs) (leb 1 v) (both_pass (is_decimal bs && leb 1 v) (leb v 9999) e).0).1)

abbrev pub HeadsAgree : ℕ → List ℕ → ℕ → List ℕ → Type 0
HeadsAgree m ids n seen = (m ≡ min n 26) × (length ids ≡ 26) × (n < 26 → (x : ℕ) → 1 ≤ x → said x (take m ids) ≡ said x seen)

pub no_heads_agree : HeadsAgree 0 (replicate 26 0) 0 []
unfolding any
no_heads_agree = (refl, refl, λ h x p. refl)

-- Where the count is complained of, no further complaint of that number on that line counts.
same_line : (t : Bool) (line : ℕ) → min (least (complain_if true 6 line)) (least (complain_if t 6 line)) ≡ least (complain_if true 6 line)
unfolding least complain_if when
same_line true line = omega arith
same_line false line = omega arith

module _ (m : ℕ) (ids : List ℕ) (n : ℕ) (seen : List ℕ) (a : HeadsAgree m ids n seen) where
  beyond : 26 ≤ n → (o : Option ℕ) (l : Line) → head_judged (number_of o) m ids l.number ≡ min
      (least (complain_if (not (is_some o) || leb 26 n) 6 l.number)) (least (twice_by 6 o seen l))
  unfolding head_judged head_again twice_by least number_of is_some
  beyond g none l = refl
  beyond g (some x) l =
      let c : leb 26 m ≡ true = le-leb 26 m (omega arith) in
      rw (c, le-leb 26 n g) (same_line (has_head m ids x) l.number ∙ sym (same_line (said x seen) l.number))

  within : n < 26 → (o : Option ℕ) (l : Line) → Counts o → head_judged (number_of o) m ids l.number ≡ min
      (least (complain_if (not (is_some o) || leb 26 n) 6 l.number)) (least (twice_by 6 o seen l))
  unfolding head_judged head_again has_head twice_by least Counts number_of is_some
  within g none l c = refl
  within g (some x) l c = let e : m ≡ n = omega arith in rw (a.2 g x c, e) refl

  pub head_agrees : (o : Option ℕ) (l : Line) → Counts o → head_judged (number_of o) m ids l.number ≡ min
      (least (complain_if (not (is_some o) || leb 26 n) 6 l.number)) (least (twice_by 6 o seen l))
  head_agrees o l c =
      by_cases (leb 26 n) (λ e. beyond (leb-true 26 n e) o l) (λ e. within (leb-false 26 n e) o l c)

  -- One more head.
  one_more_lem : (x v : ℕ) → n < 26 → said x (take (m + 1) (set ids m v)) ≡ (said x (take m ids) || (eqb v x || false))
  unfolding any
  one_more_lem x v g =
      let long : m < length ids = omega arith in
      let long2 : m < length (set ids m v) = omega (arith, length-set ids m v) in
      rw (add-one m, take-suc (set ids m v) m 0 long2, take-set-le m ids m v (omega arith), get_or-set_same ids m v 0 long)
      (any_append (λ y. eqb y x) (take m ids) (v ∷ []))

  said_more : (o : Option ℕ) (x : ℕ) → Counts o → 1 ≤ x → (said x seen || (eqb (std.unwrap_or (number_of o) 0) x || false)) ≡ said x (prepend o seen)
  unfolding any prepend number_of Counts
  said_more none x c p = rw (ne_eqb 0 x (λ z. omega arith)) (or_false (said x seen))
    where
      or_false : (b : Bool) → (b || false) ≡ b
      or_false true = refl
      or_false false = refl
  said_more (some y) x c p = or_swap (said x seen) (eqb y x)
    where
      or_swap : (a b : Bool) → (a || (b || false)) ≡ (b || a)
      or_swap true true = refl
      or_swap true false = refl
      or_swap false true = refl
      or_swap false false = refl

  pub with_head_agrees : (o : Option ℕ) → Counts o → HeadsAgree (min m 25 + 1) (with_head (number_of o) m ids) (suc n) (prepend o seen)
  unfolding with_head provided◌then◌else◌
  with_head_agrees o c =
      by_cases
      (leb 26 m)
      (λ e. let g = leb-true 26 m e in rw e (omega arith, a.1, λ z. absurd (omega arith)))
      (λ e. let g = leb-false 26 m e in
      let k : min m 25 ≡ m = omega arith in
      rw (e, k) (
        omega arith,
        length-set ids m (std.unwrap_or (number_of o) 0) ∙ a.1,
        λ z x p. one_more_lem x (std.unwrap_or (number_of o) 0) (omega arith)
            ∙ (ap (λ (b : Bool). b || (eqb (std.unwrap_or (number_of o) 0) x || false)) (a.2 (omega arith) x p) ∙ said_more o x c p),
      ))
