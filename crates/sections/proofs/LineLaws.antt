-- The lines of a text: none has a number below the first, and of one that is met first no other has its number.
use Prim.Native.Nat.{ℕ, zero, suc, ◌+◌, ◌-◌, ◌<◌, ◌≤◌}
use mathlib.Core.Path.{◌≡◌, refl, sym, ap, ◌∙◌, subst}
use mathlib.Core.Logic.{⊎_elim}
use mathlib.Core.Bool.{Bool, true, false}
use mathlib.Core.List.Memᴰ
use mathlib.Core.List.{List, [], ◌∷◌, map, Memᴰ}
use native.Mathlib.Omega.{arith}
use borrow.Author.Tests.{ltb-true, ltb-false}
use lib.Dec.{ltb}
use lib.ListN.{length, drop}
use Rattle.songcode.specs.Lists.{when}
use Rattle.songcode.specs.Bytes.{placed}
use Rattle.songcode.specs.Answer.Lines as songcode
use Rattle.songcode.specs.Answer.Lines.{lines}
use Rattle.songcode.proofs.ListLaws.{by_cases}
use Rattle.songcode.proofs.MemberLaws.{either, only_one}
use Rattle.text.specs.declared.lines.Line.{Line}
use Rattle.text.specs.Spans.{line_of, line_at, line_text, ends_open, Found, spans_from, spans}
use Rattle.text.proofs.LineLaws.{lines_spans}
use Rattle.text.proofs.WalkLaws.{next_further, spans_next, spans_found, spans_over}
use Rattle.sections.specs.Numbered.{Unnumbered, Numbered}

module _ (s : List ℕ) where
  abbrev pub From : ℕ → ℕ → List Line
  From n at = spans_from n at 0 (drop at s)

  -- What holds at the first line, and goes on from each to the next, holds of every line.
  pub each_line : (I : ℕ → ℕ → Type 0) (P : Line → Type 0) → ((n at : ℕ) → at < length s → I n at → P (line_at s n at) × I (n + 1) (line_at s n at).next)
      → (fuel n at : ℕ) → length s ≤ at + fuel → I n at → (l : Line) → Memᴰ l (From n at) → P l
  each_line I P go zero n at f i l m =
      absurd (Memᴰ.not-nil (subst (λ ls. Memᴰ l ls) (spans_over s n at (omega arith)) m))
  each_line I P go (suc fuel) n at f i l m =
      by_cases (ltb at (length s))
      (λ e.
      let h = ltb-true at (length s) e in
      let both = go n at h i in
      let far = next_further s n at h in
      ⊎_elim
      (λ z. subst P (sym z) both.0)
      (λ t. each_line I P go fuel (n + 1) (line_at s n at).next (omega arith) both.1 l t)
      (Memᴰ.cases_cons (subst (λ ls. Memᴰ l ls) (spans_next s n at h) m)))
      (λ e. absurd (Memᴰ.not-nil (subst (λ ls. Memᴰ l ls) (spans_over s n at (ltb-false at (length s) e)) m)))

  numbers : (n at : ℕ) (l : Line) → Memᴰ l (From n at) → n ≤ l.number
  unfolding line_of
  numbers n at l m =
      each_line (λ k a. n ≤ k) (λ x. n ≤ x.number) (λ k a h i. (i, omega arith)) (length s) n at (omega arith) (omega arith) l m

  -- A walk that looks for the line of a number: it is the one at hand, it stands behind it, or there is none.
  module _ {n at : ℕ} {x : Line} (f : Found s n at x) (h : at < length s) (l : Line) (m : Memᴰ l (From n at)) where
    pub met : l.number ≡ n → x ≡ l
    met e =
        ⊎_elim (λ z. sym z)
        (λ t. let k = numbers (n + 1) x.next l t in
        let z : ⊥ = omega arith in absurd z)
        (Memᴰ.cases_cons (subst (λ ls. Memᴰ l ls) (spans_found f h) m))

    pub behind : (l.number ≡ n → ⊥) → Memᴰ l (From (n + 1) x.next)
    behind e =
        ⊎_elim (λ z. absurd (e (ap (λ (y : Line). y.number) z ∙ f.number)))
        (λ t. t)
        (Memᴰ.cases_cons (subst (λ ls. Memᴰ l ls) (spans_found f h) m))

  pub at_hand : {n at : ℕ} {x : Line} → Found s n at x → at < length s → Memᴰ x (From n at)
  at_hand {x = x} f h = subst (λ ls. Memᴰ x ls) (sym (spans_found f h)) (Memᴰ.head refl)

  pub none_left : (n at : ℕ) (l : Line) → length s ≤ at → Memᴰ l (From n at) → ⊥
  none_left n at l h m = Memᴰ.not-nil (subst (λ ls. Memᴰ l ls) (spans_over s n at h) m)

pub in_map : {A B : Type 0} (f : A → B) (xs : List A) {y : B} → Memᴰ y (map f xs) → (x : A) × Memᴰ x xs × (y ≡ f x)
in_map f [] m = absurd (Memᴰ.not-nil m)
in_map f (x ∷ xs) m =
    ⊎_elim (λ e. (x, Memᴰ.head refl, e)) (λ t. let r = in_map f xs t in (r.0, Memᴰ.tail r.1, r.2)) (Memᴰ.cases_cons m)

in_when : {A : Type 0} (b : Bool) {x y : A} → Memᴰ y (when b x) → y ≡ x
unfolding when
in_when true m = only_one m
in_when false m = absurd (Memᴰ.not-nil m)

-- Each of them has a number below that of the line behind the last.
below : (n at k : ℕ) (bs : List ℕ) (l : Line) → Memᴰ l (spans_from n at k bs) → l.number < n + length (spans_from n at k bs)
unfolding spans_from line_of
below n at k [] l m = absurd (Memᴰ.not-nil m)
below n at (suc k) (b ∷ bs) l m = below n (suc at) k bs l m
below n at zero (b ∷ bs) l m =
    ⊎_elim (λ (z : l ≡ line_of n at (b ∷ bs)). let e = ap (λ (x : Line). x.number) z in omega arith)
    (λ t. let h = below (suc n) (suc at) ((line_of n at (b ∷ bs)).next - suc at) bs l t in omega arith)
    (Memᴰ.cases_cons m)

module _ (s : List ℕ) (n : ℕ) (r : Line) (is : (l : Line) → Memᴰ l (spans s) → l.number ≡ n → r ≡ l)
    (none : Unnumbered s n → r ≡ record { number = suc (length (spans s)); start = length s; stop = length s; next = length s }) where
  -- Behind a last line end songcode has one more line, an empty one.
  says_last : n ≡ suc (length (spans s)) → line_text s r ≡ record { number = suc (length (spans s)); text = [] }
  unfolding spans placed
  says_last e =
      let e' = none (λ l m f. let h = below 1 0 0 s l m in
      let z : ⊥ = omega arith in z) in
      let k : length s - length s ≡ 0 = omega arith in
      rw e' (rw k refl)

  says_line : (m : songcode.Line) → Memᴰ m (lines (placed 0 s)) → m.number ≡ n → line_text s r ≡ m
  says_line m i e =
      either (map (line_text s) (spans s))
      (λ j. let x = in_map (line_text s) (spans s) j in
      ap (line_text s) (is x.0 x.1 (sym (ap (λ (q : songcode.Line). q.number) x.2) ∙ e)) ∙ sym x.2)
      (λ j. let x = in_when (ends_open true s) j in says_last (sym e ∙ ap (λ (q : songcode.Line). q.number) x) ∙ sym x)
      (subst (λ ls. Memᴰ m ls) (lines_spans s) i)

  pub numbered : 1 ≤ r.number → r.number ≤ r.start + 1 → r.start ≤ r.stop → r.stop ≤ length s → Numbered s n r
  numbered a b c d = record { is = is; none = none; says = says_line; number = a; counted = b; onward = c; inside = d }
