-- A line by the blanks in front of it: they are told without its end, and so is whether it is blank.
use Prim.Native.Nat.{ℕ, zero, suc, ◌+◌, ◌-◌, ◌<◌}
use mathlib.Core.Path.{◌≡◌, refl, sym, ap, ◌∙◌}
use mathlib.Core.List.{List, [], ◌∷◌}
use mathlib.Core.Bool.{Bool, true, false}
use native.Mathlib.Omega.{arith}
use borrow.Author.Tests.{eqb-true, eqb-false}
use lib.Dec.{eqb}
use lib.ListN.{length, get_or, take, drop}
use lib.Seq.{drop-drop}
use Rattle.songcode.specs.Lists.{provided◌then◌else◌, is_empty}
use Rattle.songcode.specs.Bytes.{placed, is_blank}
use Rattle.songcode.proofs.ListLaws.{by_cases}
use Rattle.text.specs.declared.lines.Line.{Line}
use Rattle.text.specs.Spans.{blank, part, longer, line_length, break_length, front_blanks, grown, solid_length, line_of, line_at, line_text, past_blank}
use Rattle.text.proofs.TestLaws.{false_not_true}
use Rattle.text.proofs.SpanLaws.{end_inside, blank_inside, by_ending}
use Rattle.text.proofs.WalkLaws.{line_is, next_further}

-- The blanks in front of a text stand in its first line.
front_line : (bs : List ℕ) → front_blanks (take (line_length bs) bs) ≡ front_blanks bs
unfolding front_blanks line_length longer provided◌then◌else◌
front_line [] = refl
front_line (b ∷ bs) =
    by_cases
    (blank b)
    (λ e. rw (blank_inside b e, e) (ap suc (front_line bs)))
    (λ e. by_ending b (λ k. rw (k, e)) (λ k. rw (k, e)) (λ k. rw (k, e)))

-- The line goes on behind them, with no blank.
line_behind_lem : (bs : List ℕ) → line_length bs ≡ front_blanks bs + line_length (drop (front_blanks bs) bs)
unfolding front_blanks line_length longer provided◌then◌else◌
line_behind_lem [] = refl
line_behind_lem (b ∷ bs) = by_cases (blank b) (λ e. rw (blank_inside b e, e) (omega (arith, line_behind_lem bs))) (λ e. rw e (omega arith))

front_behind : (bs : List ℕ) → front_blanks (drop (front_blanks bs) bs) ≡ 0
unfolding front_blanks provided◌then◌else◌
front_behind [] = refl
front_behind (b ∷ bs) = by_cases (blank b) (λ e. rw e (front_behind bs)) (λ e. rw e (rw e))

grown_full : (n : ℕ) → 0 < grown false n
unfolding grown
grown_full zero = omega arith
grown_full (suc n) = omega arith

solid_some : (bs : List ℕ) → front_blanks bs ≡ 0 → 0 < line_length bs → 0 < solid_length (take (line_length bs) bs)
unfolding front_blanks line_length longer solid_length provided◌then◌else◌
solid_some [] f h = absurd (omega arith)
solid_some (b ∷ bs) f h =
    by_ending
    b
    (λ e. by_cases
    (blank b)
    (λ t. let z : suc (front_blanks bs) ≡ 0 = rw t at f in absurd (omega arith))
    (λ t. rw (e, t) (grown_full (solid_length (take (line_length bs) bs)))))
    (λ e. let z : 0 < 0 = rw e at h in absurd (omega arith))
    (λ e. let z : 0 < 0 = rw e at h in absurd (omega arith))

module _ (s : List ℕ) (n at : ℕ) where
  abbrev first : ℕ
  first = at + front_blanks (drop at s)

  pub start_is : (line_at s n at).start ≡ at + front_blanks (drop at s)
  unfolding line_of
  start_is = ap (λ (k : ℕ). at + k) (front_line (drop at s))

  -- A line end stands behind its blanks, or the end of the text.
  module _ (h : line_length (drop (at + front_blanks (drop at s)) s) ≡ 0) where
    blank_line_lem : record { number = n; start = first; stop = first + 0; next = first + break_length (drop first s) } ≡ line_at s n at
    unfolding solid_length
    blank_line_lem =
        let f = front_blanks (drop at s) in
        let d = drop-drop f at s in
        let g : line_length (drop f (drop at s)) ≡ 0 = rw d h in
        let len : line_length (drop at s) ≡ f = omega (arith, line_behind_lem (drop at s)) in
        let i : at + f - at ≡ line_length (drop at s) = omega arith in
        let j : at + f - (at + f) ≡ 0 = omega arith in
        line_is s n at first f 0 (break_length (drop first s)) (ap (λ (k : ℕ). at + k) (sym len)) (rw i (sym (front_line (drop at s)))) (rw j refl) refl

    pub blank_stop : (line_at s n at).start ≡ (line_at s n at).stop
    blank_stop = let e = blank_line_lem in
        let a = ap (λ (l : Line). l.start) e in
        let b = ap (λ (l : Line). l.stop) e in
        omega arith

    pub blank_next : (line_at s n at).next ≡ first + break_length (drop first s)
    blank_next = sym (ap (λ (l : Line). l.next) blank_line_lem)

  stop_is : (line_at s n at).stop ≡ first + solid_length (take (line_length (drop first s)) (drop first s))
  unfolding line_of
  stop_is =
      let bs = drop at s in
      let f = front_blanks bs in
      let k : line_length bs - f ≡ line_length (drop f bs) = omega (arith, line_behind_lem bs) in
      rw (front_line bs, k, drop-drop f at s) refl

  pub full_stop : 0 < line_length (drop (at + front_blanks (drop at s)) s) → (line_at s n at).start < (line_at s n at).stop
  unfolding line_of
  full_stop h =
      let bs = drop at s in
      let f = front_blanks bs in
      let g : 0 < line_length (drop f bs) = rw (drop-drop f at s) h in
      let k : line_length bs - f ≡ line_length (drop f bs) = omega (arith, line_behind_lem bs) in
      let z : 0 < solid_length (take (line_length bs - f) (drop f bs)) = rw k (solid_some (drop f bs) (front_behind bs) g) in
      rw (front_line bs) (omega arith)

front_of : (k : ℕ) (bs : List ℕ) → 0 < k → get_or (take k bs) 0 0 ≡ get_or bs 0 0
front_of zero bs h = absurd (omega arith)
front_of (suc k) [] h = refl
front_of (suc k) (b ∷ bs) h = refl

-- A test of bytes that takes line ends for the end of the text sees the line's first byte that is no blank without its end.
module _ {A : Type 0} (f : ℕ → A) (lf : f 10 ≡ f 0) (cr : f 13 ≡ f 0) where
  front_end : (bs : List ℕ) → line_length bs ≡ 0 → f (get_or bs 0 0) ≡ f 0
  unfolding line_length longer
  front_end [] h = refl
  front_end (b ∷ bs) h =
      by_cases
      (eqb b 10)
      (λ t. ap f (eqb-true b 10 t) ∙ lf)
      (λ t. by_cases
      (eqb b 13)
      (λ u. ap f (eqb-true b 13 u) ∙ cr)
      (λ u. let z : suc (line_length bs) ≡ 0 = rw (end_inside b (eqb-false b 10 t) (eqb-false b 13 u)) at h in absurd (omega arith)))

  pub front_byte : (s : List ℕ) (n at a : ℕ) → a ≡ at + front_blanks (drop at s)
      → f (get_or (drop a s) 0 0) ≡ f (get_or (part (line_at s n at).start (line_at s n at).stop s) 0 0)
  front_byte s n at a e =
      let l = line_at s n at in
      let b : l.start ≡ a = start_is s n at ∙ sym e in
      by_cases
      (eqb (line_length (drop a s)) 0)
      (λ t. let h = eqb-true (line_length (drop a s)) 0 t in
      let k : l.stop - l.start ≡ 0 = omega (arith, blank_stop s n at (rw (← e) h)) in
      front_end (drop a s) h ∙ rw k refl)
      (λ t. let h = eqb-false (line_length (drop a s)) 0 t in
      let g : 0 < line_length (drop a s) = omega arith in
      let k = full_stop s n at (rw (← e) g) in
      ap f (sym (front_of (l.stop - l.start) (drop l.start s) (omega arith) ∙ rw b refl)))

-- One that takes blanks for it too sees the byte behind that one.
module _ {A : Type 0} (f : ℕ → A) (lf : f 10 ≡ f 0) (cr : f 13 ≡ f 0) (space : f 32 ≡ f 0) (tab : f 9 ≡ f 0) where
  blank_same : (b : ℕ) → blank b ≡ true → f b ≡ f 0
  unfolding is_blank
  blank_same b e =
      by_cases
      (eqb b 32)
      (λ t. ap f (eqb-true b 32 t) ∙ space)
      (λ t. by_cases (eqb b 9) (λ u. ap f (eqb-true b 9 u) ∙ tab) (λ u. let z : false ≡ true = rw (t, u) at e in absurd (false_not_true z)))

  hollow : (bs : List ℕ) → solid_length (take (line_length bs) bs) ≡ 0 → f (get_or bs 0 0) ≡ f 0
  unfolding line_length longer solid_length
  hollow [] h = refl
  hollow (b ∷ bs) h =
      by_cases
      (blank b)
      (λ t. blank_same b t)
      (λ t. front_end f lf cr (b ∷ bs) (by_ending
      b
      (λ e. let z : grown false (solid_length (take (line_length bs) bs)) ≡ 0 = rw (e, t) at h in absurd
      (omega (arith, grown_full (solid_length (take (line_length bs) bs)))))
      (λ e. rw e)
      (λ e. rw e)))

  behind_front : (b : ℕ) (bs : List ℕ) (t : Bool) (n : ℕ) → solid_length (take (line_length bs) bs) ≡ n → 0 < grown t n
      → f (get_or (take (grown t n) (b ∷ bs)) 1 0) ≡ f (get_or (b ∷ bs) 1 0)
  unfolding grown
  behind_front b bs t (suc n) e h = ap f (front_of (suc n) bs (omega arith))
  behind_front b bs true zero e h = absurd (omega arith)
  behind_front b bs false zero e h = sym (hollow bs e)

  second : (bs : List ℕ) → 0 < solid_length (take (line_length bs) bs)
      → f (get_or (take (solid_length (take (line_length bs) bs)) bs) 1 0) ≡ f (get_or bs 1 0)
  unfolding line_length longer solid_length
  second [] h = refl
  second (b ∷ bs) h =
      by_ending
      b
      (λ e. let g : 0 < grown (blank b) (solid_length (take (line_length bs) bs)) = rw e at h in
      rw e (behind_front b bs (blank b) (solid_length (take (line_length bs) bs)) refl g))
      (λ e. let z : 0 < 0 = rw e at h in absurd (omega arith))
      (λ e. let z : 0 < 0 = rw e at h in absurd (omega arith))

  pub second_byte : (s : List ℕ) (n at a : ℕ) → a ≡ at + front_blanks (drop at s) → (line_at s n at).start < (line_at s n at).stop
      → f (get_or (drop a s) 1 0) ≡ f (get_or (part (line_at s n at).start (line_at s n at).stop s) 1 0)
  second_byte s n at a e h =
      let l = line_at s n at in
      let b : l.start ≡ a = start_is s n at ∙ sym e in
      let stop : l.stop ≡ a + solid_length (take (line_length (drop a s)) (drop a s)) = rw e (stop_is s n at) in
      let k : l.stop - l.start ≡ solid_length (take (line_length (drop a s)) (drop a s)) = omega arith in
      sym (rw (k, b) (second (drop a s) (omega arith)))

-- The place behind a blank line, and the place of any other, by where the line's first byte was found that is no blank.
some_part : (at k : ℕ) (bs : List ℕ) → 0 < k → 0 < line_length bs → is_empty (placed at (take k bs)) ≡ false
unfolding line_length is_empty placed
some_part at zero bs p h = absurd (omega arith)
some_part at (suc k) [] p h = absurd (omega arith)
some_part at (suc k) (b ∷ bs) p h = refl

module _ (s : List ℕ) (at : ℕ) where
  module _ (a : ℕ) (e : a ≡ at + front_blanks (drop at s)) where
    pub past_blank_lem : {w : ℕ} → line_length (drop a s) ≡ 0 → w ≡ break_length (drop a s) → a + w ≡ past_blank s at
    unfolding past_blank is_empty placed provided◌then◌else◌
    past_blank_lem h p =
        let l = line_at s 0 at in
        let g : line_length (drop (at + front_blanks (drop at s)) s) ≡ 0 = rw (← e) h in
        let k : l.stop - l.start ≡ 0 = omega (arith, blank_stop s 0 at g) in
        rw (k, p, e) (sym (blank_next s 0 at g))

    pub past_full : 0 < line_length (drop a s) → at ≡ past_blank s at
    unfolding past_blank provided◌then◌else◌
    past_full h =
        let l = line_at s 0 at in
        let b : l.start ≡ a = start_is s 0 at ∙ sym e in
        let g : 0 < line_length (drop l.start s) = rw b h in
        let z = full_stop s 0 at (rw (← e) h) in
        rw (some_part l.start (l.stop - l.start) (drop l.start s) (omega arith) g) refl

  -- What that place says of the line.
  pub past_same : (n : ℕ) → at < length s → past_blank s at ≡ at → is_empty (line_text s (line_at s n at)).text ≡ false
  unfolding past_blank line_of provided◌then◌else◌
  past_same n h e =
      by_cases
      (is_empty (line_text s (line_at s n at)).text)
      (λ t. let z : (line_at s n at).next ≡ at = rw t at e in absurd (omega (arith, next_further s n at h)))
      (λ t. t)

  pub past_other : (n : ℕ) → (past_blank s at ≡ at → ⊥)
      → (is_empty (line_text s (line_at s n at)).text ≡ true) × ((line_at s n at).next ≡ past_blank s at)
  unfolding past_blank line_of provided◌then◌else◌
  past_other n e =
      by_cases
      (is_empty (line_text s (line_at s n at)).text)
      (λ t. (t, rw t refl))
      (λ t. absurd (e (rw t refl)))
