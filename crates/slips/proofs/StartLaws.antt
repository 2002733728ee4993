-- A line of a text stands where its number says: no line ends in its text, and the line of its first byte is its own.
use Prim.Native.Nat.{ℕ, zero, suc, ◌+◌, ◌-◌, ◌<◌, ◌≤◌}
use mathlib.Core.Path.{◌≡◌, refl, sym, ap, ◌∙◌, subst}
use mathlib.Core.List.{List, [], ◌∷◌, Memᴰ}
use mathlib.Core.Bool.{true}
use native.Mathlib.Omega.{arith}
use native.Mathlib.Numerals.{add-one}
use native.Mathlib.Nat.{suc-add, add-zero}
use lib.ListN.{length, get_or, take, drop, length-take, length-drop}
use lib.Seq.{drop-drop, get_or-drop}
use Rattle.songcode.specs.Lists.{provided◌then◌else◌}
use Rattle.songcode.specs.Bytes.{placed}
use Rattle.songcode.specs.Answer.Lines.{cr, inside, ending_of, put, cut_lines}
use Rattle.songcode.specs.Answer.Answer.{line_of_place}
use Rattle.songcode.proofs.ListLaws.{by_cases, true_is_not_false}
use Rattle.text.specs.declared.lines.Line.{Line}
use Rattle.text.specs.Spans.{blank, end, longer, line_length, break_width, break_length, front_blanks, line_of, line_at, spans}
use Rattle.text.proofs.SpanLaws.{by_ending}
use Rattle.text.proofs.WalkLaws.{whole, next_is}
use Rattle.text.proofs.CutLaws.{ended, unended}
use Rattle.text.proofs.TrimLaws.{solid_le}
use Rattle.slips.specs.Places.{Unended, Whole}
use Rattle.slips.proofs.PlaceLaws.{same_line}
use Rattle.slips.proofs.FindLaws.{no_lf, no_cr}
use Rattle.sections.proofs.LineLaws.{each_line}

-- As many blanks as there are bytes, at most.
front_among : (n : ℕ) (bs : List ℕ) → front_blanks (take n bs) ≤ n
unfolding front_blanks provided◌then◌else◌
front_among zero bs = omega arith
front_among (suc n) [] = omega arith
front_among (suc n) (b ∷ bs) = let h = front_among n bs in by_cases (blank b) (λ t. rw t (omega arith)) (λ t. rw t (omega arith))

line_le : (bs : List ℕ) → line_length bs ≤ length bs
unfolding line_length longer
line_le [] = omega arith
line_le (b ∷ bs) = let h = line_le bs in by_ending b (λ e. rw e (omega arith)) (λ e. rw e (omega arith)) (λ e. rw e (omega arith))

inside_line : (bs : List ℕ) (k : ℕ) → k < line_length bs → end (get_or bs k 0) ≡ inside
unfolding line_length longer
inside_line [] k h = let z : ⊥ = omega arith in absurd z
inside_line (b ∷ bs) zero h =
    by_ending b
    (λ e. e)
    (λ e. let g : 0 < 0 = rw e at h in
    let z : ⊥ = omega arith in absurd z)
    (λ e. let g : 0 < 0 = rw e at h in
    let z : ⊥ = omega arith in absurd z)
inside_line (b ∷ bs) (suc k) h =
    by_ending b
    (λ e. let g : suc k < suc (line_length bs) = rw e at h in inside_line bs k (omega arith))
    (λ e. let g : suc k < 0 = rw e at h in
    let z : ⊥ = omega arith in absurd z)
    (λ e. let g : suc k < 0 = rw e at h in
    let z : ⊥ = omega arith in absurd z)

abbrev ends : ℕ → List ℕ → ℕ
ends at bs = length (cut_lines (placed at bs)).others

none_ends : (at q : ℕ) (bs : List ℕ) → q ≤ line_length bs → ends at (take q bs) ≡ 0
unfolding cut_lines placed put line_length longer
none_ends at zero bs h = refl
none_ends at (suc q) [] h = let z : ⊥ = omega arith in absurd z
none_ends at (suc q) (b ∷ bs) h =
    by_ending b
    (λ e. let g : suc q ≤ suc (line_length bs) = rw e at h in rw e (none_ends (suc at) q bs (omega arith)))
    (λ e. let g : suc q ≤ 0 = rw e at h in
    let z : ⊥ = omega arith in absurd z)
    (λ e. let g : suc q ≤ 0 = rw e at h in
    let z : ⊥ = omega arith in absurd z)

-- The line ends before a place behind the first line: its own, and those of the rest.
abbrev Splits : ℕ → ℕ → List ℕ → Type 0
Splits at q bs = ends at (take (whole bs + q) bs) ≡ suc (ends (at + whole bs) (take q (drop (whole bs) bs)))

take_nil : (q : ℕ) → ◌≡◌ {A = List ℕ} (take q []) []
take_nil zero = refl
take_nil (suc q) = refl

splits_cr : (at q b : ℕ) (bs : List ℕ) → end b ≡ cr → Splits at q (b ∷ bs)
unfolding cut_lines ending_of placed put line_length longer break_length break_width
splits_cr at q b [] e =
    let one : 1 + q ≡ suc q = omega arith in
    rw (e, e, one, take_nil q, e)
splits_cr at zero b (c ∷ bs) e =
    by_ending c (λ f. rw (e, e, f, e)) (λ f. rw (e, e, f, e, f)) (λ f. rw (e, e, f, e))
splits_cr at (suc q) b (c ∷ bs) e =
    let one : 1 + suc q ≡ suc (suc q) = omega arith in
    let two : 2 + suc q ≡ suc (suc (suc q)) = omega arith in
    let next : at + 2 ≡ suc (suc at) = omega arith in
    by_ending c (λ f. rw (e, e, f, one, e, f, add-one at)) (λ f. rw (e, e, f, two, e, f, next)) (λ f. rw (e, e, f, one, e, f, add-one at))

splits : (at q : ℕ) (bs : List ℕ) → ended bs ≡ true → Splits at q bs
unfolding cut_lines ending_of placed put line_length longer break_length break_width
splits at q [] h = true_is_not_false h refl
splits at q (b ∷ bs) h =
    let k : at + suc (whole bs) ≡ suc at + whole bs = omega arith in
    let one : 1 + q ≡ suc q = omega arith in
    by_ending b
    (λ e. let g : ended bs ≡ true = rw e at h in rw (e, suc-add, suc-add, k, e) (splits (suc at) q bs g))
    (λ e. rw (e, e, one, add-one at, e))
    (λ e. splits_cr at q b bs e)

module _ (s : List ℕ) where
  -- The line at a place has its text before its end.
  text_ends : (n at : ℕ) → (line_at s n at).stop ≤ at + line_length (drop at s)
  unfolding line_of
  text_ends n at =
      let bs = drop at s in
      let len = line_length bs in
      let f = front_blanks (take len bs) in
      let a = front_among len bs in
      let d = solid_le (take (len - f) (drop f bs)) in
      let g = length-take (len - f) (drop f bs) in
      omega arith

  text_starts : (n at : ℕ) → (at ≤ (line_at s n at).start) × ((line_at s n at).start - at ≤ line_length (drop at s))
  unfolding line_of
  text_starts n at =
      let bs = drop at s in
      let a = front_among (line_length bs) bs in
      (omega arith, omega arith)

  -- No line ends in the text of a line, which lies in the file.
  pub whole_line : (n at : ℕ) → at < length s → Whole s (line_at s n at)
  whole_line n at h =
      let a = text_ends n at in
      let b = (text_starts n at).0 in
      let d = line_le (drop at s) in
      let g = length-drop at s in (
        omega arith,
        λ k p q.
            let j : at + (k - at) ≡ k = omega arith in
            let e : get_or (drop at s) (k - at) 0 ≡ get_or s k 0 = get_or-drop at s (k - at) 0 ∙ ap (λ (i : ℕ). get_or s i 0) j in
            subst (λ (x : ℕ). end x ≡ inside) e (inside_line (drop at s) (k - at) (omega arith)),
      )

  pub line_whole : (l : Line) → Memᴰ l (spans s) → Whole s l
  unfolding spans
  line_whole l m = each_line s (λ n at. Unit {0}) (Whole s) (λ n at h i. (whole_line n at h, tt)) (length s) 1 0 (omega arith) tt l m

  -- Where a line begins, as many lines end before a place behind it as its number says, and those between.
  abbrev Begins : ℕ → ℕ → Type 0
  Begins n at = at < length s → (q : ℕ) → suc (ends 0 (take (at + q) s)) ≡ n + ends at (take q (drop at s))

  begins_next : (n at : ℕ) → at < length s → Begins n at → Begins (n + 1) (line_at s n at).next
  begins_next n at h i k q =
      let bs = drop at s in
      let w = whole bs in
      let next = next_is s n at in
      let there : drop w bs ≡ drop (at + w) s = drop-drop w at s in
      let far : at + w < length s = omega arith in
      let e : ended bs ≡ true =
      by_cases (ended bs)
      (λ t. t)
      (λ t. let z = ap length (sym there ∙ unended bs t) in
      let y = length-drop (at + w) s in
      let x : ⊥ = omega arith in absurd x) in
      let go : at + w + q ≡ at + (w + q) = omega arith in
      let one : n + suc (ends (at + w) (take q (drop w bs))) ≡ n + 1 + ends (at + w) (take q (drop w bs)) = omega arith in
      rw next
      (ap (λ (j : ℕ). suc (ends 0 (take j s))) go
      ∙ i h (w + q)
      ∙ ap (λ (j : ℕ). n + j) (splits at q bs e)
      ∙ one
      ∙ ap (λ (xs : List ℕ). n + 1 + ends (at + w) (take q xs)) there)

  pub line_begins : (l : Line) → Memᴰ l (spans s) → line_of_place l.start s ≡ l.number
  unfolding spans line_of_place line_of
  line_begins l m =
      each_line s Begins (λ x. line_of_place x.start s ≡ x.number)
      (λ n at h i. (first n at h i, begins_next n at h i))
      (length s) 1 0 (omega arith) (λ h q. let z : 0 + q ≡ q = omega arith in rw z (omega arith)) l m
    where
      first : (n at : ℕ) → at < length s → Begins n at → line_of_place (line_at s n at).start s ≡ n
      first n at h i =
          let x = (line_at s n at).start in
          let t = text_starts n at in
          let a = t.0 in
          let j : at + (x - at) ≡ x = omega arith in
          let e = subst (λ (y : ℕ). suc (ends 0 (take y s)) ≡ n + ends at (take (x - at) (drop at s))) j (i h (x - at)) in
          e ∙ rw (none_ends at (x - at) (drop at s) t.1) (add-zero n)

  -- So do all places of its text.
  along : (a d : ℕ) → a + d ≤ length s → Unended s a (a + d) → line_of_place (a + d) s ≡ line_of_place a s
  along a zero h u = rw (add-zero a) refl
  along a (suc d) h u =
      let e : a + suc d ≡ a + d + 1 = omega arith in
      let i = u (a + d) (omega arith) (omega arith) in
      let b = get_or s (a + d) 0 in
      rw e (same_line s (a + d) (omega arith) (no_lf b i) (no_cr b i) ∙ along a d (omega arith) (λ k p q. u k p (omega arith)))

  pub line_holds : (l : Line) → Memᴰ l (spans s) → (p : ℕ) → l.start ≤ p → p ≤ l.stop → line_of_place p s ≡ l.number
  line_holds l m p a b =
      let w = line_whole l m in
      let h = w.0 in
      let e : l.start + (p - l.start) ≡ p = omega arith in
      subst (λ (q : ℕ). line_of_place q s ≡ line_of_place l.start s) e
      (along l.start (p - l.start) (omega arith) (λ k x y. w.1 k x (omega arith)))
      ∙ line_begins l m
