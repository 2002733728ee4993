-- The lines of a text's blocks are lines of the text, and stand in the order of their numbers.
use Prim.Native.Nat.{ℕ, zero, suc, ◌+◌, ◌<◌, ◌≤◌}
use mathlib.Core.Path.{◌≡◌, refl, sym, ap, ◌∙◌, subst}
use mathlib.Core.Logic.{◌⊎◌, inl, inr, ⊎_elim}
use mathlib.Core.List.{List, [], ◌∷◌, Memᴰ}
use native.Mathlib.Omega.{arith}
use borrow.Author.Tests.{ltb-true, ltb-false}
use lib.Dec.{ltb}
use lib.ListN.{length, take}
use mathlib.Core.Bool.{Bool}
use Rattle.songcode.specs.Lists.{provided◌then◌else◌, taken}
use Rattle.songcode.specs.Answer.Lines.{Line, Block, blocks}
use Rattle.songcode.specs.Description.WrittenText.{WrittenBlocks, no_block, a_blank, a_block}
use Rattle.songcode.proofs.ListLaws.{by_cases}
use Rattle.songcode.proofs.BlocksAgree.{blocks_sound}
use Rattle.text.specs.declared.lines.Line as text
use Rattle.text.specs.Spans.{line_of, line_at, line_text, Found, spans}
use Rattle.sections.specs.declared.blocks.Place.{Place}
use Rattle.sections.specs.declared.runs.Run.{Run}
use Rattle.sections.specs.declared.runs.Test.TheVariants.{Full}
use Rattle.sections.specs.Runs.{text_lines, passing, lines_of, lines_behind, Longest}
use Rattle.sections.specs.BlockParts.{block_at, lines_past, NextAt}
use Rattle.sections.proofs.RunLaws.{lines_next, lines_over}
use Rattle.sections.proofs.NextLaws.{blocks_start, blocks_over}
use Rattle.sections.proofs.BlockLaws.{others_are, past_are}
use Rattle.slips.specs.BlocksMet.{OpensAt, Holds, Behind}
use Rattle.slips.specs.Finds.{LineOf, InBlock}
use Rattle.sections.proofs.LineLaws.{From, in_map}

-- A block's lines are lines of the file.
pub in_blocks : {ls : List Line} {bs : List Block} → WrittenBlocks ls bs → (b : Block) → Memᴰ b bs
    → (m : Line) → Memᴰ m (b.first ∷ b.others) → Memᴰ m ls
in_blocks no_block b i m j = absurd (mathlib.Core.List.Memᴰ.not-nil i)
in_blocks (a_blank e w) b i m j = mathlib.Core.List.Memᴰ.tail (in_blocks w b i m j)
in_blocks (a_block {l} {w} {ls} {zs} e n s z rest) b i m j =
    ⊎_elim
    (λ k.
    let here : Memᴰ m (l ∷ w) = subst (λ (x : Block). Memᴰ m (x.first ∷ x.others)) k j in
    ⊎_elim
    (λ f. mathlib.Core.List.Memᴰ.head f)
    (λ t. mathlib.Core.List.Memᴰ.tail (subst (λ (xs : List Line). Memᴰ m xs) (sym z) (mathlib.Core.List.Memᴰ.append_left ls t)))
    (mathlib.Core.List.Memᴰ.cases_cons here))
    (λ k. mathlib.Core.List.Memᴰ.tail (subst (λ (xs : List Line). Memᴰ m xs) (sym z) (mathlib.Core.List.Memᴰ.append_right w (in_blocks rest b k m j))))
    (mathlib.Core.List.Memᴰ.cases_cons i)

take_all : {A : Type 0} (xs : List A) → take (length xs) xs ≡ xs
take_all [] = refl
take_all (x ∷ xs) = ap (λ ys. x ∷ ys) (take_all xs)

of_taken : {A : Type 0} (p : A → Bool) (xs : List A) {y : A} → Memᴰ y (taken p xs) → Memᴰ y xs
unfolding taken provided◌then◌else◌
of_taken p [] i = i
of_taken p (x ∷ xs) {y} i =
    by_cases (p x)
    (λ e.
    ⊎_elim (λ z. mathlib.Core.List.Memᴰ.head z) (λ t. mathlib.Core.List.Memᴰ.tail (of_taken p xs t))
    (mathlib.Core.List.Memᴰ.cases_cons (subst (λ b. Memᴰ y (provided b then x ∷ taken p xs else [])) e i)))
    (λ e. absurd (mathlib.Core.List.Memᴰ.not-nil (subst (λ b. Memᴰ y (provided b then x ∷ taken p xs else [])) e i)))

module _ (s : List ℕ) where
  -- Of so many lines from a line on, each has a number from its own up to so many behind.
  pub numbered : (k n at : ℕ) (m : Line) → Memᴰ m (take k (text_lines s n at)) → (n ≤ m.number) × (m.number < n + k)
  unfolding line_of
  numbered zero n at m i = absurd (mathlib.Core.List.Memᴰ.not-nil i)
  numbered (suc k) n at m i =
      by_cases (ltb at (length s))
      (λ e.
      let h = ltb-true at (length s) e in
      ⊎_elim
      (λ z. let y : m.number ≡ n = ap (λ (x : Line). x.number) z in (omega arith, omega arith))
      (λ t. let r = numbered k (n + 1) (line_at s n at).next m t in
      let a = r.0 in
      let b = r.1 in (omega arith, omega arith))
      (mathlib.Core.List.Memᴰ.cases_cons (subst (λ (ls : List Line). Memᴰ m (take (suc k) ls)) (lines_next s n at h) i)))
      (λ e.
      absurd (mathlib.Core.List.Memᴰ.not-nil (subst (λ (ls : List Line). Memᴰ m (take (suc k) ls)) (lines_over s n at (ltb-false at (length s) e)) i)))

  pub from_line : (n at : ℕ) (m : Line) → Memᴰ m (text_lines s n at) → n ≤ m.number
  from_line n at m i =
      (numbered (length (text_lines s n at)) n at m (subst (λ (xs : List Line). Memᴰ m xs) (sym (take_all (text_lines s n at))) i)).0

  -- The lines of a block behind its first have higher numbers.
  pub others_later : (n at : ℕ) (m : Line) → Memᴰ m (block_at s n at).others → n < m.number
  unfolding block_at
  others_later n at m i =
      let h = from_line (n + 1) (line_at s n at).next m (of_taken (passing Full) (text_lines s (n + 1) (line_at s n at).next) i) in omega arith

  -- So do the lines of the blocks from a line on.
  pub block_from : (n at : ℕ) (b : Block) → Memᴰ b (blocks (text_lines s n at)) → (k : ℕ) → Holds b k → n ≤ k
  block_from n at b i k h =
      subst (λ (j : ℕ). n ≤ j) h.2 (from_line n at h.0 (in_blocks (blocks_sound (text_lines s n at)) b i h.0 h.1))

  module _ (n at : ℕ) (within : at < length s) (one : 1 ≤ n) (fits : n ≤ at + 1) {h : text.Line} (f : Found s n at h) where
    -- The next block stands behind the block at a place.
    pub behind_block : (rest : Run) (r : Place) → Longest s Full (n + 1) h.next rest → NextAt s (rest.number + rest.lines) rest.next r
        → Behind s (record { number = n; at = at }) r
    unfolding lines_behind block_at lines_of line_of
    behind_block rest r l t = record { same = past; opens = opens; before = before }
      where
        past : blocks (lines_past s n at) ≡ blocks (text_lines s r.number r.at)
        past = ap blocks (past_are s n at one fits within f ∙ sym l.behind) ∙ t.same

        opens : OpensAt s r
        opens q = sym t.same ∙ t.there q

        own : (k : ℕ) → Holds (block_at s n at) k → k < rest.number + rest.lines
        own k y =
            let e = l.number in
            let g = y.2 in
            ⊎_elim
            (λ z. let i : y.0.number ≡ n = ap (λ (x : Line). x.number) z in omega arith)
            (λ z.
            let i = subst (λ (ls : List Line). Memᴰ y.0 ls) (others_are s n at one fits within f ∙ sym l.lines) z in
            let j = (numbered rest.lines rest.number rest.at y.0 i).1 in
            omega arith)
            (mathlib.Core.List.Memᴰ.cases_cons y.1)

        before : r.at < length s → (k : ℕ) → Holds (block_at s n at) k → k < r.number
        before q k y =
            let a = own k y in
            let first = block_at s r.number r.at in
            let i = subst (λ (bs : List Block). Memᴰ first bs) (sym (t.there q)) (mathlib.Core.List.Memᴰ.head refl) in
            let b = block_from (rest.number + rest.lines) rest.next first i r.number (first.first, mathlib.Core.List.Memᴰ.head refl, refl) in
            omega arith

  -- A block from a place on that holds a line is the one there, or it stands from the next place on.
  module _ (p q : Place) (opens : OpensAt s p) (within : p.at < length s) (behind : Behind s p q) (b : Block)
      (there : Memᴰ b (blocks (text_lines s p.number p.at))) (n : ℕ) (h : Holds b n) where
    here_or_later : (b ≡ block_at s p.number p.at) ⊎ Memᴰ b (blocks (text_lines s q.number q.at))
    here_or_later =
        ⊎_elim
        (λ e. inl e)
        (λ i. inr (subst (λ (bs : List Block). Memᴰ b bs) behind.same i))
        (mathlib.Core.List.Memᴰ.cases_cons (subst (λ (bs : List Block). Memᴰ b bs) (opens within) there))

    pub last_block : length s ≤ q.at → b ≡ block_at s p.number p.at
    last_block e =
        ⊎_elim
        (λ z. z)
        (λ i. absurd (mathlib.Core.List.Memᴰ.not-nil (subst (λ (bs : List Block). Memᴰ b bs) (blocks_over s q.number q.at e) i)))
        here_or_later

    pub block_before : n < q.number → b ≡ block_at s p.number p.at
    block_before l =
        ⊎_elim
        (λ z. z)
        (λ i. let k = block_from q.number q.at b i n h in
        let z : ⊥ = omega arith in absurd z)
        here_or_later

    pub block_later : q.at < length s → q.number ≤ n → Memᴰ b (blocks (text_lines s q.number q.at))
    block_later e l =
        ⊎_elim
        (λ z. let k = behind.before e n (subst (λ (x : Block). Holds x n) z h) in
        let y : ⊥ = omega arith in absurd y)
        (λ i. i)
        here_or_later

  -- A line of a block, by its number.
  pub line_in_block : (n : ℕ) (b : Block) (m : Line) → InBlock s n b m → (l : text.Line) × LineOf s n l × (m ≡ line_text s l)
  unfolding text_lines spans
  line_in_block n b m i =
      let w = in_blocks (blocks_sound (text_lines s 1 0)) b (subst (λ (bs : List Block). Memᴰ b bs) (blocks_start s) i.listed) m
      (mathlib.Core.List.Memᴰ.tail i.held) in
      let r = in_map (line_text s) (From s 1 0) w in
      (r.0, record { listed = r.1; number = sym (ap (λ (l : Line). l.number) r.2) ∙ i.number }, r.2)
