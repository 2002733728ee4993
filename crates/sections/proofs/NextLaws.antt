-- From block to block: the lines of a text up to a block, the block, and the blocks behind it.
use Prim.Native.Nat.{ℕ, ◌+◌, ◌<◌, ◌≤◌}
use mathlib.Core.Path.{◌≡◌, refl, sym, ap, ◌∙◌, subst}
use mathlib.Core.List.{List, [], ◌∷◌, ◌++◌}
use mathlib.Core.Bool.{false}
use native.Mathlib.Omega.{arith}
use lib.ListN.{length, drop}
use Rattle.songcode.specs.Lists.{provided◌then◌else◌, is_empty, taken, left}
use Rattle.songcode.specs.Answer.Lines.{Line, shut, join, runs, blocks}
use Rattle.songcode.specs.Answer.Answer.{blocks_of}
use Rattle.songcode.specs.Answer.SongText.{kind_of_text, block_kind}
use Rattle.songcode.specs.Bytes.{placed}
use Rattle.songcode.specs.Description.WrittenText.{Stops}
use Rattle.songcode.proofs.ListLaws.{taken_left, left_stops, by_cases}
use Rattle.text.specs.Spans.{part, front_blanks, spans, line_at, line_text, past_blank}
use Rattle.text.proofs.ListLaws.{rest_part}
use Rattle.text.proofs.LineLaws.{blocks_spans}
use Rattle.text.proofs.StartLaws.{front_byte, past_same, past_other}
use Rattle.settings.specs.declared.kinds.BlockKind.{BlockKind}
use Rattle.settings.specs.Kinds.{block_kind_is}
use Rattle.settings.proofs.KindLaws.{block_kind_by, block_kind_by_lem}
use Rattle.sections.specs.declared.runs.Test.TheVariants.{Full}
use Rattle.sections.specs.Runs.{text_lines, passing, passes, blank_line}
use Rattle.sections.specs.BlockParts.{block_at, lines_past, NextAt}
use Rattle.sections.proofs.RunLaws.{lines_next, lines_over, Walked, Stopped, walked_more, walked_stop}

-- The first run of lines that are not blank, and the blocks behind it.
runs_front : (ls : List Line) → (runs ls).front ≡ taken (passing Full) ls
unfolding runs join taken passing passes provided◌then◌else◌
runs_front [] = refl
runs_front (l ∷ ls) = by_cases (is_empty l.text) (λ e. rw e) (λ e. rw (e, runs_front ls))

runs_rest : (ls : List Line) → (runs ls).rest ≡ blocks (left (passing Full) ls)
unfolding runs join blocks shut left passing passes provided◌then◌else◌
runs_rest [] = refl
runs_rest (l ∷ ls) = by_cases (is_empty l.text) (λ e. rw e (rw e)) (λ e. rw e (runs_rest ls))

-- Blank lines in front are in no block.
blocks_skip : (ls : List Line) → blocks (left blank_line ls) ≡ blocks ls
unfolding runs join blocks shut left blank_line provided◌then◌else◌
blocks_skip [] = refl
blocks_skip (l ∷ ls) = by_cases (is_empty l.text) (λ e. rw e (blocks_skip ls)) (λ e. rw e (rw e))

blocks_first : (l : Line) (ls : List Line) → is_empty l.text ≡ false
    → blocks (l ∷ ls) ≡ record { first = l; others = taken (passing Full) ls } ∷ blocks (left (passing Full) ls)
unfolding runs join blocks shut
blocks_first l ls e = rw (e, runs_front ls, runs_rest ls) refl

-- The blocks of a text are those of its lines from the first on.
pub blocks_start : (s : List ℕ) → blocks_of s ≡ blocks (text_lines s 1 0)
unfolding text_lines spans
blocks_start s = blocks_spans s

pub blocks_over : (s : List ℕ) (n at : ℕ) → length s ≤ at → blocks (text_lines s n at) ≡ []
unfolding blocks runs shut
blocks_over s n at h = rw (lines_over s n at h)

-- So many blank lines stand from a line on, and no more.
module _ (s : List ℕ) (n at k i : ℕ) (w : Walked s blank_line n at k i) (e : Stopped s blank_line (n + k) i) where
  behind : left blank_line (text_lines s n at) ≡ text_lines s (n + k) i
  behind = w.behind ∙ e.behind

  there : i < length s → blocks (text_lines s n at) ≡ block_at s (n + k) i ∷ blocks (lines_past s (n + k) i)
  unfolding block_at lines_past Stops blank_line
  there h =
      let l = line_text s (line_at s (n + k) i) in
      let lines = behind ∙ lines_next s (n + k) i h in
      sym (blocks_skip (text_lines s n at)) ∙ ap blocks lines ∙ blocks_first l (text_lines s (n + k + 1) (line_at s (n + k) i).next)
      (subst (Stops blank_line) lines (left_stops blank_line (text_lines s n at)))

  same : blocks (text_lines s n at) ≡ blocks (text_lines s (n + k) i)
  same = sym (blocks_skip (text_lines s n at)) ∙ ap blocks behind

  pub next_is : 1 ≤ n → n ≤ at + 1 → at ≤ i → i ≤ length s → at + k ≤ i → NextAt s n at (record { number = n + k; at = i })
  next_is one fits onward inside counted =
      record {
        number = omega arith;
        counted = omega arith;
        onward = onward;
        inside = inside;
        lines = sym (taken_left blank_line (text_lines s n at)) ∙ ap (λ ls. taken blank_line (text_lines s n at) ++ ls) behind;
        same = same;
        over = λ h. same ∙ blocks_over s (n + k) i h;
        there = there;
      }

-- A line is passed as blank where another place stands behind it.
module _ (s : List ℕ) (n at k i : ℕ) {r : ℕ} (found : r ≡ past_blank s i) (h : i < length s) (w : Walked s blank_line n at k i) where
  pub blank_more : (r ≡ i → ⊥) → Walked s blank_line n at (k + 1) r
  unfolding blank_line
  blank_more e =
      let p = past_other s i (n + k) (λ z. e (found ∙ z)) in
      rw (found, ← p.1) (walked_more s blank_line n at k i refl h w p.0)

  pub blank_stop : r ≡ i → Stopped s blank_line (n + k) i
  unfolding blank_line
  blank_stop e = walked_stop s blank_line n at k i refl h w (past_same s i (n + k) h (sym found ∙ e))

-- The kind of a block is seen at its first byte that is no blank.
pub kind_is_lem : (s : List ℕ) (n at a : ℕ) {k : BlockKind} → a ≡ at + front_blanks (drop at s)
    → k ≡ block_kind_is (kind_of_text (placed 0 (part a (length s) s))) → k ≡ block_kind_is (block_kind (block_at s n at))
unfolding block_kind block_at block_kind_by provided◌then◌else◌
kind_is_lem s n at a e h =
    let l = line_at s n at in
    let t = part l.start l.stop s in
    let here = ap (λ (w : List ℕ). kind_of_text (placed 0 w)) (rest_part s a) ∙ block_kind_by_lem 0 (drop a s) in
    let same = front_byte block_kind_by refl refl s n at a e in
    h ∙ ap block_kind_is (here ∙ same ∙ sym (block_kind_by_lem l.start t))
