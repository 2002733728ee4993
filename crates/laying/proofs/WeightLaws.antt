-- How many bytes some lines have, each with one for its line end, and that their tokens are no more.
use Prim.Native.Nat.{ℕ, zero, suc, ◌+◌, ◌-◌, ◌<◌, ◌≤◌}
use mathlib.Core.Path.{◌≡◌, sym, ap, ◌∙◌}
use mathlib.Core.List.{List, [], ◌∷◌, ◌++◌}
use mathlib.Core.Bool.{Bool}
use mathlib.Core.Option.{Option, none, some}
use native.Mathlib.Omega.{arith}
use borrow.Author.Tests.{ltb-true, ltb-false}
use lib.Dec.{ltb}
use lib.ListN.{length, take, drop, length-append, length-take, length-drop}
use Rattle.songcode.specs.Lists.{provided◌then◌else◌, taken, left}
use Rattle.songcode.specs.Bytes.{Byte, placed, is_blank, not_blank}
use Rattle.songcode.specs.Answer.Lines.{Line}
use Rattle.songcode.specs.Answer.Keys.{setting_in}
use Rattle.songcode.specs.Answer.Sections.{behind_first, setting_of}
use Rattle.songcode.specs.Answer.Tokens.{tokens, tokens_of}
use Rattle.songcode.proofs.ByteLaws.{length_placed}
use Rattle.songcode.proofs.ListLaws.{by_cases, taken_left}
use Rattle.text.specs.Spans.{part, line_length, front_blanks, solid_length, line_of, line_at, line_text}
use Rattle.text.proofs.TrimLaws.{solid_le}
use Rattle.text.proofs.WalkLaws.{whole, next_is, next_further}
use Rattle.tokens.specs.TokenWords.{token_words}
use Rattle.tokens.proofs.LineFitLaws.{line_fits, front_le}
use Rattle.tokens.proofs.FewLaws.{tokens_few, words_length}
use Rattle.sections.specs.declared.runs.Test.TheVariants.{Full}
use Rattle.sections.specs.Runs.{text_lines, passing}
use Rattle.sections.specs.BlockParts.{block_at}
use Rattle.sections.specs.Slots.{Setting}
use Rattle.sections.proofs.RunLaws.{lines_next, lines_over}
use Rattle.laying.specs.Laying.{run_tokens, said_tokens, weight, said_weight}

-- Lines one behind another, and some of them.
pub weight_append : (xs ys : List Line) → weight (xs ++ ys) ≡ weight xs + weight ys
unfolding weight
weight_append [] ys = omega arith
weight_append (x ∷ xs) ys = let h = weight_append xs ys in omega arith

pub weight_parts : (p : Line → Bool) (ls : List Line) → weight (taken p ls) + weight (left p ls) ≡ weight ls
weight_parts p ls = sym (weight_append (taken p ls) (left p ls)) ∙ ap weight (taken_left p ls)

pub weight_taken : (p : Line → Bool) (ls : List Line) → weight (taken p ls) ≤ weight ls
weight_taken p ls = let h = weight_parts p ls in omega arith

-- The line at a place: its bytes, and the next line.
pub record LineThere (s : List ℕ) (n at : ℕ) : Type 0 where
  pub further : at < (line_at s n at).next
  pub inside : (line_at s n at).next ≤ length s
  pub text : at + length (line_text s (line_at s n at)).text ≤ (line_at s n at).next
  pub ended : (line_at s n at).next < length s → at + length (line_text s (line_at s n at)).text < (line_at s n at).next

pub line_there : (s : List ℕ) (n at : ℕ) → at < length s → LineThere s n at
unfolding line_of
line_there s n at h =
    let bs = drop at s in
    let len = line_length bs in
    let f = front_blanks (take len bs) in
    let u = take (len - f) (drop f bs) in
    let k = solid_length u in
    let a = at + f in
    let fit = line_fits bs in
    let fit_line = fit.line in
    let fit-both = fit.both in
    let size = length-drop at s in
    let short = solid_le u in
    let cut = length-take (len - f) (drop f bs) in
    let front = front_le (take len bs) in
    let frontmost = length-take len bs in
    let next = next_is s n at in
    let bytes : length (placed a (part a (a + k) s)) ≤ k =
    let e = length_placed a (part a (a + k) s) in
    let t = length-take (a + k - a) (drop a s) in omega arith in
    let small : f + k ≤ len = omega arith in
    record {
      further = next_further s n at h;
      inside = omega arith;
      text = omega arith;
      ended = λ z. by_cases (ltb (line_length bs) (whole bs))
          (λ e. let w = ltb-true (line_length bs) (whole bs) e in omega arith)
          (λ e. let w = fit.last (ltb-false (line_length bs) (whole bs) e) in omega arith);
    }

-- The lines from a place on have at most the bytes that are left; the last may have no line end.
weight_from : (fuel : ℕ) (s : List ℕ) (n at : ℕ) → length s ≤ at + fuel → at ≤ length s → weight (text_lines s n at) ≤ (length s - at) + 1
unfolding weight
weight_from zero s n at f h = rw (lines_over s n at (omega arith)) (omega arith)
weight_from (suc fuel) s n at f h =
    by_cases (ltb at (length s))
    (λ e. let k = ltb-true at (length s) e in
    let l = line_there s n at k in
    let m = (line_at s n at).next in
    let a = l.further in
    let b = l.inside in
    let c = l.text in
    rw (lines_next s n at k)
    (by_cases (ltb m (length s))
    (λ g. let d = l.ended (ltb-true m (length s) g) in
    let r = weight_from fuel s (n + 1) m (omega arith) b in omega arith)
    (λ g. rw (lines_over s (n + 1) m (ltb-false m (length s) g)) (omega arith))))
    (λ e. rw (lines_over s n at (ltb-false at (length s) e)) (omega arith))

pub weight_lines : (s : List ℕ) (n at : ℕ) → at ≤ length s → weight (text_lines s n at) ≤ (length s - at) + 1
weight_lines s n at h = weight_from (length s) s n at (omega arith) h

-- The same behind a first line of two bytes.
pub weight_behind : (s : List ℕ) (n at : ℕ) → at < length s → 2 ≤ length (block_at s n at).first.text
    → at + 2 + weight (block_at s n at).others ≤ length s + 1
unfolding block_at
weight_behind s n at h k =
    let l = line_there s n at h in
    let m = (line_at s n at).next in
    let a = l.text in
    let b = l.inside in
    let t = weight_taken (passing Full) (text_lines s (n + 1) m) in
    let w = weight_lines s (n + 1) m b in
    omega arith

-- A setting is no longer than its line; two settings stand on two lines.
left_length : (p : Byte → Bool) (bs : List Byte) → length (left p bs) ≤ length bs
unfolding left provided◌then◌else◌
left_length p [] = omega arith
left_length p (b ∷ bs) = let h = left_length p bs in by_cases (p b) (λ e. rw e (omega arith)) (λ e. rw e (omega arith))

pub setting_length : (l : Line) → length (setting_of l) ≤ length l.text
unfolding setting_of setting_in behind_first
setting_length l =
    let bs = behind_first l.text in
    let a = left_length is_blank (left not_blank bs) in
    let b = left_length not_blank bs in
    let c = behind l.text in
    omega arith
  where
    behind : (bs : List Byte) → length (behind_first bs) ≤ length bs
    behind [] = omega arith
    behind (b ∷ bs) = omega arith

-- The tokens of lines are no more than their bytes.
lines_few : (l : Line) (ls : List Line) → length (tokens_of l ls) < weight (l ∷ ls)
unfolding tokens_of weight
lines_few l [] = let h = tokens_few l.text in omega arith
lines_few l (m ∷ ms) =
    let h = tokens_few l.text in
    let k = lines_few m ms in
    rw length-append (omega arith)

-- The words of a run and of a setting.
pub run_few : (l : Line) (ls : List Line) → length (token_words (run_tokens (l ∷ ls))) < weight (l ∷ ls)
unfolding run_tokens
run_few l ls = rw (words_length (tokens_of l ls)) (lines_few l ls)

pub run_words : (ls : List Line) → length (token_words (run_tokens ls)) ≤ weight ls
unfolding run_tokens token_words
run_words [] = omega arith
run_words (l ∷ ls) = let h = run_few l ls in omega arith

pub said_words : (o : Option Setting) → length (token_words (said_tokens o)) ≤ said_weight o
unfolding said_tokens said_weight token_words
said_words none = omega arith
said_words (some x) = rw (words_length (tokens x.text)) (tokens_few x.text)
