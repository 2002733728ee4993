-- The words are read from the first state and summed up, as defined; no step takes the sizes, the count or the depth past its cap.
use Rattle.outlines.proofs.SmallLaws.{outlined_small}
use Rattle.outlines.specs.Words.{look_up}
use Rattle.outlines.specs.Readings.{started, closed, nested, words_read, outside, summed, outlined}
use Rattle.outlines.specs.declared.readings.Outline.{Outline}
use Rattle.outlines.specs.declared.readings.Reading.{Reading}
use Rattle.songcode.specs.Lists.{is_empty}
use Rattle.songcode.specs.Answer.PatternText.{loops_deep}
use lib.ListN.{length, take, drop, replicate}
use Rattle.std.proofs.Common.{◌==◌, arith}
use borrow.Author.Tests.{ne_eqb}
use Prim.Native.Nat.{ℕ}
use mathlib.Core.Bool.{Bool}
use mathlib.Core.List.{List, [], ◌∷◌}
use mathlib.Core.Path.{◌≡◌, refl, sym, ◌∙◌}
use Rattle.outlines.proofs.outlining.outline_of.Goals as goal

outlined_is : (find : ℕ → Outline) (ws : List ℕ) {e : Bool} {s first : Reading} {r : Outline} → first ≡ started
    → s ≡ (words_read find (nested first (replicate loops_deep 0)) ws).reading → e ≡ is_empty ws → r ≡ summed e (closed s) → r ≡ outlined find ws
unfolding outlined outside
outlined_is find ws b h e g = g ∙ rw (h, b, e) refl

none_left : (ws : List ℕ) → is_empty ws ≡ (length ws == 0)
unfolding is_empty
none_left [] = refl
none_left (w ∷ ws) = sym (ne_eqb (length (w ∷ ws)) 0 (λ z. omega arith))

pub returns : goal.returns
unfolding loops_deep
returns c =
    let a = c.args in
    let ws = drop a.text.from (take a.text.to a.words.now) in
    let none : c.is_empty.result ≡ is_empty ws = c.is_empty.ensures ∙ rw c.words.ensures (sym (none_left ws)) in
    let is = outlined_is (look_up a.words.now) ws c.start.ensures c.read_words-s.ensures none c.sum_up.ensures in
    let small = outlined_small (look_up a.words.now) ws in record {
      outline = is;
      small = (rw is small.0.1, rw is small.1, rw is small.2);
    }
