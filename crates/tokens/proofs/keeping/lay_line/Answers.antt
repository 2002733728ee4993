-- A mark that stands at the line's place tells how many words stand behind it, and that they are the line's.
use Rattle.tokens.proofs.KeptLaws.{mark_number, mark_words}
use Rattle.tokens.specs.TokenWords.{token_words}
use Rattle.tokens.specs.Lexing.{tokens_from}
use lib.ListN.{length, take, drop}
use lib.Seq.{sets}
use borrow.Author.Tests.{ltb-false}
use native.Mathlib.Omega.{arith}
use mathlib.Core.Path.{◌≡◌, ap, ◌∙◌}
use mathlib.Core.List.{List}
use Prim.Native.Nat.{ℕ, ◌+◌}
use Rattle.tokens.proofs.keeping.lay_line.Goals as goal

pub move_words-requires : goal.move_words-requires
move_words-requires c =
    let i = c.args in
    let room = c.requires.kept.1.room in
    let before = ltb-false (i.start + 8) i.n c.if-start-n.false-raw in
    let m = mark_number i.s.now i.words.now i.start i.stop i.n c.requires.kept (omega arith) (omega arith) before (omega arith) in
    (omega arith, omega arith)

pub returns : goal.returns
returns c =
    let i = c.args in
    let before = ltb-false (i.start + 8) i.n c.if-start-n.false-raw in
    let m = mark_number i.s.now i.words.now i.start i.stop i.n c.requires.kept (omega arith) (omega arith) before (omega arith) in
    let w = mark_words i.s.now i.words.now i.start i.stop i.n c.requires.kept (omega arith) (omega arith) before (omega arith) in
    let new = token_words (tokens_from i.start i.stop i.s.now) in
    let count : c.number-count.result ≡ length new = omega arith in
    let moved : take c.number-count.result (drop (i.start + 8 + 1) i.words.now) ≡ new =
    ap (λ (k : ℕ). take k (drop (i.start + 8 + 1) i.words.now)) count ∙ w in record {
      held = c.move_words.ensures ∙ ap (λ (ws : List ℕ). sets i.words.now i.n ws) moved;
      fill = (omega arith, omega arith);
    }
