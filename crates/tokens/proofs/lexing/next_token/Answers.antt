-- A token stands where a part begins, or behind the blanks there.
use Rattle.tokens.proofs.LexLaws.{blanks_passed, blanks_all, blanks_over, tokens_over, at_blank}
use Rattle.tokens.proofs.ReadLaws.{reads_behind}
use Rattle.tokens.specs.Lexing.{Reads}
use borrow.Author.Tests.{not-true, not-false}
use native.Mathlib.Omega.{arith}
use mathlib.Core.Path.{sym, ◌∙◌}
use Prim.Native.Nat.{◌+◌}
use borrow.Author.Rules.{rules}
use Rattle.tokens.proofs.lexing.next_token.Goals as goal

pub returns-then-stop-at : goal.returns-then-stop-at
unfolding Reads
returns-then-stop-at c =
    let i = c.args in tokens_over i.s.now i.at i.stop c.if-stop-at.true

pub token_at-requires : goal.token_at-requires
token_at-requires c = (search rules, search rules, search rules, sym c.is_blank.ensures ∙ not-true _ c.if-not-is_blank.true-raw)

pub returns-then-not-is_blank : goal.returns-then-not-is_blank
returns-then-not-is_blank c = c.token_at.ensures

pub returns-then-stop-a : goal.returns-then-stop-a
unfolding Reads
returns-then-stop-a c =
    let i = c.args in
    let s = i.s.now in
    at_blank s i.at i.stop (omega arith) (omega arith)
    (sym c.is_blank.ensures ∙ not-false _ c.if-not-is_blank.false-raw)
    ∙ blanks_all s (i.at + 1) i.stop c.front_blanks.result c.front_blanks.ensures.0 c.if-stop-a.true

pub token_at-requires-2 : goal.token_at-requires-2
token_at-requires-2 c =
    let i = c.args in (
      search rules,
      search rules,
      search rules,
      blanks_over i.s.now (i.at + 1) i.stop c.front_blanks.result c.front_blanks.ensures.0 (omega arith) (omega arith),
    )

pub returns : goal.returns
returns c =
    let i = c.args in
    let s = i.s.now in
    let f = c.front_blanks.result in
    let b = sym c.is_blank.ensures ∙ not-false _ c.if-not-is_blank.false-raw in
    reads_behind s i.at (i.at + 1 + f) i.stop (omega arith) (omega arith)
    (λ to g h. at_blank s i.at to (omega arith) (omega arith) b
    ∙ blanks_passed s (i.at + 1) i.stop f c.front_blanks.ensures.0 to g h) _ c.token_at-2.ensures
