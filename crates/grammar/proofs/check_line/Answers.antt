-- Token by token: the check so far with the text that is left ends as the check of the whole line does.
use mathlib.Core.Path.{sym, ap, ◌∙◌}
use native.Mathlib.Omega.{arith}
use Rattle.songcode.specs.Bytes.{placed}
use Rattle.text.specs.Spans.{part}
use Rattle.grammar.specs.declared.checks.Check.{Check}
use Rattle.grammar.specs.Checks.{check_text}
use Rattle.grammar.proofs.LineLaws.{line_token, line_over}
use Rattle.grammar.proofs.check_line.Goals as goal

pub returns : goal.returns
returns c =
    let l = c.loop-token in
    sym (line_over l.check c.args.s.now l.at c.args.to l.invariant.0 c.requires.1 c.requires.2 c.next_token.ensures
    c.in_default.is) ∙ l.invariant.1

pub loop-token-smaller : goal.loop-token-smaller
loop-token-smaller c =
    let l = c.loop-token in
    let t = line_token l.check c.args.s.now l.at c.args.to l.invariant.0 c.requires.1 c.requires.2
    c.next_token.ensures c.in-Some.is in
    let a = t.0 in
    let b = t.1 in omega arith

pub loop-token-preserved : goal.loop-token-preserved
loop-token-preserved c =
    let l = c.loop-token in
    let t = line_token l.check c.args.s.now l.at c.args.to l.invariant.0 c.requires.1 c.requires.2
    c.next_token.ensures c.in-Some.is in
    let n = c.in-Some.token.next in
    (t.1, ap (λ (d : Check). check_text d (placed n (part n c.args.to c.args.s.now))) c.step_check-check.ensures ∙ (sym t.2 ∙ l.invariant.1))
