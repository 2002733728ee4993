-- The place, and how far the first line end stands behind it.
use Prim.Native.Nat.{◌-◌, ◌≤◌}
use mathlib.Core.Path.{◌≡◌, ap, ◌∙◌}
use native.Mathlib.Omega.{arith}
use borrow.Author.Tests.{tests}
use lib.ListN.{length, take, drop, length-drop}
use Rattle.std.proofs.Common.{rules}
use Rattle.std.proofs.lemmas.Iterator.{YieldsList-from_slice}
use Rattle.std.proofs.lemmas.Iterator.Search.{position_from_yields_List}
use Rattle.text.specs.Spans.{end, ends, line_length}
use Rattle.text.proofs.FirstLaws.{line_found}
use Rattle.text.proofs.ListLaws.{rest_min}
use Rattle.text.proofs.lines.line_end.Goals as goal
use Rattle.text.proofs.lines.line_end.Goals.{After-unwrap_or}

found : (c : After-unwrap_or) → c.unwrap_or.result ≡ line_length (take (length c.args.s.now - c.min.result) (drop c.min.result c.args.s.now))
found c = c.unwrap_or.ensures ∙ line_found _ (position_from_yields_List (λ b. ends (end b)) _ _ _ c.position.ensures.ran (YieldsList-from_slice _ cc)
    (λ x b q k. search (rules, tests)))

pub returns : goal.returns
returns c =
    let s = c.args.s.now in
    let at = c.args.at in
    let rest = rest_min s at c.min.ensures in
    let here = found c ∙ ap line_length rest in
    let l : c.unwrap_or.result ≤ length (take (length s - c.min.result) (drop c.min.result s)) = search rules in
    omega (arith, here, l, length-drop at s, ap length rest)
