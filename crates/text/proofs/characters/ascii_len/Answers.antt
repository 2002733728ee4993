-- The characters in the blocks passed, and those from here on, are those in front.
use Prim.Native.Nat.{◌-◌, ◌≤◌}
use mathlib.Core.Path.{◌≡◌, ap, ◌∙◌}
use native.Mathlib.Omega.{arith}
use borrow.Author.Tests.{tests}
use lib.ListN.{length, take, drop, length-drop}
use Rattle.std.proofs.Common.{rules}
use Rattle.std.proofs.lemmas.Iterator.{YieldsList-from_slice}
use Rattle.std.proofs.lemmas.Iterator.Search.{position_from_yields_List}
use Rattle.text.specs.Leads.{ascii_length}
use Rattle.text.proofs.ListLaws.{rest_part}
use Rattle.text.proofs.FirstLaws.{joined, ascii_found}
use Rattle.text.proofs.characters.ascii_len.Goals as goal
use Rattle.text.proofs.characters.ascii_len.Goals.{After-unwrap_or}

pub overflow_add-i : goal.overflow_add-i
overflow_add-i c = let b = c.ascii_block.ensures c.loop-i-test.true in omega arith

pub loop-i-smaller : goal.loop-i-smaller
loop-i-smaller c = let b = c.ascii_block.ensures c.loop-i-test.true in omega arith

pub loop-i-preserved : goal.loop-i-preserved
loop-i-preserved c = let b = c.ascii_block.ensures c.loop-i-test.true in (omega arith, omega arith)

found : (c : After-unwrap_or) → c.unwrap_or.result ≡ ascii_length (take (length c.args.t.now - c.loop-i.i) (drop c.loop-i.i c.args.t.now))
found c = c.unwrap_or.ensures ∙ ascii_found _ (position_from_yields_List joined _ _ _ c.position.ensures.ran (YieldsList-from_slice _ cc)
    (λ x b q k. search (rules, tests)))

pub returns : goal.returns
returns c =
    let t = c.args.t.now in
    let i = c.loop-i.i in
    let rest = rest_part t i in
    let here = found c ∙ ap ascii_length rest in
    let l : c.unwrap_or.result ≤ length (take (length t - i) (drop i t)) = search rules in
    omega (arith, here, l, length-drop i t, ap length rest)
