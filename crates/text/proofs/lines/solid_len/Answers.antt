-- One more than the place of the last byte that is no blank.
use Prim.Native.Nat.{◌+◌}
use mathlib.Core.Path.{◌≡◌, ap}
use borrow.Author.Tests.{tests}
use lib.ListN.{length}
use Rattle.std.proofs.Common.{rules}
use Rattle.std.specs.Option.{MatchOption}
use Rattle.text.proofs.FirstLaws.{full}
use Rattle.text.proofs.SolidLaws.{YieldsList-back, position_from_back, solid_found}
use Rattle.text.proofs.lines.solid_len.Goals as goal

pub returns : goal.returns
returns c =
    let t = c.args.t.now in
    let found = position_from_back full _ _ _ c.rposition.result c.rposition.ensures.ran (YieldsList-back t cc) (λ x b q k. search (rules, tests)) in
    let x : MatchOption c.rposition.result (c.map_or.result ≡ 0) (λ i. c.map_or.result ≡ i + 1) = search rules in
    solid_found t c.rposition.result (ap length c.iter.ensures.rest) found x
