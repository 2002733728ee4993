-- One more than the place of the last blank, or the beginning.
use Prim.Native.Nat.{◌+◌}
use mathlib.Core.Path.{◌≡◌, ap}
use borrow.Author.Tests.{tests}
use lib.ListN.{length}
use Rattle.std.proofs.Common.{rules}
use Rattle.std.specs.Option.{MatchOption}
use Rattle.text.specs.Spans.{blank, part}
use Rattle.text.proofs.SolidLaws.{YieldsList-back, position_from_back}
use Rattle.settings.proofs.LyricLaws.{word_found}
use Rattle.settings.proofs.lyrics.word_start.Goals as goal

pub returns : goal.returns
returns c =
    let q = c.args in
    let bytes = part q.a q.e q.s.now in
    let found = position_from_back blank _ _ _ c.rposition.result c.rposition.ensures.ran (YieldsList-back bytes cc) (λ x b q k. search (rules, tests)) in
    let place : MatchOption c.rposition.result (c.map_or.result ≡ q.a) (λ i. c.map_or.result ≡ q.a + i + 1) = search rules in
    word_found q.s.now q.a q.e c.requires.0 c.requires.1 c.rposition.result (ap length c.iter.ensures.rest) found place
