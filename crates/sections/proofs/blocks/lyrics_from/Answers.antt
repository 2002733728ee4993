-- Without a line there are no lyrics; else they are the run of full lines without its first, where the `--` stands.
use Rattle.sections.proofs.BlockLaws.{lyrics_none, lyrics_some}
use native.Mathlib.Omega.{arith}
use Rattle.sections.proofs.blocks.lyrics_from.Goals as goal

pub returns-then-rest-eq0 : goal.returns-then-rest-eq0
returns-then-rest-eq0 c = let a = c.args in
    lyrics_none a.s.now a.number a.at c.run_of-rest.result c.run_of-rest.ensures (omega arith) (omega arith)
    c.if-rest-eq0.true

pub returns : goal.returns
returns c = let a = c.args in
    let rest = c.run_of-rest in
    lyrics_some a.s.now a.number a.at rest.result rest.ensures (omega arith) (omega arith) c.line_at-dashes.ensures
    c.if-rest-eq0.false
