-- Dashes are known wherever they stand: with them the lyrics begin and the row stays, any other line is judged by its kind.
use Rattle.stage2.proofs.WalkReturns.{at_dashes, at_body}
use Rattle.tokens.specs.Kept.{Keeps}
use mathlib.Core.Logic.{inl}
use mathlib.Core.Path.{refl}
use Rattle.stage2.proofs.walk.in_body.Goals as goal

pub returns-then-is_dashes : goal.returns-then-is_dashes
unfolding Keeps
returns-then-is_dashes c = let q = c.args in record {
  value = at_dashes q.c q.p q.l.number q.s.now q.l.start q.l.stop c.is_dashes.result c.is_dashes.ensures
      c.rank.result c.in_lyrics.result c.if-is_dashes.true c.rank.ensures c.in_lyrics.ensures;
  keeps = inl refl;
}

pub returns : goal.returns
returns c = let q = c.args in record {
  value = at_body q.c q.p q.l.number q.s.now q.l.start q.l.stop c.is_dashes.result c.is_dashes.ensures c.body_line.result
      c.if-is_dashes.false c.body_line.ensures.value;
  keeps = c.body_line.ensures.keeps;
}
