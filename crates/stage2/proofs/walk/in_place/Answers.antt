-- Each place has its function, which judges as the model does there; where no pattern line can stand the row is as it was.
use Rattle.stage2.proofs.WalkReturns.{by_place}
use Rattle.stage2.specs.States.{judged_at}
use Rattle.tokens.specs.Kept.{Keeps}
use Rattle.text.specs.Spans.{line_text}
use mathlib.Core.Logic.{inl}
use mathlib.Core.Path.{refl}
use Rattle.stage2.proofs.walk.in_place.Goals as goal

pub returns-in-Between : goal.returns-in-Between
unfolding judged_at Keeps
returns-in-Between c = let q = c.args in record {
  value = by_place q.c (line_text q.s.now q.l) _ _ c.in-Between.is c.open_block.ensures;
  keeps = inl refl;
}

pub returns-in-Metadata : goal.returns-in-Metadata
unfolding judged_at Keeps
returns-in-Metadata c = let q = c.args in record {
  value = by_place q.c (line_text q.s.now q.l) _ _ c.in-Metadata.is c.in_metadata.ensures;
  keeps = inl refl;
}

pub returns-in-Head : goal.returns-in-Head
unfolding judged_at
returns-in-Head c = let q = c.args in record {
  value = by_place q.c (line_text q.s.now q.l) _ _ c.in-Head.is c.in_definition.ensures.value;
  keeps = c.in_definition.ensures.keeps;
}

pub returns-in-Definition : goal.returns-in-Definition
unfolding judged_at
returns-in-Definition c = let q = c.args in record {
  value = by_place q.c (line_text q.s.now q.l) _ _ c.in-Definition.is c.in_definition-in-Definition.ensures.value;
  keeps = c.in_definition-in-Definition.ensures.keeps;
}

pub returns-in-Body : goal.returns-in-Body
returns-in-Body c = let q = c.args in record {
  value = by_place q.c (line_text q.s.now q.l) _ _ c.in-Body.is c.in_body.ensures.value;
  keeps = c.in_body.ensures.keeps;
}

pub returns-in-Lyrics : goal.returns-in-Lyrics
unfolding judged_at Keeps
returns-in-Lyrics c = let q = c.args in record {
  value = by_place q.c (line_text q.s.now q.l) _ _ c.in-Lyrics.is c.in_lyrics.ensures;
  keeps = inl refl;
}
