-- A line is blank exactly where it ends at its start: then the block is closed, else the line is judged where it stands.
use Rattle.stage2.proofs.WalkReturns.{line_full, line_blank}
use Rattle.tokens.specs.Kept.{Keeps}
use mathlib.Core.Logic.{inl}
use mathlib.Core.Path.{refl}
use Rattle.stage2.proofs.walk.judge_line.Goals as goal

pub returns-then-l : goal.returns-then-l
returns-then-l c = let full = c.if-l.true in record {
  value = line_full c.args.c c.args.s.now c.args.l c.requires.1 c.in_place.result full c.in_place.ensures.value;
  keeps = c.in_place.ensures.keeps;
}

pub returns : goal.returns
unfolding Keeps
returns c = let note = c.close_block-note in
    let none = c.no_pending in record {
      value = line_blank c.args.c c.args.s.now c.args.l c.requires.1 note.result none.result c.block_state-state.result c.requires.0
          c.if-l.false note.ensures none.ensures c.block_state-state.ensures;
      keeps = inl refl;
    }
