-- The head is the block's first line, and the longest run of full lines behind it is the rest of the block.
use Rattle.sections.proofs.BlockLaws.{longest_placed, others_are, past_are, definition_id}
use native.Mathlib.Omega.{arith}
use mathlib.Core.Path.{refl, sym, ◌∙◌}
use Rattle.sections.proofs.blocks.read_definition.Goals as goal

pub returns : goal.returns
returns c = let a = c.args in
    let found = c.line_at-head.ensures in
    let run = c.run_of.ensures in
    record {
      head = refl;
      id = definition_id a.s.now a.number a.at (omega arith) (omega arith) (omega arith) found c.head_in.ensures
          c.unwrap_or.ensures;
      pattern_placed = longest_placed run (omega arith) (omega (arith, found.onward));
      pattern = run.lines ∙ sym (others_are a.s.now a.number a.at (omega arith) (omega arith) (omega arith) found);
      past = run.behind ∙ sym (past_are a.s.now a.number a.at (omega arith) (omega arith) (omega arith) found);
      onward = omega (arith, found.onward, run.onward);
    }
