-- The second run begins where the body's run left off, so its lines are the ending, and the lines behind it are those that are left.
use mathlib.Core.Path.{ap, ◌∙◌}
use mathlib.Core.List.{List}
use native.Mathlib.Omega.{arith}
use Rattle.songcode.specs.Lists.{taken, left}
use Rattle.songcode.specs.Answer.Lines.{Line}
use Rattle.sections.specs.declared.runs.Test.TheVariants.{Full}
use Rattle.sections.specs.Runs.{passing, lines_behind}
use Rattle.sections.proofs.BlockLaws.{longest_placed}
use Rattle.flat.specs.Sheets.{Sheet, puts}
use Rattle.flat.specs.Taken.{line_bytes}
use Rattle.flat.proofs.lines.put_ending.Goals as goal

pub put_lines-out-requires : goal.put_lines-out-requires
put_lines-out-requires c =
    let body = c.run_of-body.ensures in
    let a = longest_placed body c.requires.0 c.requires.1 in
    longest_placed c.run_of-ending.ensures (omega (arith, a.number)) (omega (arith, a.behind))

pub returns : goal.returns
unfolding lines_behind
returns c =
    let body = c.run_of-body.ensures in
    let ending = c.run_of-ending.ensures in
    let x : Sheet = record { copy = c.args.copy.now; at = c.args.at } in
    let a = longest_placed body c.requires.0 c.requires.1 in
    let b = longest_placed ending (omega (arith, a.number)) (omega (arith, a.behind)) in
    let lines = ending.lines ∙ ap (taken (passing Full)) body.behind in record {
      adds = c.put_lines-out.ensures ∙ ap (λ (ls : List Line). puts (line_bytes ls) x) lines;
      reaches = record {
        number = omega (arith, b.number);
        counted = b.behind;
        onward = omega (arith, body.onward, ending.onward);
        inside = b.ends;
        lines = ending.behind ∙ ap (left (passing Full)) body.behind;
      };
    }
