-- Block by block: the lines that are looked for are those of the blocks from the one at hand on.
use Prim.Native.Nat.{◌+◌, ◌-◌, ◌≤◌}
use mathlib.Core.Path.{◌≡◌}
use lib.ListN.{length}
use Rattle.songcode.specs.Answer.Answer.{blocks_of}
use Rattle.slips.specs.PatternText.{definition_lines}
use Rattle.slips.specs.BlocksMet.{OpensAt}
use Rattle.slips.proofs.DefinitionLaws.{lines_from}
use Rattle.slips.proofs.definitions.definition_lines.Given as goal

abbrev pub invariant-loop-p : goal.invariant-loop-p
invariant-loop-p l =
    (1 ≤ l.p.number) × (l.p.number ≤ l.p.at + 1) × (l.p.at ≤ length l.s) × OpensAt l.s l.p
    × (definition_lines l.number (blocks_of l.s) ≡ lines_from l.s l.number l.p)

abbrev pub decreases-loop-p : goal.decreases-loop-p
decreases-loop-p l = length l.s - l.p.at
