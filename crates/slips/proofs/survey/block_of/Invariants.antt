-- Block by block: one that holds the line is still to come, or it is the one at hand.
use Prim.Native.Nat.{◌+◌, ◌-◌, ◌≤◌}
use mathlib.Core.List.{Memᴰ}
use lib.ListN.{length}
use Rattle.songcode.specs.Answer.Lines.{Block, blocks}
use Rattle.songcode.specs.Answer.Answer.{blocks_of}
use Rattle.sections.specs.Runs.{text_lines}
use Rattle.slips.specs.BlocksMet.{OpensAt, Holds}
use Rattle.slips.proofs.survey.block_of.Given as goal

abbrev pub invariant-loop-p : goal.invariant-loop-p
invariant-loop-p l =
    (1 ≤ l.p.number) × (l.p.number ≤ l.p.at + 1) × (l.p.at ≤ length l.s) × OpensAt l.s l.p
    × ((b : Block) → Memᴰ b (blocks_of l.s) → Holds b l.wanted → Memᴰ b (blocks (text_lines l.s l.p.number l.p.at)))

abbrev pub decreases-loop-p : goal.decreases-loop-p
decreases-loop-p l = length l.s - l.p.at
