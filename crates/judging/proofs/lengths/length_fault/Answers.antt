-- Too many measures are refused first; behind that test the pattern plays few enough for its cuts to be judged.
use Rattle.judging.specs.Lengths.{length_fault}
use Rattle.songcode.specs.Lists.{provided◌then◌else◌}
use native.Mathlib.Omega.{arith}
use mathlib.Core.Path.{sym, ◌∙◌}
use borrow.Author.Tests.{lt-ltb, le-ltb}
use Rattle.judging.proofs.lengths.length_fault.Goals as goal

pub returns-then-measures-gt65535 : goal.returns-then-measures-gt65535
unfolding length_fault provided◌then◌else◌
returns-then-measures-gt65535 c = rw (lt-ltb _ _ c.if-measures-gt65535.true)

pub is_cut_away-requires : goal.is_cut_away-requires
is_cut_away-requires c = let h = c.requires in (h.0.meter, h.0.cuts, h.0.played (omega (arith, h.1, c.if-measures-gt65535.false)), h.0.even)

pub returns-then-is_cut_away : goal.returns-then-is_cut_away
unfolding length_fault provided◌then◌else◌
returns-then-is_cut_away c = rw (le-ltb _ _ c.if-measures-gt65535.false, sym c.is_cut_away.ensures ∙ c.if-is_cut_away.true)

pub returns : goal.returns
unfolding length_fault provided◌then◌else◌
returns c = rw (le-ltb _ _ c.if-measures-gt65535.false, sym c.is_cut_away.ensures ∙ c.if-is_cut_away.false)
