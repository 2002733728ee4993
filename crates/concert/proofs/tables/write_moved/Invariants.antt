-- `write_moved` meets its contract. The invariant: the first i words are moved, the second table holds what it held behind them.
use Rattle.concert.specs.Moves.{moved_word}
use Rattle.concert.proofs.TableLaws.{filled}
use lib.ListN.{length}
use mathlib.Core.Path.{◌≡◌}
use Rattle.concert.proofs.tables.write_moved.Given as goal

abbrev pub invariant-loop-i : goal.invariant-loop-i
invariant-loop-i l = (length l.second ≡ length l.initial.second) × (l.second ≡ filled (moved_word l.shift) l.beats l.initial.second l.i)
