-- Section by section: all cover if those left do from the measure reached, and that is at most the sum of two fields of 16 bits.
use Prim.Native.Nat.{◌^◌, ◌≤◌}
use mathlib.Core.Path.{◌≡◌}
use lib.ListN.{drop}
use Rattle.songcode.specs.Description.Joined.{covers}
use Rattle.cues.proofs.joins.cover.Given as goal

abbrev pub invariant-loop-word : goal.invariant-loop-word
invariant-loop-word l = (l.first ≤ 2 ^ 17) × (covers l.first l.measures (drop l.word-index l.sections) ≡ covers 0 l.measures l.sections)
