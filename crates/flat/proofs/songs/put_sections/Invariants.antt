-- Section by section: each is seen in the row, plays what the definitions say, and is written as a block.
use Prim.Native.Nat.{ℕ, ◌-◌}
use mathlib.Core.Path.{◌≡◌}
use lib.ListN.{length}
use Rattle.songcode.proofs.ListLaws.{Each}
use Rattle.sections.specs.Onward.{Onward, sections_from}
use Rattle.judging.proofs.AheadLaws.{Ahead}
use Rattle.flat.specs.Measures.{Lent}
use Rattle.flat.specs.Blocks.{flat_from, put_blocks}
use Rattle.flat.proofs.SongLaws.{HeardIn}
use Rattle.flat.proofs.songs.put_sections.Given as goal

abbrev pub invariant-loop-place : goal.invariant-loop-place
invariant-loop-place l =
    (end : ℕ)
    × Ahead l.s l.words l.row end 0 0 (sections_from l.s l.place)
    × Onward l.s l.place
    × Each (HeardIn l.s) (sections_from l.s l.place)
    × Lent l.measures l.beats
    × (length l.measures ≡ length l.initial.measures)
    × (length l.beats ≡ length l.initial.beats)
    × (length l.copy ≡ length l.initial.copy)
    × (put_blocks (flat_from l.s l.place) (record { copy = l.copy; at = l.out })
    ≡ put_blocks (flat_from l.s l.initial.place) (record { copy = l.initial.copy; at = l.initial.out }))

abbrev pub decreases-loop-place : goal.decreases-loop-place
decreases-loop-place l = length l.s - l.place.at
