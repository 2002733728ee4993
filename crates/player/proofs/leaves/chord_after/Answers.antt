-- A chord is taken, and its kind bounds its word; for any other word the last chord stays.
use Rattle.player.specs.Signs.{chord_of}
use Rattle.std.proofs.Common.{le-ltb, lt-ltb}
use Rattle.songcode.specs.Lists.{provided◌then◌else◌}
use Rattle.player.proofs.leaves.chord_after.Goals as goal
use Rattle.player.proofs.leaves.chord_after.Goals.{then-kind-lt-CHORDS, else-kind-lt-CHORDS}

pub returns : goal.returns
unfolding chord_of provided◌then◌else◌
returns c =
    elim c.if-kind-lt-CHORDS.branch [
      | then-kind-lt-CHORDS w ↦ simp (w.result-is, ← c.kind.ensures, lt-ltb _ _ w.if-kind-lt-CHORDS.true)
      | else-kind-lt-CHORDS w ↦ simp (w.result-is, ← c.kind.ensures, le-ltb _ _ w.if-kind-lt-CHORDS.false)
    ]
