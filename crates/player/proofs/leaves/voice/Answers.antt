-- A chord, `%`, or another: the kind tells which, and none is past the bound.
use Rattle.player.specs.Signs.{voice_of}
use Rattle.std.proofs.Common.{le-ltb, lt-ltb, eq-eqb, ne_eqb}
use Rattle.songcode.specs.Lists.{provided◌then◌else◌}
use Rattle.player.proofs.leaves.voice.Goals as goal
use Rattle.player.proofs.leaves.voice.Goals.{then-k-lt-CHORDS, else-k-lt-CHORDS+then-k-eq-AGAIN, else-k-lt-CHORDS+else-k-eq-AGAIN}

pub returns : goal.returns
unfolding voice_of provided◌then◌else◌
returns c =
    elim c.if-k-lt-CHORDS.branch [
      | then-k-lt-CHORDS w ↦ simp (w.result-is, ← c.kind-k.ensures, lt-ltb _ _ w.if-k-lt-CHORDS.true)
      | else-k-lt-CHORDS+then-k-eq-AGAIN w ↦ simp (w.result-is, ← c.kind-k.ensures, le-ltb _ _ w.if-k-lt-CHORDS.false, eq-eqb _ _ w.if-k-eq-AGAIN.true)
      | else-k-lt-CHORDS+else-k-eq-AGAIN w ↦ simp (w.result-is, ← c.kind-k.ensures, le-ltb _ _ w.if-k-lt-CHORDS.false, ne_eqb _ _ w.if-k-eq-AGAIN.false)
    ]
