-- Position by position: what the positions passed and those that are left hold is what the measure holds.
use Rattle.std.proofs.Common.{◌≡◌, true, false, get_or, arith}
use Rattle.tokens.specs.Signs.{kind_of, is_position}
use Rattle.player.proofs.SignLaws.{none_here, one_here, none_past}
use Rattle.player.proofs.LookLaws.{chord_test, chord_sounds, chord_taken, chord_kept, look_done, look_more}
use Rattle.player.proofs.measures.look.Goals as goal
use Rattle.player.proofs.measures.look.Goals.{then-k-lt-CHORDS, else-k-lt-CHORDS+then-is_position}

pub returns-else-is_position : goal.returns-else-is_position
returns-else-is_position c =
    let l = c.loop-w in
    let ts = c.args.text.now in
    let t : is_position (kind_of (get_or ts l.w-index 0)) ≡ false = rw (← c.kind-k.ensures, ← c.is_position.ensures) c.if-is_position.false in
    let d = look_done _ l.seen.count l.seen.sounding l.seen.last.word _ _ _ (none_here ts l.w-index c.loop-w-test.true t)
    l.invariant.2 l.invariant.3 l.invariant.4 in record {
      count = d.0;
      sounding = d.1;
      last = d.2;
    }

pub loop-w-preserved : goal.loop-w-preserved
loop-w-preserved c =
    let l = c.loop-w in
    let ts = c.args.text.now in
    let w = get_or ts l.w-index 0 in
    let k = c.kind-k.result in
    elim c.if-k-lt-CHORDS.branch [
      | then-k-lt-CHORDS b ↦
          let h = b.if-k-lt-CHORDS.true in
          let d = look_more _ _ w k l.seen.count l.seen.sounding l.seen.last.word 1 w _ _ _
          (one_here ts l.w-index c.loop-w-test.true (chord_test w k c.kind-k.ensures h)) c.kind-k.ensures (chord_sounds k h)
          (chord_taken l.seen.last.word w k c.kind-k.ensures h) l.invariant.2 l.invariant.3 l.invariant.4 in
          rw b.seen-is (omega (arith, l.invariant.0), omega (arith, l.invariant.1), d.0, d.1, d.2)
      | else-k-lt-CHORDS+then-is_position b ↦
          let t : is_position (kind_of w) ≡ true = rw (← c.kind-k.ensures, ← b.is_position.ensures) b.if-is_position.true in
          let d = look_more _ _ w k l.seen.count l.seen.sounding l.seen.last.word b.sounds.result l.seen.last.word _ _ _
          (one_here ts l.w-index c.loop-w-test.true t) c.kind-k.ensures b.sounds.ensures.0
          (chord_kept l.seen.last.word w k c.kind-k.ensures b.if-k-lt-CHORDS.false) l.invariant.2 l.invariant.3 l.invariant.4 in
          rw b.seen-is (omega (arith, l.invariant.0, b.sounds.ensures.1), omega (arith, l.invariant.1), d.0, d.1, d.2)
    ]

pub returns : goal.returns
returns c =
    let l = c.loop-w in
    let d = look_done _ l.seen.count l.seen.sounding l.seen.last.word _ _ _ (none_past c.args.text.now l.w-index c.loop-w-test.false)
    l.invariant.2 l.invariant.3 l.invariant.4 in record {
      count = d.0;
      sounding = d.1;
      last = d.2;
    }
