-- Beat by beat, or all beats at once; a full table stays.
use Rattle.player.proofs.BarLaws.{bar_length, inked_whole}
use Rattle.songcode.proofs.MemoryLaws.{sets_out}
use Rattle.player.specs.Bars.{beats_of}
use Rattle.std.proofs.Common.{◌∙◌, sym}
use Rattle.player.proofs.measures.played.Goals as goal
use Rattle.player.proofs.measures.played.Goals.{then-p-room, else-p-room}

pub returns : goal.returns
returns c =
    let whole = c.is_whole.ensures c.if-not-is_whole.false in
    let a = c.args in
    inked_whole (beats_of a.bar) _ a.p _ a.bs.now _ (bar_length a.bar c.requires.1) whole.0 whole.1 c.advanced.ensures
    (elim c.if-p-room.branch [
      | then-p-room w ↦ w.bs-is ∙ w.write_bar.ensures
      | else-p-room w ↦ w.bs-is ∙ sym (sets_out a.bs.now (beats_of a.bar) a.p.b w.if-p-room.false)
    ])
