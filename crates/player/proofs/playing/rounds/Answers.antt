-- The first pass is walked, the others done again.
use Rattle.player.proofs.PageLaws.{play_none}
use Rattle.player.specs.Page.{shown}
use Rattle.songcode.specs.Lists.{times}
use Rattle.std.proofs.Common.{sym, arith}
use Rattle.player.proofs.WalkLaws.{fine_end, end_page, rounds_none, rounds_empty, rounds_some}
use Rattle.player.proofs.Walkables.{empty_row}
use Rattle.player.specs.Walks.{level, row_of}
use Rattle.player.proofs.playing.rounds.Goals as goal
use Rattle.player.proofs.playing.rounds.Goals.{then-s-via-then-s, then-s-via-else-s+then-r-eq0, then-s-via-else-s+else-r-eq0+then-page-eq0}

pub returns-then-s-clause-played : goal.returns-then-s-clause-played
returns-then-s-clause-played c =
    let a = c.args in
    let row = row_of a.n a.words.now a.s in
    let g = shown a.page.now in
    elim c.then-s.branch [
      | then-s-via-then-s w ↦ rounds_empty row a.r g (empty_row a.n a.words.now a.s w.if-s.true)
      | then-s-via-else-s+then-r-eq0 w ↦ rounds_none row a.r g w.if-r-eq0.true
      | then-s-via-else-s+else-r-eq0+then-page-eq0 w ↦ sym (play_none (times a.r row) g w.if-page-eq0.true)
    ]

pub again-requires : goal.again-requires
again-requires c =
    let a = c.args in
    let l = (level 8 a.n a.words.now a.s.to a.s.from 4227858432) in
    let g = shown a.page.now in
    let e = c.items.ensures.walk in (
      fine_end _ l g e c.requires.0,
      record { meter = c.requires.1; levels = omega arith },
      record { ms_before = g.ms; bs_before = g.bs; pass = end_page _ l g e },
    )

pub returns-clause-played : goal.returns-clause-played
unfolding row_of
returns-clause-played c =
    let a = c.args in
    let l = (level 8 a.n a.words.now a.s.to a.s.from 4227858432) in
    let g = shown a.page.now in
    rounds_some l.row a.r g _ _ c.if-r-eq0.false (end_page _ l g c.items.ensures.walk) c.again.ensures.played
