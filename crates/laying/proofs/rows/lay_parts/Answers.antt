-- Each part has room behind those that are laid.
use Rattle.laying.specs.Rows.{lead_said, pattern_said, tail_said, lyrics_said}
use Rattle.laying.proofs.PartsLaidLaws.{room_lead, room_lines, kept_lines, room_tail, room_lyrics, all_laid, all_places}
use Rattle.laying.proofs.rows.lay_parts.Goals as goal

pub lay_said-begun-requires : goal.lay_said-begun-requires
unfolding lead_said pattern_said tail_said lyrics_said
lay_said-begun-requires c = (
  c.requires.places.3,
  c.requires.places.5,
  room_lead c.args.s.now c.args.section c.args.at c.args.words.now c.requires.room c.lay_cuts-from.ensures.held c.lay_cuts-from.ensures.fill,
)

pub lay_run-ended-requires : goal.lay_run-ended-requires
unfolding lead_said pattern_said tail_said lyrics_said
lay_run-ended-requires c =
    let s = c.args.s.now in
    let r = c.args.section in
    let at = c.args.at in
    let held = c.args.words.now in (
      c.requires.places.0,
      c.requires.places.5,
      room_lines s r at held c.requires.room c.lay_cuts-from.ensures.held c.lay_cuts-from.ensures.fill c.lay_said-begun.ensures.held
          c.lay_said-begun.ensures.fill,
      kept_lines s r at held c.requires.room c.lay_cuts-from.ensures.held c.lay_cuts-from.ensures.fill c.lay_said-begun.ensures.held
          c.lay_said-begun.ensures.fill c.requires.places.6,
    )

pub lay_said-last-requires : goal.lay_said-last-requires
unfolding lead_said pattern_said tail_said lyrics_said
lay_said-last-requires c = (
  c.requires.places.4,
  c.requires.places.5,
  room_tail c.args.s.now c.args.section c.args.at c.args.words.now c.requires.room c.lay_cuts-from.ensures.held c.lay_cuts-from.ensures.fill
      c.lay_said-begun.ensures.held c.lay_said-begun.ensures.fill c.lay_run-ended.ensures.held c.lay_run-ended.ensures.fill,
)

pub lay_lyrics-end-requires : goal.lay_lyrics-end-requires
unfolding lead_said pattern_said tail_said lyrics_said
lay_lyrics-end-requires c = (
  c.requires.places.1,
  c.requires.places.2,
  c.requires.places.5,
  room_lyrics c.args.s.now c.args.section c.args.at c.args.words.now c.requires.room c.lay_cuts-from.ensures.held c.lay_cuts-from.ensures.fill
      c.lay_said-begun.ensures.held c.lay_said-begun.ensures.fill c.lay_run-ended.ensures.held c.lay_run-ended.ensures.fill
      c.lay_said-last.ensures.held c.lay_said-last.ensures.fill,
)

pub returns : goal.returns
unfolding lead_said pattern_said tail_said lyrics_said
returns c =
    let a = c.args in record {
      held = all_laid a.s.now a.section a.at a.words.now c.requires.room c.lay_cuts-from.ensures.held c.lay_cuts-from.ensures.fill
          c.lay_said-begun.ensures.held c.lay_said-begun.ensures.fill
          c.lay_run-ended.ensures.held c.lay_run-ended.ensures.fill c.lay_said-last.ensures.held c.lay_said-last.ensures.fill
          c.lay_lyrics-end.ensures.held c.lay_lyrics-end.ensures.fill;
      places = all_places a.s.now a.section a.at a.words.now c.requires.room c.lay_cuts-from.ensures.held c.lay_cuts-from.ensures.fill
          c.lay_said-begun.ensures.held c.lay_said-begun.ensures.fill
          c.lay_run-ended.ensures.held c.lay_run-ended.ensures.fill c.lay_said-last.ensures.held c.lay_said-last.ensures.fill
          c.lay_lyrics-end.ensures.held c.lay_lyrics-end.ensures.fill;
      fits = c.lay_lyrics-end.ensures.fits;
    }
