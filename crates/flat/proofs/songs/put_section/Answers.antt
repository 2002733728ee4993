-- Header, keys, measures and ending, each where the one before it ended; behind the ending stands the next block.
use mathlib.Core.Path.{◌∙◌}
use Rattle.player.specs.Arrangements.{arranged_row}
use Rattle.flat.proofs.LineLaws.{next_places}
use Rattle.flat.proofs.SectionLaws.{section_done, section_leads}
use Rattle.flat.proofs.songs.put_section.Goals as goal

pub put_keys-keyed-requires : goal.put_keys-keyed-requires
put_keys-keyed-requires c =
    let p = c.args.p in
    next_places c.args.s.now p.number p.at c.line_at-header.ensures c.requires.place.0.counted c.requires.place.1

pub put_pattern-played-requires : goal.put_pattern-played-requires
put_pattern-played-requires c =
    (c.requires.plays, c.requires.lent)

pub put_ending-ended-requires : goal.put_ending-ended-requires
put_ending-ended-requires c =
    let keys = c.put_keys-keyed.ensures.reaches in
    (keys.number, keys.counted, keys.inside)

pub next_block-next-requires : goal.next_block-next-requires
next_block-next-requires c = let ending = c.put_ending-ended.ensures.reaches in (ending.number, ending.counted, ending.inside)

pub shape_of-copy : goal.shape_of-copy
shape_of-copy c =
    c.put_ending-ended.auto.copy ∙ c.put_pattern-played.auto.copy ∙ c.put_keys-keyed.auto.copy
    ∙ c.put_line-titled.auto.copy ∙ c.begin_block-begun.auto.copy

pub returns : goal.returns
returns c =
    let a = c.args in
    let row = arranged_row a.words.now a.x in record {
      copy = section_done a.s.now a.p c.line_at-header.ensures a.x.n row c.requires.meter c.requires.row c.requires.heard c.put_keys-keyed.ensures.reaches
          a.at _ _ _ _ _ _
          c.begin_block-begun.ensures c.put_line-titled.ensures c.put_keys-keyed.ensures.adds c.put_pattern-played.ensures.copy c.put_ending-ended.ensures.adds;
      next = section_leads a.s.now a.p c.line_at-header.ensures c.requires.place.0 c.requires.place.1 c.put_keys-keyed.ensures.reaches
          c.put_ending-ended.ensures.reaches c.next_block-next.ensures;
      lent = c.put_pattern-played.ensures.lent;
    }
