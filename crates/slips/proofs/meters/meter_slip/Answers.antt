-- On the header's line the pattern is read, on another the setting there; what is told of it holds of the block that the line stands in.
use Rattle.slips.proofs.TextLaws.{meter_past, meter_header, meter_side}
use Rattle.slips.proofs.MeasureTexts.{misfits_past, misfits_header, misfits_side}
use Rattle.slips.proofs.meters.meter_slip.Goals as goal

pub returns-then-s-block : goal.returns-then-s-block
returns-then-s-block c =
    let a = c.args in
    let b = c.block_of-block.ensures in
    let past = c.if-s-block.true in (
      λ e. meter_past a.s.now a.line a.l b past c.at_place.result,
      λ e. misfits_past a.s.now c.requires.1 a.line a.l a.time b past c.at_place.result c.at_place.ensures.0,
    )

pub section_parts-parts-requires : goal.section_parts-parts-requires
section_parts-parts-requires c =
    let b = c.block_of-block.ensures in (b.number, b.counted, c.if-s-block.false)

pub read_pattern-requires : goal.read_pattern-requires
read_pattern-requires c =
    let e = c.section_parts-parts.ensures.pattern_placed in
    (e.counted, e.inside, c.requires.1, c.reading_in-x.ensures.2)

pub returns-then-block-line : goal.returns-then-block-line
returns-then-block-line c =
    let a = c.args in
    let b = c.block_of-block.ensures in
    let first = c.if-block-line.true in
    let lines = c.section_parts-parts.ensures.pattern in
    let x = c.reading_in-x.ensures in
    let r = c.read_pattern.ensures in (
      λ e. meter_header a.s.now a.line a.l b first _ lines _ _ x.1 r _ (c.reading_slip.ensures.0 e),
      λ e. misfits_header a.s.now c.requires.1 a.line a.l a.time b _ _ x.2 x.0 _ (c.reading_slip.ensures.1 e) first _ lines r,
    )

pub read_side-requires : goal.read_side-requires
read_side-requires c = c.requires

pub returns : goal.returns
returns c =
    let a = c.args in
    let b = c.block_of-block.ensures in
    let other = c.if-block-line.false in
    let x = c.reading_in-x.ensures in
    let r = c.read_side.ensures in (
      λ e. meter_side a.s.now a.line a.l b other _ _ x.1 r _ (c.reading_slip-2.ensures.0 e),
      λ e. misfits_side a.s.now c.requires.1 a.line a.l a.time b _ _ x.2 x.0 _ (c.reading_slip-2.ensures.1 e) other r,
    )
