-- Every section passed stands in the row and has another header.
use mathlib.Core.Path.{refl, sym, ◌∙◌, subst}
use mathlib.Core.List.{List, Memᴰ}
use native.Mathlib.Omega.{arith}
use Rattle.songcode.specs.Song.{Section}
use Rattle.judging.proofs.RowIsLaws.{row_is_start, row_before, row_is_next}
use Rattle.explain.proofs.SumLaws.{unrefused_start, laid_summable, unrefused_next}
use Rattle.explain.proofs.SumLaws.{sums_found, still_ahead, none_ahead}
use Rattle.explain.proofs.sums.sums_from.Goals as goal

pub loop-place-init : goal.loop-place-init
loop-place-init c = (
  c.requires.row.0.onward,
  row_is_start c.requires.row.0 c.requires.row.1 c.requires.row.2 c.requires.row.3,
  refl,
  unrefused_start c.requires.row.0 c.requires.song.1 c.requires.song.2,
  λ y m h. subst (λ (ys : List Section). Memᴰ y ys) (sym c.requires.row.0.sections) m,
)

pub lay_section-x-requires : goal.lay_section-x-requires
lay_section-x-requires c =
    let i = c.loop-place.invariant in record {
      place = (i.0, c.loop-place-test.true, i.1.room, i.1.kept);
      row = (row_before i.1, c.requires.song.0);
    }

pub section_counts-counts-requires : goal.section_counts-counts-requires
section_counts-counts-requires c =
    let i = c.loop-place.invariant in
    (_, laid_summable c.lay_section-x.result i.3 i.1 c.lay_section-x.ensures.lays c.lay_section-x.ensures.length)

pub returns-then-x-line : goal.returns-then-x-line
returns-then-x-line c =
    let i = c.loop-place.invariant in
    let counts = c.section_counts-counts in
    sums_found c.lay_section-x.result c.lay_section-x.ensures.lays.opens c.args.line i.4 c.if-x-line.true counts.result
    (counts.ensures _ (laid_summable c.lay_section-x.result i.3 i.1 c.lay_section-x.ensures.lays c.lay_section-x.ensures.length))

pub loop-place-smaller : goal.loop-place-smaller
loop-place-smaller c =
    omega (arith, c.lay_section-x.ensures.lays.opens.met.further, c.loop-place-test.true)

pub loop-place-preserved : goal.loop-place-preserved
loop-place-preserved c =
    let i = c.loop-place.invariant in (
      c.lay_section-x.ensures.lays.opens.met.onward,
      row_is_next c.lay_section-x.result i.1 c.lay_section-x.ensures.lays c.lay_section-x.ensures.length,
      c.lay_section-x.ensures.length ∙ i.2,
      unrefused_next c.lay_section-x.result i.3 i.1 c.lay_section-x.ensures.lays c.lay_section-x.ensures.length,
      still_ahead c.lay_section-x.result c.lay_section-x.ensures.lays.opens c.args.line i.4 c.if-x-line.false,
    )

pub returns : goal.returns
returns c =
    let l = c.loop-place in
    let e = c.args in
    none_ahead e.s.now e.line l.place c.loop-place-test.false l.invariant.4 _
