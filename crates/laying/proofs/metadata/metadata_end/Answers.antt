-- Every block passed is metadata.
use Rattle.laying.proofs.MetadataLaws.{is_metadata, is_definition, is_section, not_metadata, come_start, come_further}
use Rattle.laying.proofs.MetadataLaws.{come_next, come_end, come_over}
use native.Mathlib.Omega.{arith}
use mathlib.Core.Path.{sym, ◌∙◌}
use mathlib.Core.Logic.{inl, inr, ⊎_elim}
use Rattle.laying.proofs.metadata.metadata_end.Goals as goal

pub loop-place-init : goal.loop-place-init
loop-place-init c = come_start c.args.s.now c.next_block-place.result c.requires c.next_block-place.ensures

pub loop-place-smaller : goal.loop-place-smaller
loop-place-smaller c =
    let s = c.args.s.now in
    let kind = is_metadata _ (sym c.kind_at.ensures ∙ c.in-Metadata.is) in
    let inside = c.loop-place-test.true in
    let further = come_further s c.loop-place.place c.loop-place.invariant inside kind c.run_of-block.result
    c.next_block-place-in-Metadata.result c.run_of-block.ensures c.next_block-place-in-Metadata.ensures in
    omega arith

pub loop-place-preserved : goal.loop-place-preserved
loop-place-preserved c =
    let s = c.args.s.now in
    let kind = is_metadata _ (sym c.kind_at.ensures ∙ c.in-Metadata.is) in
    come_next s c.loop-place.place c.loop-place.invariant c.loop-place-test.true kind c.run_of-block.result
    c.next_block-place-in-Metadata.result c.run_of-block.ensures c.next_block-place-in-Metadata.ensures

pub returns-in-Definition : goal.returns-in-Definition
returns-in-Definition c =
    let s = c.args.s.now in
    let kind = ⊎_elim (λ d. inl (is_definition _ (sym c.kind_at.ensures ∙ d))) (λ e. inr (is_section _ (sym c.kind_at.ensures ∙ e))) c.in-Definition.is in
    come_end s c.loop-place.place c.loop-place.invariant c.loop-place-test.true (not_metadata kind)

pub returns : goal.returns
returns c =
    absurd (come_over c.args.s.now c.loop-place.place c.requires c.loop-place.invariant.sections c.loop-place-test.false)
