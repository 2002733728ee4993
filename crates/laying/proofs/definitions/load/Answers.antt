-- The definitions loaded so far stand in the buffer as they are written, and none of them has a fault.
use Rattle.laying.specs.Loading.{blocks_from}
use Rattle.laying.proofs.LoadLaws.{loading_first, loads_all}
use Rattle.laying.proofs.MetadataLaws.{is_metadata, is_definition, is_section, not_definition, come_over}
use Rattle.refusals.proofs.PassedLaws.{passed_up}
use lib.ListN.{length-set}
use mathlib.Core.Path.{refl, sym, ◌∙◌}
use mathlib.Core.Logic.{inl, inr, ⊎_elim}
use native.Mathlib.Omega.{arith}
use borrow.Author.Rules.{rules}
use Rattle.laying.proofs.definitions.load.Goals as goal

pub loop-place-init : goal.loop-place-init
loop-place-init c =
    (loading_first c.args.s.now c.args.words.now c.args.first c.requires.0 c.requires.1 c.requires.2 c.requires.3, refl)

pub kind_at-requires : goal.kind_at-requires
kind_at-requires c =
    c.loop-place.invariant.0.leaves.inside

pub load_one-requires : goal.load_one-requires
load_one-requires c =
    (c.loop-place.invariant.0, c.loop-place-test.true, is_definition _ (sym c.kind_at.ensures ∙ c.in-Definition.is))

pub shape_of-words-in_err-next-in-Definition : goal.shape_of-words-in_err-next-in-Definition
shape_of-words-in_err-next-in-Definition c =
    let x = c.load_one.ensures.1 in
    let i = c.loop-place.invariant.1 in
    let l = length-set c.args.words.now 0 0 in
    search rules

pub returns-in_err-next-in-Definition : goal.returns-in_err-next-in-Definition
returns-in_err-next-in-Definition c = (
  passed_up _ _ _ _ c.from_residual.ensures.1 c.in_err-next-in-Definition.ensures.0,
  c.load_one.ensures.1 ∙ c.loop-place.invariant.1 ∙ length-set c.args.words.now 0 0,
)

pub loop-place-smaller : goal.loop-place-smaller
loop-place-smaller c =
    let x = c.in_ok-next-in-Definition.ensures.0.further in
    let inside = c.loop-place-test.true in
    omega arith

pub loop-place-preserved : goal.loop-place-preserved
loop-place-preserved c =
    (c.in_ok-next-in-Definition.ensures.0.loading, c.load_one.ensures.1 ∙ c.loop-place.invariant.1)

pub shape_of-words-after-loop-place : goal.shape_of-words-after-loop-place
shape_of-words-after-loop-place c =
    let i = c.loop-place.invariant.1 in
    let l = length-set c.args.words.now 0 0 in
    search rules

pub returns-after-loop-place : goal.returns-after-loop-place
unfolding blocks_from
returns-after-loop-place c =
    absurd (come_over c.args.s.now c.loop-place.place c.requires.0 c.loop-place.invariant.0.leaves.sections c.loop-place-test.false)

pub shape_of-words-in-Metadata : goal.shape_of-words-in-Metadata
shape_of-words-in-Metadata c =
    let i = c.loop-place.invariant.1 in
    let l = length-set c.args.words.now 0 0 in
    search rules

pub returns-in-Metadata : goal.returns-in-Metadata
returns-in-Metadata c =
    let kind = ⊎_elim (λ m. inl (is_metadata _ (sym c.kind_at.ensures ∙ m))) (λ m. inr (is_section _ (sym c.kind_at.ensures ∙ m))) c.in-Metadata.is in (
      loads_all c.args.s.now c.loop-place.words c.loop-place.mark c.loop-place.place c.loop-place.invariant.0 c.requires.0
          c.loop-place-test.true (not_definition kind),
      c.loop-place.invariant.1 ∙ length-set c.args.words.now 0 0,
    )
