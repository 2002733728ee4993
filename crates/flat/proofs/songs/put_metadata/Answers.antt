-- Block by block, as long as they are metadata.
use Prim.Native.Nat.{ℕ}
use mathlib.Core.Path.{refl, sym, ap, ◌∙◌}
use mathlib.Core.List.{List}
use mathlib.Core.Logic.{inl, inr}
use native.Mathlib.Omega.{arith}
use Rattle.sections.proofs.BlockLaws.{longest_placed}
use Rattle.laying.proofs.MetadataLaws.{is_metadata, is_definition, is_section, not_metadata}
use Rattle.flat.specs.Sheets.{Sheet, puts}
use Rattle.flat.proofs.MetadataLaws.{said_from, begun_start, said_start, begun_next, begun_further, said_next, said_end, said_over}
use borrow.Author.Rules.{rules}
use Rattle.flat.proofs.songs.put_metadata.Goals as goal

pub loop-place-init : goal.loop-place-init
loop-place-init c =
    let s = c.args.s.now in
    let x : Sheet = record { copy = c.args.copy.now; at = 0 } in
    let n = c.next_block-place.ensures in (
      begun_start s c.next_block-place.result c.requires n,
      refl,
      ap (λ (bs : List ℕ). puts bs x) (said_start s c.next_block-place.result n),
    )

pub put_lines-out-requires : goal.put_lines-out-requires
put_lines-out-requires c =
    let inv = c.loop-place.invariant.0 in
    longest_placed c.run_of-block.ensures inv.number inv.counted

pub loop-place-smaller : goal.loop-place-smaller
loop-place-smaller c =
    let s = c.args.s.now in
    let kind = is_metadata _ (sym c.kind_at.ensures ∙ c.in-Metadata.is) in
    let further = begun_further s c.loop-place.place c.loop-place.invariant.0 c.loop-place-test.true kind c.run_of-block.result
    c.next_block-place-in-Metadata.result
    c.run_of-block.ensures c.next_block-place-in-Metadata.ensures in
    omega arith

pub loop-place-preserved : goal.loop-place-preserved
loop-place-preserved c =
    let l = c.loop-place in
    let s = c.args.s.now in
    let kind = is_metadata _ (sym c.kind_at.ensures ∙ c.in-Metadata.is) in
    let inside = c.loop-place-test.true in
    let run = c.run_of-block.result in
    let next = c.next_block-place-in-Metadata.result in
    let w = c.run_of-block.ensures in
    let v = c.next_block-place-in-Metadata.ensures in
    let on = said_next s l.place l.invariant.0 inside kind run next w v _ in (
      begun_next s l.place l.invariant.0 inside kind run next w v,
      search rules,
      ap (puts (said_from s next)) c.put_lines-out.ensures ∙ sym on ∙ l.invariant.2,
    )

pub returns-in-Definition : goal.returns-in-Definition
returns-in-Definition c =
    let l = c.loop-place in
    let s = c.args.s.now in
    let kind = is_definition _ (sym c.kind_at.ensures ∙ c.in-Definition.is) in
    sym (said_end s l.place l.invariant.0 c.loop-place-test.true (not_metadata (inl kind)) _) ∙ l.invariant.2

pub returns-in-Section : goal.returns-in-Section
returns-in-Section c =
    let l = c.loop-place in
    let s = c.args.s.now in
    let kind = is_section _ (sym c.kind_at.ensures ∙ c.in-Section.is) in
    sym (said_end s l.place l.invariant.0 c.loop-place-test.true (not_metadata (inr kind)) _) ∙ l.invariant.2

pub returns : goal.returns
returns c =
    let l = c.loop-place in
    let s = c.args.s.now in
    sym (said_over s l.place _ c.loop-place-test.false) ∙ l.invariant.2
