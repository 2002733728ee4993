-- Each turn stores one word with the step added, behind all words still to be read, so copying those that are left ends as the whole copy.
use Rattle.player.proofs.CopyLaws.{copy_start, copy_next, copy_over}
use Rattle.player.specs.Again.{later}
use Rattle.std.proofs.Common.{refl, ◌∙◌, arith, length-set, rules}
use Rattle.player.proofs.again.copy_later.Goals as goal

pub loop-i-init : goal.loop-i-init
loop-i-init c = (
  omega arith,
  refl,
  search rules,
  copy_start (later c.args.step) c.args.t.now
      c.args.from c.args.to,
)

pub loop-i-preserved : goal.loop-i-preserved
loop-i-preserved c =
    let a = c.args in
    let l = c.loop-i in (
      omega arith,
      length-set l.t _ _ ∙ l.invariant.1,
      l.invariant.2,
      copy_next (later c.args.step) l.t _ a.from a.to l.i _
          c.requires (omega (arith, l.invariant.2, c.loop-i-test.true))
          (omega (arith, l.invariant.1, l.invariant.2, c.loop-i-test.true)) refl l.invariant.3,
    )

pub returns : goal.returns
returns c =
    let a = c.args in
    let l = c.loop-i in
    copy_over (later c.args.step) l.t _ a.from a.to _ l.i
    (omega (arith, l.invariant.1, l.invariant.2)) c.loop-i-test.false l.invariant.3
