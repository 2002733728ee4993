-- Remover by remover: those from position i up to N, put on the sheet so far, give what all of them give on the first sheet.
use mathlib.Core.Path.{refl}
use Rattle.songcode.specs.Bytes.{ascii}
use Rattle.flat.proofs.MeasureLaws.{missing_next, missing_over}
use borrow.Author.Rules.{rules}
use Rattle.flat.proofs.measures.put_missing.Goals as goal

pub loop-i-init : goal.loop-i-init
loop-i-init c = (refl, refl)

pub loop-i-preserved : goal.loop-i-preserved
unfolding ascii
loop-i-preserved c =
    let l = c.loop-i in (
      search rules,
      missing_next c.args.n l.i (ascii "=") _ _ _ _ c.loop-i-test.true
          c.put_space-out.ensures c.put-out.ensures l.invariant.1,
    )

pub returns : goal.returns
returns c = let l = c.loop-i in missing_over c.args.n l.i (ascii "=") _ _ c.loop-i-test.false l.invariant.1
