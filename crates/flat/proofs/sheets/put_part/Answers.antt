-- Byte by byte: the bytes from here on, put on the sheet so far, give what the whole part gives on the first sheet.
use mathlib.Core.Path.{refl}
use Rattle.text.specs.Spans.{part}
use Rattle.flat.proofs.SheetLaws.{byte_next, byte_over}
use borrow.Author.Rules.{rules}
use Rattle.flat.proofs.sheets.put_part.Goals as goal

pub loop-b-init : goal.loop-b-init
loop-b-init c = (refl, refl)

pub loop-b-preserved : goal.loop-b-preserved
loop-b-preserved c =
    let a = c.args in
    let l = c.loop-b in
    (search rules, byte_next (part a.start a.stop a.s.now) l.b-index _ _ _ c.loop-b-test.true c.put-out.ensures l.invariant.1)

pub returns : goal.returns
returns c =
    let a = c.args in
    byte_over (part a.start a.stop a.s.now) c.loop-b.b-index _ _ c.loop-b-test.false c.loop-b.invariant.1
