-- Past 65,536 bytes the sheet stays as it is; else the guarded store is a set, for a set past the buffer's end changes nothing.
use mathlib.Core.Path.{◌≡◌, sym, ap, ◌∙◌}
use lib.ListN.{set, length-set, length}
use lib.Seq.{set_out}
use Rattle.flat.proofs.SheetLaws.{put_is, put_over}
use Rattle.flat.proofs.sheets.put.Goals as goal
use Rattle.flat.proofs.sheets.put.Goals.{Joined-at-copy, then-at-copy, else-at-copy}

stored : (c : Joined-at-copy) → c.if-at-copy.copy ≡ set c.args.copy.now c.args.at c.args.b
stored c =
    let a = c.args in
    elim c.if-at-copy.branch [
      | then-at-copy w ↦ w.copy-is
      | else-at-copy w ↦ w.copy-is ∙ sym (set_out a.copy.now a.at a.b w.if-at-copy.false)
    ]

pub returns-then-at-gt65536 : goal.returns-then-at-gt65536
returns-then-at-gt65536 c = let a = c.args in put_over a.b a.copy.now a.at c.if-at-gt65536.true

pub shape_of-copy : goal.shape_of-copy
shape_of-copy c = let a = c.args in ap length (stored c) ∙ length-set a.copy.now a.at a.b

pub returns : goal.returns
returns c = let a = c.args in put_is a.b a.copy.now _ a.at c.if-at-gt65536.false (stored c)
