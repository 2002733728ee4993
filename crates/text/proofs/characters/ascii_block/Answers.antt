-- Where the block lies in the text, 16 counted means that all of it is such.
use Prim.Native.Nat.{◌+◌, ◌-◌}
use mathlib.Core.Path.{◌≡◌, sym, ◌∙◌}
use native.Mathlib.Omega.{arith}
use borrow.Author.Tests.{eqb-true}
use lib.ListN.{take, drop, length-drop}
use lib.Seq.{drop-drop}
use Rattle.std.specs.List.{count_by}
use Rattle.songcode.specs.Answer.Characters.{within}
use Rattle.text.proofs.GoodLaws.{ascii_run}
use Rattle.text.proofs.characters.ascii_block.Goals as goal

pub returns-then-t-i-ge-BLOCK : goal.returns-then-t-i-ge-BLOCK
returns-then-t-i-ge-BLOCK c = λ e.
    let t = c.args.t.now in
    let i = c.args.i in
    let k : i + 16 - i ≡ 16 = omega arith in
    let n : count_by (within 0x01 0x7F) (take 16 (drop i t)) ≡ 16 = rw k at (sym c.ascii_among.ensures ∙ eqb-true _ _ e) in
    let run = ascii_run 16 (drop i t) (omega (arith, length-drop i t)) n in
    (omega arith, rw (drop-drop 16 i t) at run)
