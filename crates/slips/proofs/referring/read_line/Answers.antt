-- Token by token: the tokens read so far and those that are left are those of the line.
use Prim.Native.Nat.{◌≤◌}
use mathlib.Core.Path.{sym, subst}
use mathlib.Core.List.{[], ◌∷◌, ◌++◌, append_assoc, append-nil}
use native.Mathlib.Omega.{arith}
use Rattle.slips.specs.Marks.{MarksFrom}
use Rattle.slips.proofs.MarkLaws.{mark, marked_none, marked_more}
use Rattle.slips.proofs.PutReadLaws.{read_none, read_both, read_end}
use Rattle.slips.proofs.referring.read_line.Goals as goal

pub loop-t-init : goal.loop-t-init
loop-t-init c = (omega arith, ([], read_none _ _ c.requires.3, λ ms m. m))

pub read_or_refer-reading-requires : goal.read_or_refer-reading-requires
read_or_refer-reading-requires c =
    let t = c.in-Some.ensures.inside in
    (c.requires.2, c.loop-t.invariant.1.1.known, omega (arith, t.1, t.2, c.requires.1, c.requires.2))

pub loop-t-preserved : goal.loop-t-preserved
loop-t-preserved c =
    let a = c.args in
    let s = a.s.now in
    let at = c.loop-t.at in
    let i = c.loop-t.invariant.1 in
    let t = c.in-Some.t in
    let h = c.in-Some.ensures.takes in
    let k = c.in-Some.ensures.inside.2 in
    let u : a.to ≤ 65536 = omega (arith, c.requires.1, c.requires.2) in
    let d = mark s at a.to u t h k in (
      k,
      (
        i.0 ++ (d ∷ []),
        read_both i.1 (c.read_or_refer-reading.ensures.reads at a.to c.requires.1 h k),
        λ ms m.
            subst (MarksFrom s a.from a.to) (sym (append_assoc i.0 (d ∷ []) ms))
            (i.2 (d ∷ ms) (marked_more s at a.to u t h k ms m)),
      ),
    )

pub returns : goal.returns
returns c =
    let a = c.args in
    let i = c.loop-t.invariant.1 in
    let n = marked_none a.s.now c.loop-t.at a.to c.in_default.ensures.takes in
    record {
      marks = i.0;
      marked = subst (MarksFrom a.s.now a.from a.to) (append-nil i.0) (i.2 [] n);
      read = read_both i.1
          (read_end a.s.now c.loop-t.reading _ i.1.known _ c.with_reading.ensures a.to (omega (arith, c.requires.1, c.requires.2))
          c.read_token.ensures);
    }
