-- Token by token: the tokens read so far and those that are left are those of the line.
use mathlib.Core.Path.{sym, subst}
use mathlib.Core.List.{[], ◌∷◌, ◌++◌, append_assoc, append-nil}
use native.Mathlib.Omega.{arith}
use Rattle.slips.specs.Marks.{MarksFrom}
use Rattle.slips.proofs.MarkLaws.{follows_none, follows_both, follows_end, mark, follows_token, marked_none, marked_more}
use Rattle.slips.proofs.readings.read_plain_line.Goals as goal

pub loop-t-init : goal.loop-t-init
loop-t-init c = (omega arith, ([], follows_none _, λ ms m. m))

pub loop-t-preserved : goal.loop-t-preserved
loop-t-preserved c =
    let a = c.args in
    let s = a.s.now in
    let at = c.loop-t.at in
    let i = c.loop-t.invariant.1 in
    let t = c.in-Some.t in
    let h = c.in-Some.ensures.takes in
    let k = c.in-Some.ensures.inside.2 in
    let d = mark s at a.to (omega arith) t h k in (
      k,
      (
        i.0 ++ (d ∷ []),
        follows_both i.1 (follows_token s at a.to (omega arith) t h k c.kind.ensures c.read_token-reading.ensures),
        λ ms m.
            subst (MarksFrom s a.from a.to) (sym (append_assoc i.0 (d ∷ []) ms))
            (i.2 (d ∷ ms) (marked_more s at a.to (omega arith) t h k ms m)),
      ),
    )

pub returns : goal.returns
returns c =
    let a = c.args in
    let i = c.loop-t.invariant.1 in
    let n = marked_none a.s.now c.loop-t.at a.to c.in_default.ensures.takes in
    record {
      marks = i.0;
      marked = subst (MarksFrom a.s.now a.from a.to) (append-nil i.0) (i.2 [] n);
      follows = follows_both i.1 (follows_end a.to (omega arith) c.read_token.ensures);
    }
