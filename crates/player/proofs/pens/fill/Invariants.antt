-- Beat by beat: the n - i beats that are left end as all n do from the first pen on, and a fine pen stays fine.
use Rattle.player.specs.Page.{Ink, Fine, inked}
use Rattle.std.proofs.Common.{◌≡◌, ◌-◌, ◌≤◌, length, replicate}
use Rattle.player.proofs.pens.fill.Given as goal

abbrev pub invariant-loop-beat : goal.invariant-loop-beat
invariant-loop-beat l =
    (l._beat ≤ l.n) × (length l.bs ≡ length l.initial.bs) × Fine l.q × (◌≡◌ {A = Ink} (inked (replicate (l.n - l._beat) l.w) (record { pen = l.q; bs = l.bs }))
    (inked (replicate l.n l.w) (record { pen = l.initial.q; bs = l.initial.bs })))
