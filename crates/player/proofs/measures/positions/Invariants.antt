-- Position by position: what is left to be written ends as the whole measure does.
use Rattle.player.specs.Signs.{parts_of}
use Rattle.player.specs.Bars.{beats_of}
use Rattle.player.specs.Page.{Ink, Fine, inked}
use Rattle.std.proofs.Common.{◌≡◌, length, drop}
use Rattle.player.proofs.measures.positions.Given as goal

abbrev pub invariant-loop-w : goal.invariant-loop-w
invariant-loop-w z =
    (length z.bs ≡ length z.initial.bs) × Fine z.q
    × (◌≡◌ {A = Ink} (inked (parts_of z.bar.share z.last.word (drop z.w-index z.bar.positions.now)) (record { pen = z.q; bs = z.bs }))
    (inked (beats_of z.bar) (record { pen = z.initial.q; bs = z.initial.bs })))
