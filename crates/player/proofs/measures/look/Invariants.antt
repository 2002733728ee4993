-- Position by position: what the positions passed and those that are left hold is what the measure holds.
use Rattle.std.proofs.Common.{◌≡◌, ◌+◌, ◌≤◌, length, drop}
use Rattle.player.specs.Signs.{sounding_of, chords_of, positions_of}
use Rattle.player.proofs.measures.look.Given as goal

abbrev pub invariant-loop-w : goal.invariant-loop-w
invariant-loop-w z =
    (z.seen.sounding ≤ z.seen.count) × (z.seen.count ≡ z.w-index)
    × (z.seen.count + length (positions_of (drop z.w-index z.text)) ≡ length (positions_of z.text))
    × (z.seen.sounding + sounding_of (positions_of (drop z.w-index z.text)) ≡ sounding_of (positions_of z.text))
    × (chords_of z.seen.last.word (positions_of (drop z.w-index z.text)) ≡ chords_of z.fn.last.word (positions_of z.text))
