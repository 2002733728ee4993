-- The words of the sections passed are written in all four tables, those of the sections ahead have room behind them.
use Prim.Native.Nat.{◌-◌, ◌≤◌}
use mathlib.Core.Path.{◌≡◌}
use mathlib.Core.List.{List}
use lib.ListN.{length}
use Rattle.songcode.specs.Song.{Section}
use Rattle.writing.proofs.SongLaws.{Midway}
use Rattle.writing.proofs.songs.write_song.Given as goal

abbrev pub invariant-loop-at : goal.invariant-loop-at
invariant-loop-at l =
    (xs : List Section)
    × Midway l.s l.words l.count
    (record { sections = l.initial.sections; measures = l.initial.measures; beats = l.initial.beats; items = l.initial.items }) l.at l.end l.k l.m l.b l.i
    (record { sections = l.sections; measures = l.measures; beats = l.beats; items = l.items }) xs
    × (length l.sections ≡ length l.initial.sections)
    × (length l.measures ≡ length l.initial.measures)
    × (length l.beats ≡ length l.initial.beats)
    × (length l.items ≡ length l.initial.items)
    × (l.m ≤ length l.measures)
    × (l.b ≤ length l.beats)
    × (l.i ≤ length l.items)

abbrev pub decreases-loop-at : goal.decreases-loop-at
decreases-loop-at l = l.end - l.at
