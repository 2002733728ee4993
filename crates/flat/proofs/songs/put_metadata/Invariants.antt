-- Block by block, as long as they are metadata.
use Prim.Native.Nat.{◌-◌}
use mathlib.Core.Path.{◌≡◌}
use lib.ListN.{length}
use Rattle.songcode.specs.Answer.SongText.{metadata_lines}
use Rattle.songcode.specs.Answer.Answer.{blocks_of}
use Rattle.flat.specs.Sheets.{puts}
use Rattle.flat.specs.Taken.{line_bytes}
use Rattle.flat.proofs.MetadataLaws.{Begun, said_from}
use Rattle.flat.proofs.songs.put_metadata.Given as goal

abbrev pub invariant-loop-place : goal.invariant-loop-place
invariant-loop-place l =
    Begun l.s l.place
    × (length l.copy ≡ length l.initial.copy)
    × (puts (said_from l.s l.place) (record { copy = l.copy; at = l.out })
    ≡ puts (line_bytes (metadata_lines (blocks_of l.s))) (record { copy = l.initial.copy; at = l.initial.out }))

abbrev pub decreases-loop-place : goal.decreases-loop-place
decreases-loop-place l = length l.s - l.place.at
