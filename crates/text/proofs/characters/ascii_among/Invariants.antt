-- So many of the bytes seen are characters of one byte.
use mathlib.Core.Path.{◌≡◌}
use lib.ListN.{take}
use Rattle.std.specs.List.{count_by}
use Rattle.songcode.specs.Answer.Characters.{within}
use Rattle.text.proofs.characters.ascii_among.Given as goal

abbrev pub invariant-loop-b : goal.invariant-loop-b
invariant-loop-b l = l.n ≡ count_by (within 0x01 0x7F) (take l.b-index l.t)
