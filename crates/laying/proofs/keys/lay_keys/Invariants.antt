-- Key by key: the words before it are written, the rest of the table is as it was.
use Rattle.laying.proofs.SongSaysLaws.{KeysUpTo}
use Rattle.laying.proofs.keys.lay_keys.Given as goal

abbrev pub invariant-loop-k : goal.invariant-loop-k
invariant-loop-k l = KeysUpTo l.s l.keys l.initial.keys l.k
