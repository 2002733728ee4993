-- What stage 1 says, by cases.
use Prim.Native.Nat.{ℕ, ◌<◌, ◌≤◌}
use mathlib.Core.Path.{◌≡◌}
use mathlib.Core.List.{List}
use borrow.Author.Tests.{lt-ltb, le-ltb}
use lib.ListN.{length}
use Rattle.songcode.specs.Lists.{provided◌then◌else◌, when}
use Rattle.songcode.specs.Answer.Characters.{good_bytes}
use Rattle.songcode.specs.Complaints.{complain_if, earlier, earliest}
use Rattle.songcode.specs.Answer.Answer.{most_bytes, line_of_place, input_faults}
use Rattle.std.proofs.Math.Option.{none, some}
use Rattle.songcode.specs.Complaints.{complaint}

module _ (s : List ℕ) where
  pub too_long : 65536 < length s → some (complaint 1 0) ≡ earliest (input_faults s)
  unfolding input_faults most_bytes provided◌then◌else◌ earliest earlier
  too_long h = rw (lt-ltb _ _ h)

  module _ (h : length s ≤ 65536) {good : ℕ} (g : good ≡ good_bytes 0 s) where
    pub bad_character : good < length s → {line : ℕ} → line ≡ line_of_place good s → some (complaint 2 line) ≡ earliest (input_faults s)
    unfolding input_faults most_bytes provided◌then◌else◌ complain_if when earliest earlier
    bad_character l e = rw (le-ltb _ _ h, ← g, lt-ltb _ _ l, e)

    pub nothing_wrong : length s ≤ good → none ≡ earliest (input_faults s)
    unfolding input_faults most_bytes provided◌then◌else◌ complain_if when earliest
    nothing_wrong l = rw (le-ltb _ _ h, ← g, le-ltb _ _ l)
