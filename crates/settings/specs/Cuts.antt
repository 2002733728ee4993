-- Cuts as the code answers them.
use Rattle.std.specs.Prelude.{ℕ, ◌≤◌}
use Rattle.std.proofs.Math.Option.{Option, none, some, bind}
use Rattle.songcode.specs.Song as song
use Rattle.songcode.specs.Answer.Modifiers.{cut}
use Rattle.std.specs.Prelude as std
use Rattle.std.specs.Prelude.{Some, None}
use Rattle.cuts.specs.Cuts.{cut_of}
use Rattle.cuts.specs.declared.Cut.{Cut}

unfoldable pub cut_is : Option song.Cut → std.Option Cut
cut_is none = None
cut_is (some c) = Some (cut_of c.whole.measures c.further.beats)

-- A cut that is read has at most 9,999 measures and beats.
unfoldable pub CutFits : std.Option Cut → Type 0
CutFits None = Unit {0}
CutFits (Some c) = (c.measures.0 ≤ 9999) × (c.beats.0 ≤ 9999)

-- The cut whose measures and beats are both there.
unfoldable pub cut_pair : Option ℕ → Option ℕ → Option song.Cut
unfolding bind cut
cut_pair o p = bind o (λ m. bind p (λ b. some (cut m b)))

-- The same of the numbers that the code reads.
unfoldable pub cut_read : std.Option ℕ → std.Option ℕ → std.Option Cut
cut_read (Some m) (Some b) = Some (cut_of m b)
cut_read (Some m) None = None
cut_read None b = None
