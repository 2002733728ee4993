-- A measure whose positions were seen, and its beats.
use Rattle.std.specs.Prelude.{◌≡◌, ℕ, ◌*◌, ◌≤◌, List}
use Rattle.player.specs.declared.bars.Bar.{Bar}
use Rattle.player.specs.Signs.{sounding_of, parts_of}

abbrev pub beats_of : Bar → List ℕ
beats_of x = parts_of x.share x.last.word x.positions.now

-- Its numbers are those of its positions.
pub record Counted (x : Bar) : Type 0 where
  pub sounding : x.sounding ≡ sounding_of x.positions.now
  pub few : x.share * x.sounding ≤ 32
