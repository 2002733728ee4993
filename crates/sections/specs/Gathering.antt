-- The first settings of all numbers among lines, gathered line by line.
use Rattle.std.proofs.Math.Option.{or_else}
use Rattle.std.specs.Prelude.{ℕ, ◌<◌, ◌≡◌, List, length, get_or}
use Rattle.std.specs.Prelude as std
use Rattle.songcode.specs.Answer.Lines.{Line}
use Rattle.sections.specs.declared.slots.Said.{Said}
use Rattle.sections.specs.declared.gathering.Gathered.{Gathered}
use Rattle.sections.specs.Slots.{Inside, setting_among, setting_at}

-- The setting of a number, in a row that has it by its number.
abbrev pub said_in : List (std.Option Said) → ℕ → std.Option Said
said_in row slot = get_or row slot std.None

abbrev pub said_by : Gathered → ℕ → std.Option Said
said_by g slot = said_in g.first slot

-- Of a part of the lines, the rest is still to come: the setting that was found, or else the first one of its number in the rest, is the first among all.
pub record Sought (s : List ℕ) (rest all : List Line) (slot : ℕ) (r : std.Option Said) : Type 0 where
  pub first : or_else (setting_at s r) (setting_among slot rest) ≡ setting_among slot all
  pub inside : Inside s r

-- The first setting of a number among the lines.
pub record FirstSaid (s : List ℕ) (ls : List Line) (slot : ℕ) (r : std.Option Said) : Type 0 where
  pub setting : setting_at s r ≡ setting_among slot ls
  pub inside : Inside s r

-- Of each number, in a row that has a place for all of them.
pub record SoughtBy (s : List ℕ) (rest all : List Line) (row : List (std.Option Said)) : Type 0 where
  pub wide : length row ≡ 13
  pub each : (slot : ℕ) → slot < 13 → Sought s rest all slot (said_in row slot)

pub record FirstOfEach (s : List ℕ) (ls : List Line) (g : Gathered) : Type 0 where
  pub each : (slot : ℕ) → slot < 13 → FirstSaid s ls slot (said_by g slot)
