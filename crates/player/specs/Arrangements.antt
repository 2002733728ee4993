-- What a section plays, from the words of its texts; what playing it asks, and what it leaves in the tables.
use Rattle.std.specs.Prelude.{◌≡◌, ℕ, ◌+◌, ◌*◌, ◌≤◌, List, length, ◌≢◌}
use Rattle.std.proofs.lemmas.List.Edits.{sets}
use Rattle.songcode.specs.Lists.{times}
use Rattle.songcode.specs.Description.Performance.{total}
use Rattle.score.specs.declared.views.View.{View}
use Rattle.score.specs.Places.{played_text}
use Rattle.player.specs.declared.pens.Pen.{Pen}
use Rattle.player.specs.declared.pens.Page.{Page as Lent}
use Rattle.player.specs.declared.playing.Arrangement.{Arrangement}
use Rattle.player.specs.declared.playing.Counts.{Counts}
use Rattle.player.specs.Walks.{row_of}
use Rattle.player.specs.Windows.{section_row, flat, heads}
use Rattle.player.specs.Even.{Even}

-- What the section that is seen plays.
unfoldable pub arrangement_in : List ℕ → View → Arrangement
arrangement_in ws v =
    record {
      n = v.meter;
      lead = v.lead;
      pattern = played_text ws v.pattern;
      tail = v.tail;
      repeat = v.repeat;
      front = v.front;
      back = v.back;
      even = v.even;
    }

-- The pattern as often as it is repeated, before the cuts.
abbrev pub repeated_row : List ℕ → Arrangement → List (List ℕ)
repeated_row ws a = times a.repeat (row_of a.n ws a.pattern)

-- The row that the section plays.
abbrev pub arranged_row : List ℕ → Arrangement → List (List ℕ)
arranged_row ws a = section_row a.front a.back a.repeat (row_of a.n ws a.lead) (row_of a.n ws a.pattern) (row_of a.n ws a.tail)

-- Its measures before the cuts.
abbrev pub measures_uncut : List ℕ → Arrangement → ℕ
measures_uncut ws a = length (row_of a.n ws a.lead) + length (repeated_row ws a) + length (row_of a.n ws a.tail)

-- Its cuts can be turned into beats; where it tells so its pattern is even.
pub record Countable (ws : List ℕ) (a : Arrangement) : Type 0 where
  pub meter : a.n ≤ 32
  pub cuts : a.front.beats.0 ≤ 9999
  pub measures : length (repeated_row ws a) ≤ 65535
  pub even : (a.even ≢ 0) → Even a.n a.even (row_of a.n ws a.pattern)

-- It plays within 65,535 measures of 32 beats, its first beat at `base`.
pub record PlaysWithin (ws : List ℕ) (a : Arrangement) (base : ℕ) : Type 0 where
  pub countable : Countable ws a
  pub room : base + 32 * measures_uncut ws a ≤ 2097120

-- A pen in front of both tables.
pub record Opening (p : Pen) : Type 0 where
  pub todo : p.todo ≡ 65536
  pub measures : p.m ≡ 0
  pub beats : p.b ≡ 0
  pub skip : p.skip ≤ 2097120
  pub fits : p.base + p.left ≤ 2097120

-- A row stands in both tables from their first words on, its first beat at `base`, and is counted.
pub record Plays (row : List (List ℕ)) (base : ℕ) (c : Counts) (ms bs ms' bs' : List ℕ) : Type 0 where
  pub measures : c.measures ≡ length row
  pub beats : c.beats ≡ total row
  pub measure_table : ms' ≡ sets ms 0 (heads base row)
  pub beat_table : bs' ≡ sets bs 0 (flat row)

-- The same of a page, from the pen's base on.
abbrev pub PlaysOn : List (List ℕ) → Counts → Lent → Lent → Type 0
PlaysOn row c g h = Plays row g.pen.base c g.measures.now g.beats.now h.measures.now h.beats.now
