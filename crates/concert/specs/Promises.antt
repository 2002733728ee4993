-- What the call promises: what it refuses, and every word of the second table, for every table and every move.
use Rattle.std.specs.Prelude.{ℕ, ◌≡◌, List, ℤ, length, Option, is_some}
use Rattle.std.proofs.lemmas.List.Edits.{sets}
use Rattle.songcode.specs.Lists.{provided◌then◌else◌}
use Rattle.refusals.specs.declared.names.Why.{Why}
use Rattle.concert.specs.Moves.{moved_table, refusal_of}

-- "second table untouched" where it is refused. "Lent memory past what a call writes keeps what it held": `sets before 0 words` holds the moved words from
-- its first place on, and behind them what it held.
unfoldable pub second_table : ℤ → List ℕ → List ℕ → List ℕ
unfolding provided◌then◌else◌ moved_table refusal_of
second_table move beats before =
    provided is_some (refusal_of move beats (length before)) then before else sets before 0 (moved_table move beats)

-- What is refused, if anything.
pub record Moves (move : ℤ) (beats before : List ℕ) (refusal : Option Why) (after : List ℕ) : Type 0 where
  pub refused : refusal ≡ refusal_of move beats (length before)
  pub second : after ≡ second_table move beats before
