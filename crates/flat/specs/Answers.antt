-- The promise of the call: the answer and the final content of the lent buffer, for every text and every buffer.
use Rattle.std.specs.Prelude.{ℕ, ◌≡◌, List, length, Result, Ok, Err}
use Rattle.std.proofs.lemmas.List.Edits.{sets}
use Rattle.songcode.specs.Answer.Flat.{FlatAnswer, refused, copied, flat_answer}
use Rattle.refusals.specs.declared.Refusal.{Refusal}
use Rattle.refusals.specs.Names.{number_of}

-- Refusal and line, both 0 where there is a copy, and its length, 0 where there is none.
pub record Copied : Type 0 where
  pub refusal : ℕ
  pub line : ℕ
  pub length : ℕ

-- The same of what the call answers: the length of the copy, or what is refused.
unfoldable pub copied_as : Result ℕ Refusal → Copied
copied_as (Ok n) = record { refusal = 0; line = 0; length = n }
copied_as (Err e) = record { refusal = number_of e.why; line = e.line; length = 0 }

-- The same of songcode's answer.
unfoldable pub copied_of : FlatAnswer → Copied
copied_of (refused number line) = record { refusal = number; line = line; length = 0 }
copied_of (copied bytes) = record { refusal = 0; line = 0; length = length bytes }

-- "Refused: the buffer holds what it held. Accepted: the copy, and past it what was there." `sets before 0 bytes` holds the bytes from its first place
-- on, and behind them what it held.
unfoldable pub holding : FlatAnswer → List ℕ → List ℕ
holding (refused number line) before = before
holding (copied bytes) before = sets before 0 bytes

pub record Flattened (text before : List ℕ) (r : Copied) (after : List ℕ) : Type 0 where
  pub answer : r ≡ copied_of (flat_answer (length before) text)
  pub copy : after ≡ holding (flat_answer (length before) text) before
