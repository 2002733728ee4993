-- What the code's table of beat lengths has to be: "one for each bpm from 0 to 400", each the length that document 02 gives.
use Rattle.std.specs.Prelude.{ℕ, ◌<◌, ◌≡◌, List, get_or}
use Rattle.cues.specs.Cues.{beat_length}

pub record IsTable (table : List ℕ) : Type 0 where
  pub entry : (bpm : ℕ) → bpm < 401 → get_or table bpm 0 ≡ beat_length bpm
