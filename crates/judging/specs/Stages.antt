-- The complaints of stages 3 to 7, stage by stage.
use Rattle.std.specs.Prelude.{ℕ, ◌≡◌, List, [], ◌∷◌, Result, Some, MatchResult}
use Rattle.songcode.specs.Complaints.{Complaint, verdict}
use Rattle.songcode.specs.Song.{Song}
use Rattle.songcode.specs.Answer.Answer.{input_faults, blocks_of}
use Rattle.songcode.specs.Answer.SongText.{text_faults}
use Rattle.refusals.specs.declared.Refusal.{Refusal}
use Rattle.refusals.specs.Refusals.{told}
use Rattle.tokens.specs.Kept.{KeptFrom}
use Rattle.songcode.specs.Answer.References.{reference_faults}
use Rattle.songcode.specs.Answer.Meter.{meter_faults, length_faults}
use Rattle.songcode.specs.Answer.Lyrics.{count_faults, sum_faults}

-- Stages 6 and 7; 4 to 7; 3 to 7.
unfoldable pub lyric_faults : Song → List (List Complaint)
lyric_faults s = count_faults s ∷ sum_faults s ∷ []

unfoldable pub playing_faults : Song → List (List Complaint)
unfolding lyric_faults
playing_faults s = meter_faults s ∷ length_faults s 0 s.sections ∷ lyric_faults s

unfoldable pub later_faults : Song → List (List Complaint)
unfolding playing_faults
later_faults s = reference_faults s ∷ playing_faults s

-- Stages 1 and 2 complain of nothing, and the tokens of pattern lines are kept in the row; or one of them refuses.
abbrev pub Passes : List ℕ → List ℕ → Result (Unit {0}) Refusal → Type 0
Passes s ws r =
    MatchResult r (λ _. (input_faults s ≡ []) × (text_faults (blocks_of s) ≡ []) × KeptFrom s ws 0)
    (λ e. told (Some e) ≡ verdict (input_faults s ∷ text_faults (blocks_of s) ∷ []))
