-- Every chart of `Shown` has its row: one run over the whole list.
use mathlib.Core.Path.{◌≡◌, refl}
use mathlib.Core.List.{map}
use Rattle.songcode.specs.Answer.Answer.{song_of}
use Rattle.outlines.specs.Rows.{score_of}
use Rattle.outlines.specs.Shown.{shown}

pub shown_proved : map (λ e. score_of (song_of e.chart)) shown ≡ map (λ e. e.row) shown
unfolding shown score_of song_of
shown_proved = refl
