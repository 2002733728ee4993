-- The definitions answer every chart of `Shown` with its words: one run over the whole list.
use mathlib.Core.Path.{◌≡◌, refl}
use mathlib.Core.List.{map}
use Rattle.songcode.specs.Answer.Answer.{accepted, answer}
use Rattle.songcode.specs.Edges.{ample}
use Rattle.songcode.specs.Shown.{shown}

pub shown_proved : map (λ e. answer ample e.chart) shown ≡ map (λ e. accepted e.tables) shown
unfolding shown answer
shown_proved = refl
