-- The songs of the list have the copies that stand beside them: one run over the whole list.
use mathlib.Core.Path.{◌≡◌, refl}
use mathlib.Core.List.{map}
use mathlib.Core.Option.{some}
use Rattle.songcode.specs.Bytes.{ascii}
use Rattle.songcode.specs.Answer.Flat.{copy_of}
use Rattle.songcode.specs.FlatCharts.{flat_charts}

pub charts_copied : map (λ c. copy_of (ascii c.song)) flat_charts ≡ map (λ c. some (ascii c.copy)) flat_charts
unfolding flat_charts copy_of ascii
charts_copied = refl
