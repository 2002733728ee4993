-- How many measures the text of an outline has, if each of them has N beats; else 0.
use Rattle.std.specs.Prelude.{ℕ, ◌&&◌, leb}
use Rattle.songcode.specs.Lists.{provided◌then◌else◌}
use Rattle.outlines.specs.declared.readings.Outline.{Outline}
use Rattle.outlines.specs.Sizes.{divides}

unfoldable pub even_in : Outline → ℕ → ℕ
unfolding provided◌then◌else◌ divides
even_in o n = provided o.whole && (divides o.sizes n && leb o.measures 65535) then o.measures else 0
