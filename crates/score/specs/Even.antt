-- Patterns whose measures all have N beats: for these cuts and counts need no walk.
use Rattle.std.specs.Prelude.{ℕ, Bool, true, ◌&&◌, eqb, leb}
use Rattle.std.proofs.Math.Option.{Option, none, some}
use Rattle.songcode.specs.Lists.{provided◌then◌else◌}
use Rattle.songcode.specs.Song.{Item, measure, loop, refer, Items, one, next, Section, Song}
use Rattle.songcode.specs.Answer.References.{pattern_items}
use Rattle.songcode.specs.Answer.Playing.{time_of}
use Rattle.songcode.specs.Answer.Meter.{all_fit, count, most_measures}

-- "each remover takes N/p away": no measure has one.
unfoldable mutual
  pub is_whole_item : Item → Bool
  is_whole_item (measure m) = eqb m.removers 0
  is_whole_item (loop r n) = is_whole r
  is_whole_item (refer n) = true

  pub is_whole : Items → Bool
  is_whole (one i) = is_whole_item i
  is_whole (next r s i) = is_whole r && is_whole_item i

-- How many measures there are, if each has N beats and a song may have so many; else 0.
unfoldable pub even_measures : ℕ → Option Items → ℕ
unfolding provided◌then◌else◌ is_whole all_fit count most_measures
even_measures n none = 0
even_measures n (some r) = provided is_whole r && all_fit n r && leb (count r) most_measures then count r else 0

-- Those of a section's pattern, its reference put in.
unfoldable pub even_pattern : Song → Section → ℕ
unfolding even_measures time_of pattern_items
even_pattern s x = even_measures (time_of s x) (pattern_items s.definitions x.pattern)
