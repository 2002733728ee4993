-- The eight words in the row behind the sections are the keys, and the walk over the sections writes the other four tables.
use mathlib.Core.Path.{ap, ◌∙◌}
use mathlib.Core.List.{List}
use Prim.Native.Nat.{ℕ}
use lib.Seq.{sets}
use Rattle.songcode.specs.Answer.Tables.{tables}
use Rattle.judging.proofs.WholeLaws.{laid_keys, keys_inside}
use Rattle.writing.proofs.write_tables.Goals as goal

pub write_keys-requires : goal.write_keys-requires
write_keys-requires c =
    (keys_inside c.requires.chart.laid, c.requires.room.0)

pub write_song-requires : goal.write_song-requires
write_song-requires c =
    let w = c.requires.chart in record {
      song = (w.laid, w.holds.items);
      room = c.requires.room.1;
    }

pub returns : goal.returns
unfolding tables
returns c = record {
  keys = c.write_keys.ensures ∙ ap (λ (ws : List ℕ). sets c.args.keys.now 0 ws) (laid_keys c.requires.chart.laid);
  sections = c.write_song.ensures.sections;
  measures = c.write_song.ensures.measures;
  beats = c.write_song.ensures.beats;
  items = c.write_song.ensures.items;
}
