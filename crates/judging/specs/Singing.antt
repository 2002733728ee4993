-- What stages 6 and 7 sum up from section to section, where the stages before refuse nothing.
use Rattle.std.specs.Prelude.{ℕ, ◌+◌, ◌≤◌, Bool, not, ◌&&◌, List, eqb, Option, Some, None}
use Rattle.songcode.specs.Lists.{provided◌then◌else◌}
use Rattle.refusals.specs.declared.Refusal.{Refusal}
use Rattle.refusals.specs.declared.names.Why.TheVariants.{CountSum}
use Rattle.std.specs.Option.{option_or}
use Rattle.player.specs.declared.playing.Counts.{Counts}
use Rattle.laying.specs.declared.texts.Opened.{Opened}
use Rattle.judging.specs.declared.lyrics.Tally.{Tally}
use Rattle.judging.specs.declared.sums.Sums.{Sums}
use Rattle.judging.specs.declared.singing.Sung.{Sung}
use Rattle.judging.specs.Lyrics.{Inside, tally_in, taken_with, count_fault}
use Rattle.judging.specs.Sums.{TextsWithin, counts_of, has_prompts, sum_differs, with_section}

-- The first header whose section's counts do not sum to its measures; 0 is none.
unfoldable pub off_with : ℕ → Bool → ℕ → ℕ
unfolding provided◌then◌else◌
off_with off differs header = provided eqb off 0 then (provided differs then header else 0) else off

-- With one more section: its lyric lines, and what it plays.
unfoldable pub sung_with : Bool → ℕ → Tally → Counts → Sung → Sung
unfolding taken_with off_with
sung_with empty header t c y =
    record {
      taken = taken_with empty y.taken t;
      off = off_with y.off (sum_differs empty t c.measures) header;
      sums = with_section y.sums c t.lines (has_prompts empty t);
    }

-- The sums stay small.
pub record Addable (x : Sums) (c : Counts) (t : Tally) : Type 0 where
  pub sections : x.sections ≤ 65536
  pub measures : x.measures + c.measures ≤ 65536
  pub beats : x.beats + c.beats ≤ 2097152
  pub lines : x.lines + t.lines ≤ 4295032832

-- The section that is opened can be counted.
pub record Singable (ws : List ℕ) (n : ℕ) (x : Opened) (y : Sung) : Type 0 where
  pub lyrics : Inside ws x.lyrics
  pub plays : TextsWithin ws n x.texts x.section.modifiers 0
  pub sums : Addable y.sums (counts_of ws n x.texts x.section.modifiers) (tally_in ws x.lyrics)

-- What stage 7 refuses, where the lines have counts.
unfoldable pub off_fault : Bool → ℕ → Option Refusal
unfolding provided◌then◌else◌
off_fault counted off = provided counted && not (eqb off 0) then Some (record { why = CountSum; line = off }) else None

abbrev pub lyric_refusal : Sung → Option Refusal
lyric_refusal y = option_or (count_fault y.taken) (off_fault y.taken.counted y.off)
