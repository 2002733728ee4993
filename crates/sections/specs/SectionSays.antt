-- What is read of a section is what songcode says of it.
use Rattle.std.specs.Prelude.{ℕ, ◌≡◌, List, map}
use Rattle.std.proofs.Math.Option.{Option, some, get_or, bind}
use Rattle.songcode.specs.Song.{Items, named, Section, Side}
use Rattle.songcode.specs.Answer.PatternText.{side_text}
use Rattle.songcode.specs.Answer.Sections.{pattern_in, lyric_line}
use Rattle.songcode.specs.Answer.Playing.{time_among, bpm_among, repeats}
use Rattle.settings.specs.Cuts.{cut_is}
use Rattle.sections.specs.declared.blocks.Parts.{Parts}
use Rattle.sections.specs.declared.blocks.SectionRead.{SectionRead}
use Rattle.sections.specs.Runs.{lines_of}
use Rattle.sections.specs.Slots.{Setting, setting_at}

-- A lead-in or tail of a setting: its line and its items.
unfoldable pub side_on : ℕ → Option Items → Option Side
unfolding bind
side_on n o = bind o (λ r. some (record { line = n; items = r }))

unfoldable pub side_said : Setting → Option Side
unfolding side_on side_text
side_said x = side_on x.line (side_text x.text)

-- The parts of a section tell its header and its lyrics.
pub record PartsSay (s : List ℕ) (x : Section) (r : Parts) : Type 0 where
  pub header : r.header ≡ x.header
  pub lyrics : map lyric_line (lines_of s r.lyrics) ≡ x.lyrics

pub record SectionSays (s : List ℕ) (x : Section) (r : SectionRead) : Type 0 where
  pub header : r.header ≡ x.header
  pub time : r.keys.time ≡ get_or (time_among x.keys) 0
  pub bpm : r.keys.bpm ≡ get_or (bpm_among x.keys) 511
  pub repeat : r.modifiers.repeat ≡ repeats x.modifiers
  pub front : r.modifiers.front ≡ cut_is x.modifiers.cut_start
  pub back : r.modifiers.back ≡ cut_is x.modifiers.cut_end
  pub before : bind (setting_at s r.modifiers.before) side_said ≡ x.modifiers.before
  pub after : bind (setting_at s r.modifiers.after) side_said ≡ x.modifiers.after
  pub pattern : get_or (pattern_in (lines_of s r.pattern)) (named 0) ≡ x.pattern
  pub lyrics : map lyric_line (lines_of s r.lyrics) ≡ x.lyrics
