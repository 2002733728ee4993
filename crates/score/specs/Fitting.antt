-- When every field of a section has room in its bits, and its texts can be played from their words.
use Rattle.std.specs.Prelude.{ℕ, ◌<◌, ◌≤◌, ◌≡◌, List, [], ◌∷◌, length}
use Rattle.std.proofs.Math.Option.{Option, none, some, get_or}
use Rattle.songcode.specs.Song.{Items, Cut, Side, Pattern, items, named, LyricLine, Section, Song}
use Rattle.songcode.specs.Answer.PatternText.{depth, loops_deep, references}
use Rattle.songcode.specs.Answer.Playing.{time_of, bpm_of, repeats}
use Rattle.songcode.specs.Answer.Lyrics.{Styled, words_of, styled, count_of}
use Rattle.songcode.specs.Answer.Tables.{offset}
use Rattle.score.specs.Standing.{ItemsFit}
use Rattle.score.specs.Sections.{side_row}

-- Items that hold no reference, with loops within the limit.
pub record PlainFits (r : Items) : Type 0 where
  pub words : ItemsFit r
  pub shallow : depth r ≤ loops_deep
  pub plain : references r ≡ []

unfoldable pub SideFits : Option Side → Type 0
SideFits none = Unit {0}
SideFits (some x) = PlainFits x.items

unfoldable pub PatternFits : Pattern → Type 0
PatternFits (items r) = PlainFits r
PatternFits (named n) = (1 ≤ n) × (n ≤ 9999)

unfoldable pub CutSmall : Option Cut → Type 0
CutSmall none = Unit {0}
CutSmall (some c) = (c.whole.measures ≤ 9999) × (c.further.beats ≤ 9999)

-- The text of a lyric line, its number, count and style.
pub record LyricBounds (number count : ℕ) (w : Styled) : Type 0 where
  pub place : offset w.text < 65536
  pub short : length w.text < 65536
  pub first : 1 ≤ number
  pub last : number ≤ 65536
  pub few : count ≤ 9999
  pub style : w.style ≤ 2

unfoldable pub LyricFits : LyricLine → Type 0
LyricFits l = LyricBounds l.number (get_or (count_of l) 0) (styled (words_of l.text).text)

unfoldable pub LyricsFit : List LyricLine → Type 0
unfolding LyricFits
LyricsFit [] = Unit {0}
LyricsFit (l ∷ ls) = LyricFits l × LyricsFit ls

pub record SectionFits (s : Song) (x : Section) : Type 0 where
  pub meter : time_of s x ≤ 32
  pub tempo : bpm_of s x ≤ 511
  pub first : 1 ≤ x.header
  pub last : x.header ≤ 65536
  pub repeat : repeats x.modifiers ≤ 9999
  pub front : CutSmall x.modifiers.cut_start
  pub back : CutSmall x.modifiers.cut_end
  pub lead_few : length (side_row x.modifiers.before) < 65536
  pub tail_few : length (side_row x.modifiers.after) < 65536
  pub lyrics_few : length x.lyrics < 65536
  pub lead : SideFits x.modifiers.before
  pub pattern : PatternFits x.pattern
  pub tail : SideFits x.modifiers.after
  pub lyrics : LyricsFit x.lyrics

unfoldable pub SectionsFit : Song → List Section → Type 0
SectionsFit s [] = Unit {0}
SectionsFit s (x ∷ xs) = SectionFits s x × SectionsFit s xs
