-- The two cuts in either order, and the beats of a section counted from its text alone. The record at the end holds both statements, on this
-- page are all words that they need beside the description's: `CutsFront`, `CutsBack` and `Parts` of `Performance`.
use Rattle.std.specs.Prelude.{ℕ, ◌+◌, ◌-◌, ◌*◌, ◌/◌, ◌≤◌, ◌≡◌, refl, ◌↔◌, List, [], ◌∷◌, ◌++◌, map, length, take, drop}
use Prim.Native.String.{String}
use Rattle.std.proofs.Math.Option.{Option, none, some}
use Rattle.songcode.specs.Lists.{times, sum}
use Rattle.songcode.specs.Bytes.{ascii}
use Rattle.songcode.specs.Song.{Measure, Item, measure, loop, refer, Items, one, next, Cut, Section, Song, Side}
use Rattle.songcode.specs.Answer.Modifiers.{cut}
use Rattle.songcode.specs.Answer.References.{pattern_items}
use Rattle.songcode.specs.Answer.Playing.{time_of, positions, cut_front, cut_back}
use Rattle.songcode.specs.Answer.Tables.{Tables}
use Rattle.songcode.specs.Answer.Answer.{Room, song_of}
use Rattle.songcode.specs.Description.WrittenSection.{Each}
use Rattle.songcode.specs.Description.Performance.{as_often, total, CutsFront, CutsBack, Parts, joined}
use Rattle.songcode.specs.Description.Described.{Described}
use Rattle.songcode.specs.Starred.{plays, Claim}

module _ {A : Type 0} where
  -- "measures that each have at least one beat"
  unfoldable pub Filled : List (List A) → Type 0
  Filled [] = Unit {0}
  Filled (m ∷ row) = (1 ≤ length m) × Filled row

  -- What is kept of a row when the front cut is taken first, and when the back cut is. No row is kept where no beat is left.
  unfoldable pub FrontFirst : Cut → Cut → List (List A) → List (List A) → Type 0
  FrontFirst front back row kept = (mid : List (List A)) × CutsFront front row mid × CutsBack back mid kept

  unfoldable pub BackFirst : Cut → Cut → List (List A) → List (List A) → Type 0
  BackFirst front back row kept = (mid : List (List A)) × CutsBack back row mid × CutsFront front mid kept

-- "each counted from the text alone": a measure of p positions, r of them removers, has (p - r) x N / p beats.
unfoldable pub measure_beats : ℕ → Measure → ℕ
unfolding positions
measure_beats n m = ((positions m - m.removers) * n) / positions m

-- The beats of a text, its references put in: loops multiply.
unfoldable mutual
  unfolding measure_beats

  pub item_beats : ℕ → Item → ℕ
  item_beats n (measure m) = measure_beats n m
  item_beats n (loop r k) = k * text_beats n r
  item_beats n (refer k) = 0

  pub text_beats : ℕ → Items → ℕ
  text_beats n (one i) = item_beats n i
  text_beats n (next r s i) = text_beats n r + item_beats n i

-- The beats of each of its measures, in order.
unfoldable mutual
  unfolding measure_beats times

  pub item_widths : ℕ → Item → List ℕ
  item_widths n (measure m) = measure_beats n m ∷ []
  item_widths n (loop r k) = times k (text_widths n r)
  item_widths n (refer k) = []

  pub text_widths : ℕ → Items → List ℕ
  text_widths n (one i) = item_widths n i
  text_widths n (next r s i) = text_widths n r ++ item_widths n i

-- "A cut `m-b` names the beats of the m measures at its end of the whole repeated row, plus b." Where there is no cut, none is named.
unfoldable pub named_front : Option Cut → List ℕ → ℕ
unfolding sum
named_front none widths = 0
named_front (some c) widths = sum (take c.whole.measures widths) + c.further.beats

unfoldable pub named_back : Option Cut → List ℕ → ℕ
unfolding sum
named_back none widths = 0
named_back (some c) widths = sum (drop (length widths - c.whole.measures) widths) + c.further.beats

-- A section's lead-in or tail, its pattern, and the whole repeated row of it; an empty pattern has no measures.
unfoldable pub side_beats : ℕ → Option Side → ℕ
unfolding text_beats
side_beats n none = 0
side_beats n (some x) = text_beats n x.items

unfoldable pub pattern_beats : ℕ → Option Items → ℕ
unfolding text_beats
pattern_beats n none = 0
pattern_beats n (some r) = text_beats n r

unfoldable pub repeated_widths : ℕ → ℕ → Option Items → List ℕ
unfolding text_widths times
repeated_widths n k none = []
repeated_widths n k (some r) = times k (text_widths n r)

-- "repeat times the pattern's beats, plus lead-in and tail"
unfoldable pub beats_written : Song → Section → ℕ → ℕ
unfolding pattern_beats side_beats as_often pattern_items
beats_written s x n =
    as_often x.modifiers * pattern_beats n (pattern_items s.definitions x.pattern)
    + side_beats n x.modifiers.before
    + side_beats n x.modifiers.after

-- "the beats the cuts name"
unfoldable pub beats_named : Song → Section → ℕ → ℕ
unfolding named_front named_back repeated_widths as_often pattern_items
beats_named s x n =
    named_front x.modifiers.cut_start (repeated_widths n (as_often x.modifiers) (pattern_items s.definitions x.pattern))
    + named_back x.modifiers.cut_end (repeated_widths n (as_often x.modifiers) (pattern_items s.definitions x.pattern))

-- What a section plays and what its cuts name are together what is written. (The cuts stand beside the beats played, so that "less" never stops at 0.)
unfoldable pub BeatsCounted : Song → Section → Parts → Type 0
unfolding beats_written beats_named total joined
BeatsCounted s x p = total (joined p) + beats_named s x p.meter ≡ beats_written s x p.meter

-- The waltz of the customer's letter: "a cut of one measure and two beats for a waltz section in a song otherwise in four".
abbrev pub waltz : String
waltz = "Verse\nG;C\n\nBridge\n@time 3/4\nAm;D7;G;C\n_cutStart 1-2"

abbrev pub waltz_measures : List String
waltz_measures = "G .G .G .G" ∷ "C .C .C .C" ∷ ".D7" ∷ "G .G .G" ∷ "C .C .C" ∷ []

pub record EitherOrder : Type 1 where
  -- "for every row of measures that each have at least one beat, and every two cuts, taking the front first or the back first leaves the same
  -- measures and beats, or none in both orders": said of the description, where a row that is kept has a beat, and of what the answer does.
  pub either_order : {A : Type 0} (front back : Cut) (row kept : List (List A)) → Filled row → FrontFirst front back row kept ↔ BackFirst front back row kept
  pub cuts_commute : {A : Type 0} (front back : Cut) (row : List (List A)) → Filled row
      → cut_back back (cut_front front row) ≡ cut_front front (cut_back back row)
  -- "the beats of an accepted section are repeat times the pattern's beats, plus lead-in and tail, less the beats the cuts name"
  pub beats_counted : (room : Room) (bs : List ℕ) (t : Tables) (d : Described room bs t) → Each (BeatsCounted d.song) d.song.sections d.parts
  -- The waltz is played in three: its bridge begins on the last beat of its second measure.
  pub waltz_plays : Claim (plays waltz waltz_measures)

-- The beats of each section of a chart as they are counted, in that section's own meter.
abbrev written : String → List ℕ
written chart = let song = song_of (ascii chart) in map (λ x. beats_written song x (time_of song x)) song.sections

abbrev beats_cut : String → List ℕ
beats_cut chart = let song = song_of (ascii chart) in map (λ x. beats_named song x (time_of song x)) song.sections

-- The waltz's cut names five beats, three of the measure and two further ones: twelve are written and seven played. In four it would name six.
waltz_counted : (written waltz ≡ 8 ∷ 12 ∷ []) × (beats_cut waltz ≡ 0 ∷ 5 ∷ [])
unfolding beats_written beats_named song_of time_of ascii
waltz_counted = (refl, refl)

waltz_in_four : beats_cut "Bridge\nAm;D7;G;C\n_cutStart 1-2" ≡ 6 ∷ []
unfolding beats_named song_of time_of ascii
waltz_in_four = refl

-- A short measure, repeated: the row has 4, 2, 4, 2, 4 and 2 beats. The front cut names 4 + 1, the back cut 2 + 4 + 2 + 1, and four are played.
abbrev short : String
short = "V\nA;G =\n_repeat 3\n_cutStart 1-1\n_cutEnd 3-1"

short_counted : (written short ≡ 18 ∷ []) × (beats_cut short ≡ 14 ∷ [])
unfolding beats_written beats_named song_of time_of ascii
short_counted = (refl, refl)

-- The same cut at both ends of the row of the waltz: in either order two beats are left; none where the back cut has a measure more.
abbrev beats : List (List ℕ)
beats = (1 ∷ 2 ∷ 3 ∷ []) ∷ (4 ∷ 5 ∷ 6 ∷ []) ∷ (7 ∷ 8 ∷ 9 ∷ []) ∷ (10 ∷ 11 ∷ 12 ∷ []) ∷ []

front_first : cut_back (cut 1 2) (cut_front (cut 1 2) beats) ≡ (6 ∷ []) ∷ (7 ∷ []) ∷ []
unfolding cut_back cut_front cut
front_first = refl

back_first : cut_front (cut 1 2) (cut_back (cut 1 2) beats) ≡ (6 ∷ []) ∷ (7 ∷ []) ∷ []
unfolding cut_back cut_front cut
back_first = refl

none_either_way : (cut_back (cut 2 2) (cut_front (cut 1 2) beats) ≡ []) × (cut_front (cut 1 2) (cut_back (cut 2 2) beats) ≡ [])
unfolding cut_back cut_front cut
none_either_way = (refl, refl)
