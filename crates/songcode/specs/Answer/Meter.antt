-- Stages 4 and 5: measures that fit N, `%` with a chord before it, the song's length, and cuts that leave a beat.
use Rattle.std.specs.Prelude.{ℕ, ◌+◌, ◌*◌, ◌%◌, Bool, true, false, ◌||◌, ◌&&◌, not, eqb, leb, ltb}
use mathlib.Core.List.{List, [], ◌∷◌, ◌++◌, flat_map}
use Rattle.std.proofs.Math.Option.{Option, none, some}
use Rattle.songcode.specs.Lists.{is_empty, is_some}
use Rattle.songcode.specs.Complaints.{Complaint, complain_if}
use Rattle.songcode.specs.Answer.Chords.{Chord}
use Rattle.songcode.specs.Song.{Sound, chord, again, silence, Sounds, only, also, Measure, Item, measure, loop, refer, Items, one, next}
use Rattle.songcode.specs.Song.{Section, Song, Side, Modifiers}
use Rattle.songcode.specs.Answer.References.{pattern_items}
use Rattle.songcode.specs.Answer.Playing.{time_of, positions, last_sounds, last_items, repeats, kept_measures}

-- "A measure of p positions needs p to divide N".
unfoldable pub fits : ℕ → Measure → Bool
unfolding positions
fits n m = eqb (n % positions m) 0

unfoldable mutual
  unfolding fits

  pub all_fit_item : ℕ → Item → Bool
  all_fit_item n (measure m) = fits n m
  all_fit_item n (loop r k) = all_fit n r
  all_fit_item n (refer k) = true

  pub all_fit : ℕ → Items → Bool
  all_fit n (one i) = all_fit_item n i
  all_fit n (next r s i) = all_fit n r && all_fit_item n i

-- "`%` with no chord before"
unfoldable pub strays : Option Chord → Sound → Bool
unfolding is_some
strays last (chord c) = false
strays last again = not (is_some last)
strays last silence = false

unfoldable pub stray_among : Option Chord → Sounds → Bool
unfolding strays last_sounds
stray_among last (only s) = strays last s
stray_among last (also ss s) = stray_among last ss || strays (last_sounds last ss) s

unfoldable mutual
  unfolding stray_among last_items

  pub stray_item : Option Chord → Item → Bool
  stray_item last (measure m) = stray_among last m.sounds
  stray_item last (loop r n) = stray last r
  stray_item last (refer n) = false

  pub stray : Option Chord → Items → Bool
  stray last (one i) = stray_item last i
  stray last (next r s i) = stray last r || stray_item (last_items last r) i

-- 12: "p doesn't divide N"; 13: "`%` with no chord before"; on the header, or on the line of a lead-in or tail.
unfoldable pub row_faults : ℕ → ℕ → Items → List Complaint
unfolding complain_if all_fit stray
row_faults n l r = complain_if (not (all_fit n r)) 12 l ++ complain_if (stray none r) 13 l

-- "A pattern is judged only where it is played, in that section's N; a lead-in or tail always."
unfoldable pub played_faults : ℕ → ℕ → Option Items → List Complaint
unfolding row_faults
played_faults n header none = []
played_faults n header (some r) = row_faults n header r

unfoldable pub side_faults : ℕ → Option Side → List Complaint
unfolding row_faults
side_faults n none = []
side_faults n (some x) = row_faults n x.line x.items

unfoldable pub section_meter : Song → Section → List Complaint
unfolding played_faults side_faults time_of pattern_items
section_meter s x =
    played_faults (time_of s x) x.header (pattern_items s.definitions x.pattern)
    ++ side_faults (time_of s x) x.modifiers.before
    ++ side_faults (time_of s x) x.modifiers.after

unfoldable pub meter_faults : Song → List Complaint
unfolding flat_map section_meter
meter_faults s = flat_map (section_meter s) s.sections

-- How many measures a row has, its loops written out. "A shortened measure counts as one measure."
unfoldable mutual
  pub count_item : Item → ℕ
  count_item (measure m) = 1
  count_item (loop r n) = n * count r
  count_item (refer n) = 0

  pub count : Items → ℕ
  count (one i) = count_item i
  count (next r s i) = count r + count_item i

unfoldable pub measures_in : Option Items → ℕ
unfolding count
measures_in none = 0
measures_in (some r) = count r

unfoldable pub side_count : Option Side → ℕ
unfolding count
side_count none = 0
side_count (some x) = count x.items

-- A section's measures, "lead-ins and tails in, before cuts".
unfoldable pub section_count : Song → Section → ℕ
unfolding measures_in side_count repeats pattern_items
section_count s x =
    side_count x.modifiers.before
    + repeats x.modifiers * measures_in (pattern_items s.definitions x.pattern)
    + side_count x.modifiers.after

unfoldable pub most_measures : ℕ
most_measures = 65535

-- Some modifier is there.
unfoldable pub any_said : Modifiers → Bool
unfolding is_some
any_said m = is_some m.repeat || is_some m.cut_start || is_some m.cut_end || is_some m.before || is_some m.after

-- 15: "cuts leave no beat, or a modifier on an empty pattern".
unfoldable pub cut_faults : ℕ → ℕ → Modifiers → Option Items → List Complaint
unfolding complain_if any_said is_empty kept_measures
cut_faults n header ms none = complain_if (any_said ms) 15 header
cut_faults n header ms (some r) = complain_if (is_empty (kept_measures n ms (some r))) 15 header

-- 14: "song passes 65,535 measures", on the header "where it passes".
unfoldable pub length_faults : Song → ℕ → List Section → List Complaint
unfolding complain_if section_count most_measures cut_faults time_of pattern_items
length_faults s sofar [] = []
length_faults s sofar (x ∷ xs) =
    complain_if (leb sofar most_measures && ltb most_measures (sofar + section_count s x)) 14 x.header
    ++ cut_faults (time_of s x) x.header x.modifiers (pattern_items s.definitions x.pattern)
    ++ length_faults s (sofar + section_count s x) xs
