-- "What stops a chart", rows 1 and 2 of the bytes and 10 to 18 of the described song, clause by clause, in the table's words.
use Rattle.std.specs.Prelude.{ℕ, ◌+◌, ◌*◌, ◌<◌, ◌≤◌, ◌≡◌, ◌⊎◌, length}
use mathlib.Core.List.{List, [], ◌∷◌, ◌++◌, Memᴰ}
use Rattle.std.proofs.Math.Option.{Option, none, some}
use Rattle.songcode.specs.Lists.{sum}
use Rattle.songcode.specs.Bytes.{Byte, placed}
use Rattle.songcode.specs.Complaints.{Complaint, complaint}
use Rattle.songcode.specs.Song.{Sound, chord, again, silence, Sounds, only, also, Measure, Item, measure, loop, refer, Items, one, next, named, time}
use Rattle.songcode.specs.Song.{unmodified, LyricLine, Definition, Section, Song, Beat}
use Rattle.songcode.specs.Answer.PatternText.{references}
use Rattle.songcode.specs.Answer.References.{pattern_items}
use Rattle.songcode.specs.Answer.Tables.{Tables}
use Rattle.songcode.specs.Answer.Answer.{Room}
use Rattle.songcode.specs.Description.WrittenText.{FirstBad, Cuts}
use Rattle.songcode.specs.Description.WrittenSection.{TimeText, Each}
use Rattle.songcode.specs.Description.WrittenLyrics.{CountedLine}
use Rattle.songcode.specs.Description.Performance.{Inherits, as_often, Parts, PlaysAlone, PlaysSide, PlaysPattern, PlaysSection, joined}
use Rattle.songcode.specs.Description.Fits.{Counted}
use Rattle.songcode.specs.Description.WrittenTables.{WrittenTables}

-- Stage 1.
pub data Stops1 (bs : List ℕ) : Complaint → Type 0 where
  -- 1: "over 65,536 bytes", line 0
  over_long : 65536 < length bs → Stops1 bs (complaint 1 0)
  -- 2: "bad UTF-8 or zero byte (after 1)", on the line "of the first place, read character by character, with a zero or no whole character":
  -- the last line of the text before it
  bad_bytes : (place : ℕ) (stuck : FirstBad bs place) (lines : List (List Byte)) → length bs ≤ 65536 → place < length bs
      → Cuts (placed 0 stuck.front) lines → Stops1 bs (complaint 2 (length lines))

-- References that stand in a loop; items that hold a loop.
unfoldable pub InLoopItem : ℕ → Item → Type 0
InLoopItem n (measure m) = ⊥
InLoopItem n (loop r k) = Memᴰ n (references r)
InLoopItem n (refer k) = ⊥

unfoldable pub InLoop : ℕ → Items → Type 0
unfolding InLoopItem
InLoop n (one i) = InLoopItem n i
InLoop n (next r s i) = InLoop n r ⊎ InLoopItem n i

unfoldable pub IsLoop : Item → Type 0
IsLoop (measure m) = ⊥
IsLoop (loop r k) = Unit {0}
IsLoop (refer k) = ⊥

unfoldable pub HoldsLoop : Items → Type 0
unfolding IsLoop
HoldsLoop (one i) = IsLoop i
HoldsLoop (next r s i) = HoldsLoop r ⊎ IsLoop i

-- A definition that refers to `$n`, with the definitions before it.
pub record RefersTo (s : Song) (d : Definition) (r : Items) (before : List Definition) : Type 0 where
  pub behind : List Definition
  pub written : s.definitions ≡ before ++ (d ∷ behind)
  pub text : d.items ≡ some r

-- Stage 3, on the block's first line.
pub data Stops3 (s : Song) : Complaint → Type 0 where
  -- 10: "reference not defined earlier"
  undefined : (d : Definition) (r : Items) (before : List Definition) (n : ℕ) → RefersTo s d r before → Memᴰ n (references r)
      → ((e : Definition) → Memᴰ e before → e.id ≡ n → ⊥) → Stops3 s (complaint 10 d.head)
  undefined_named : (x : Section) (n : ℕ) → Memᴰ x s.sections → x.pattern ≡ named n
      → ((e : Definition) → Memᴰ e s.definitions → e.id ≡ n → ⊥) → Stops3 s (complaint 10 x.header)
  -- 11: "reference too deep": "a definition that holds a reference can't itself be referred to by a definition"
  too_deep_lem : (d e : Definition) (r q : Items) (before : List Definition) (n : ℕ) → RefersTo s d r before → Memᴰ e.id (references r) → Memᴰ e before
      → e.items ≡ some q → Memᴰ n (references q) → Stops3 s (complaint 11 d.head)
  -- 11: "making a loop in a loop"
  loop_in_loop : (d e : Definition) (r q : Items) (before : List Definition) → RefersTo s d r before → InLoop e.id r → Memᴰ e before → e.items ≡ some q
      → HoldsLoop q → Stops3 s (complaint 11 d.head)
  -- 11: "or from a definition to an empty one"
  to_empty : (d e : Definition) (r : Items) (before : List Definition) → RefersTo s d r before → Memᴰ e.id (references r) → Memᴰ e before
      → e.items ≡ none → Stops3 s (complaint 11 d.head)

-- A measure of a row; what its positions sound, "in the written order of its own text".
unfoldable mutual
  pub MeasureOf : Measure → Item → Type 0
  MeasureOf m (measure k) = m ≡ k
  MeasureOf m (loop r k) = MeasureIn m r
  MeasureOf m (refer k) = ⊥

  pub MeasureIn : Measure → Items → Type 0
  MeasureIn m (one i) = MeasureOf m i
  MeasureIn m (next r s i) = MeasureIn m r ⊎ MeasureOf m i

unfoldable pub sounds_written : Sounds → List Sound
sounds_written (only s) = s ∷ []
sounds_written (also ss s) = sounds_written ss ++ (s ∷ [])

-- The positions of a measure: those that sound, and its removers.
unfoldable pub places : Measure → ℕ
unfolding sounds_written
places m = length (sounds_written m.sounds) + m.removers

unfoldable mutual
  unfolding sounds_written

  pub item_written : Item → List Sound
  item_written (measure m) = sounds_written m.sounds
  item_written (loop r k) = items_written r
  item_written (refer k) = []

  pub items_written : Items → List Sound
  items_written (one i) = item_written i
  items_written (next r s i) = items_written r ++ item_written i

-- "silence isn't a chord", and neither is `%`.
unfoldable pub NoChord : List Sound → Type 0
NoChord [] = Unit {0}
NoChord (chord c ∷ ss) = ⊥
NoChord (again ∷ ss) = NoChord ss
NoChord (silence ∷ ss) = NoChord ss

pub record AgainFirst (r : Items) : Type 0 where
  pub front : List Sound
  pub back : List Sound
  pub written : items_written r ≡ front ++ (again ∷ back)
  pub none_before : NoChord front

-- A row in N, refused on a line. 12: "p doesn't divide N"; 13: "`%` with no chord before".
pub data RowStops (n line : ℕ) (r : Items) : Complaint → Type 0 where
  undivided : (m : Measure) → MeasureIn m r → ((k : ℕ) → k * places m ≡ n → ⊥) → RowStops n line r (complaint 12 line)
  again_first : AgainFirst r → RowStops n line r (complaint 13 line)

-- Stage 4: "header; lead-in, tail: own". "A pattern is judged only where it is played, in that section's N; a lead-in or tail always."
pub data Stops4 (s : Song) : Complaint → Type 0 where
  of_pattern_lem : {c : Complaint} (x : Section) (n : ℕ) (r : Items) → Memᴰ x s.sections → Inherits time TimeText 4 s x n
      → pattern_items s.definitions x.pattern ≡ some r → RowStops n x.header r c → Stops4 s c
  of_lead_in : {c : Complaint} (x : Section) (n line : ℕ) (r : Items) → Memᴰ x s.sections → Inherits time TimeText 4 s x n
      → x.modifiers.before ≡ some (record { line = line; items = r }) → RowStops n line r c → Stops4 s c
  of_tail : {c : Complaint} (x : Section) (n line : ℕ) (r : Items) → Memᴰ x s.sections → Inherits time TimeText 4 s x n
      → x.modifiers.after ≡ some (record { line = line; items = r }) → RowStops n line r c → Stops4 s c

-- A section's measures, "lead-ins and tails in, before cuts".
unfoldable pub PlaysPass : ℕ → Option Items → List (List Beat) → Type 0
PlaysPass n none pass = pass ≡ []
PlaysPass n (some r) pass = PlaysAlone n r pass

pub record Uncut (s : Song) (x : Section) (measures : ℕ) : Type 0 where
  pub meter : ℕ
  pub lead_in : List (List Beat)
  pub pass : List (List Beat)
  pub tail : List (List Beat)
  pub inherits : Inherits time TimeText 4 s x meter
  pub leads : PlaysSide meter x.modifiers.before lead_in
  pub passes : PlaysPass meter (pattern_items s.definitions x.pattern) pass
  pub tails : PlaysSide meter x.modifiers.after tail
  pub counts : measures ≡ length lead_in + as_often x.modifiers * length pass + length tail

-- Stage 5, on the header.
pub data Stops5 (s : Song) : Complaint → Type 0 where
  -- 14: "song passes 65,535 measures ...", "header where it passes"
  too_long : (front behind : List Section) (x : Section) (counts : List ℕ) (measures : ℕ) → s.sections ≡ front ++ (x ∷ behind) → Each (Uncut s) front counts
      → Uncut s x measures → sum counts ≤ 65535 → 65535 < sum counts + measures → Stops5 s (complaint 14 x.header)
  -- 15: "cuts leave no beat"
  no_beat : (x : Section) (n : ℕ) (r : Items) (pass : List (List Beat)) → Memᴰ x s.sections → Inherits time TimeText 4 s x n
      → pattern_items s.definitions x.pattern ≡ some r → PlaysAlone n r pass
      → ((middle : List (List Beat)) → PlaysPattern n x.modifiers (some r) pass middle → ⊥) → Stops5 s (complaint 15 x.header)
  -- 15: "or a modifier on an empty pattern"
  empty_modified : (x : Section) → Memᴰ x s.sections → pattern_items s.definitions x.pattern ≡ none → (x.modifiers ≡ unmodified → ⊥)
      → Stops5 s (complaint 15 x.header)

-- "Take the lyric lines of all sections whose pattern isn't empty".
pub record Taken (s : Song) (l : LyricLine) : Type 0 where
  pub section : Section
  pub pattern : Items
  pub listed : Memᴰ section s.sections
  pub filled : pattern_items s.definitions section.pattern ≡ some pattern
  pub sung : Memᴰ l section.lyrics

unfoldable pub HasCount : LyricLine → Type 0
HasCount l = (words : List Byte) × (n : ℕ) × CountedLine l.text words n

-- Stage 6. 16: "of the lines taken, some have a count, this not".
pub data Stops6 (s : Song) : Complaint → Type 0 where
  uncounted : (l other : LyricLine) → Taken s l → (HasCount l → ⊥) → Taken s other → HasCount other → Stops6 s (complaint 16 l.number)

-- Stage 7. 17: "counts don't sum", on the header: "each such section with lyrics sums to its measures".
pub data Stops7 (s : Song) : Complaint → Type 0 where
  sums_not : (l : LyricLine) (counted : Taken s l) (total : ℕ) (p : Parts) → HasCount l → Counted counted.section.lyrics total
      → PlaysSection s counted.section p → (total ≡ length (joined p) → ⊥) → Stops7 s (complaint 17 counted.section.header)

-- Stage 8. 18: "keys table under 8, or another table too short", line 0.
pub data Stops8 (room : Room) (s : Song) (ps : List Parts) : Complaint → Type 0 where
  keys_short : room.keys < 8 → Stops8 room s ps (complaint 18 0)
  sections_short : (t : Tables) → WrittenTables s ps t → room.sections < length t.sections → Stops8 room s ps (complaint 18 0)
  measures_short : (t : Tables) → WrittenTables s ps t → room.measures < length t.measures → Stops8 room s ps (complaint 18 0)
  beats_short : (t : Tables) → WrittenTables s ps t → room.beats < length t.beats → Stops8 room s ps (complaint 18 0)
  items_short : (t : Tables) → WrittenTables s ps t → room.items < length t.items → Stops8 room s ps (complaint 18 0)
