-- The description of playing: what a section is, beat for beat. It says when a row of measures is what a text plays, and runs nothing.
use Rattle.std.specs.Prelude.{ℕ, zero, suc, ◌+◌, ◌*◌, ◌≤◌, ◌≡◌, ◌⊎◌, true, false, length, replicate}
use mathlib.Core.List.{List, [], ◌∷◌, ◌++◌, flat_map}
use Rattle.std.proofs.Math.Option.{Option, none, some, get_or}
use Rattle.songcode.specs.Lists.{times}
use Rattle.songcode.specs.Bytes.{Byte}
use Rattle.songcode.specs.Answer.Chords.{Chord}
use Rattle.songcode.specs.Song.{Sound, chord, again, silence, Sounds, only, also, Measure, Item, measure, loop, refer, Items, one, next}
use Rattle.songcode.specs.Song.{KeyName, bpm, time, Key, Cut, Section, Song, Side, Modifiers, unmodified, Beat, beat}
use Rattle.songcode.specs.Description.WrittenPattern.{Number}
use Rattle.songcode.specs.Description.WrittenSection.{TimeText}
use Rattle.songcode.specs.Answer.References.{pattern_items}

-- What a position sounds behind the last chord, and the last chord behind it.
-- "`%` is the last chord before it in the written order of its own text ...; silence isn't a chord."
unfoldable pub Hears : Option Chord → Sound → Option Chord → Option Chord → Type 0
Hears last (chord c) heard later = (heard ≡ some c) × (later ≡ some c)
Hears last again heard later = (c : Chord) × (last ≡ some c) × (heard ≡ some c) × (later ≡ some c)
Hears last silence heard later = (heard ≡ none) × (later ≡ last)

unfoldable pub HearsAll : Option Chord → Sounds → List (Option Chord) → Option Chord → Type 0
unfolding Hears
HearsAll last (only s) heard later = (h : Option Chord) × Hears last s h later × (heard ≡ h ∷ [])
HearsAll last (also ss s) heard later =
    (before : List (Option Chord)) × (mid h : Option Chord) × HearsAll last ss before mid × Hears mid s h later × (heard ≡ before ++ (h ∷ []))

-- A position that lasts so many beats: "Head is 1 on the first beat of a position as written".
unfoldable pub held_for : ℕ → Option Chord → List Beat
held_for zero heard = []
held_for (suc more) heard = beat heard true ∷ replicate more (beat heard false)

-- "A measure of p positions needs p to divide N; each position lasts N/p beats and each remover takes N/p away": p counts those that are heard, and removers.
pub record PlaysMeasure (n : ℕ) (last : Option Chord) (m : Measure) (beats : List Beat) (later : Option Chord) : Type 0 where
  pub heard : List (Option Chord)
  pub hears : HearsAll last m.sounds heard later
  pub share : ℕ
  pub divides : share * (length heard + m.removers) ≡ n
  pub lasts : beats ≡ flat_map (held_for share) heard

-- A row in N: measure after measure; a loop as often as it says, each pass like the first. References have been put in.
unfoldable mutual
  pub PlaysItem : ℕ → Option Chord → Item → List (List Beat) → Option Chord → Type 0
  PlaysItem n last (measure m) row later = (beats : List Beat) × PlaysMeasure n last m beats later × (row ≡ beats ∷ [])
  PlaysItem n last (loop r k) row later = (pass : List (List Beat)) × PlaysItems n last r pass later × (row ≡ times k pass)
  PlaysItem n last (refer k) row later = ⊥

  pub PlaysItems : ℕ → Option Chord → Items → List (List Beat) → Option Chord → Type 0
  PlaysItems n last (one i) row later = PlaysItem n last i row later
  PlaysItems n last (next r s i) row later =
      (front more : List (List Beat)) × (mid : Option Chord) × PlaysItems n last r front mid × PlaysItem n mid i more later × (row ≡ front ++ more)

-- "Lead-in, pattern and tail are each resolved alone": behind no chord.
pub record PlaysAlone (n : ℕ) (r : Items) (row : List (List Beat)) : Type 0 where
  pub later : Option Chord
  pub plays : PlaysItems n none r row later

unfoldable pub PlaysSide : ℕ → Option Side → List (List Beat) → Type 0
PlaysSide n none row = row ≡ []
PlaysSide n (some x) row = PlaysAlone n x.items row

module _ {A : Type 0} where
  -- The beats of a row of measures.
  unfoldable pub total : List (List A) → ℕ
  total [] = 0
  total (m ∷ row) = length m + total row

  -- "`_cutStart m-b` takes m whole measures, however short, from the front, then b beats; a measure with no beats left is gone."
  -- m measures are gone as a whole; then b beats are lost, some with their whole measures, the last of them from a measure that stays.
  pub record CutsFront (c : Cut) (row kept : List (List A)) : Type 0 where
    pub gone : List (List A)
    pub lost : List (List A)
    pub begun : List A
    pub stays : List A
    pub rest : List (List A)
    pub written : row ≡ gone ++ (lost ++ ((begun ++ stays) ∷ rest))
    pub as_measures : length gone ≡ c.whole.measures
    pub as_beats : total lost + length begun ≡ c.further.beats
    pub remains : 1 ≤ length stays
    pub keeps : kept ≡ stays ∷ rest

  -- "`_cutEnd` does the same at the back of the rest."
  pub record CutsBack (c : Cut) (row kept : List (List A)) : Type 0 where
    pub gone : List (List A)
    pub lost : List (List A)
    pub ended : List A
    pub stays : List A
    pub rest : List (List A)
    pub written : row ≡ rest ++ (((stays ++ ended) ∷ lost) ++ gone)
    pub as_measures : length gone ≡ c.whole.measures
    pub as_beats : total lost + length ended ≡ c.further.beats
    pub remains : 1 ≤ length stays
    pub keeps : kept ≡ rest ++ (stays ∷ [])

  -- A cut, if there is one.
  unfoldable pub CutIf : (Cut → List (List A) → List (List A) → Type 0) → Option Cut → List (List A) → List (List A) → Type 0
  CutIf cuts none row kept = kept ≡ row
  CutIf cuts (some c) row kept = cuts c row kept

-- What a key says among others: nothing where none has its name, else what the first of that name says.
unfoldable pub Unsaid : KeyName → List Key → Type 0
Unsaid k [] = Unit {0}
Unsaid k (x ∷ xs) = (x.key ≡ k → ⊥) × Unsaid k xs

unfoldable pub Said : KeyName → List Byte → List Key → Type 0
Said k setting [] = ⊥
Said k setting (x ∷ xs) = ((x.key ≡ k) × (x.setting ≡ setting)) ⊎ ((x.key ≡ k → ⊥) × Said k setting xs)

unfoldable pub Says : KeyName → (List Byte → ℕ → Type 0) → List Key → Option ℕ → Type 0
Says k meaning ks none = Unsaid k ks
Says k meaning ks (some n) = (setting : List Byte) × Said k setting ks × meaning setting n

-- "the section's ..., else the song's", else a default.
pub record Inherits (k : KeyName) (meaning : List Byte → ℕ → Type 0) (default : ℕ) (s : Song) (x : Section) (n : ℕ) : Type 0 where
  pub own : Option ℕ
  pub songs : Option ℕ
  pub own_says : Says k meaning x.keys own
  pub song_says : Says k meaning s.keys songs
  pub chosen : n ≡ get_or own (get_or songs default)

-- A section's N and tempo, and its parts: its lead-in, one pass of its pattern, what the cuts leave of all passes, its tail.
pub record Parts : Type 0 where
  pub meter : ℕ
  pub tempo : ℕ
  pub lead_in : List (List Beat)
  pub pass : List (List Beat)
  pub middle : List (List Beat)
  pub tail : List (List Beat)

-- "`_repeat n`": a pattern without it is played once.
unfoldable pub as_often : Modifiers → ℕ
as_often ms = get_or ms.repeat 1

-- "Loops are written out, then the pattern repeated." The two cuts take from the whole repeated row, and "at least one beat of the pattern must remain".
-- An empty pattern plays nothing and has no modifier.
unfoldable pub PlaysPattern : ℕ → Modifiers → Option Items → List (List Beat) → List (List Beat) → Type 0
unfolding CutIf
PlaysPattern n ms none pass middle = (ms ≡ unmodified) × (pass ≡ []) × (middle ≡ [])
PlaysPattern n ms (some r) pass middle =
    (shorter : List (List Beat))
    × PlaysAlone n r pass
    × CutIf CutsFront ms.cut_start (times (as_often ms) pass) shorter
    × CutIf CutsBack ms.cut_end shorter middle
    × (1 ≤ total middle)

-- The third demand: "each section is, beat for beat, its lead-in, then its pattern as often as it is repeated less the two cuts, then its tail,
-- all counted in that section's own meter."
pub record PlaysSection (s : Song) (x : Section) (p : Parts) : Type 0 where
  pub meter : Inherits time TimeText 4 s x p.meter
  pub tempo : Inherits bpm (Number 0 400) 511 s x p.tempo
  pub lead_in : PlaysSide p.meter x.modifiers.before p.lead_in
  pub pattern : PlaysPattern p.meter x.modifiers (pattern_items s.definitions x.pattern) p.pass p.middle
  pub tail : PlaysSide p.meter x.modifiers.after p.tail

-- The measures of the section, and those that it has "lead-ins and tails in, before cuts".
unfoldable pub joined : Parts → List (List Beat)
joined p = p.lead_in ++ (p.middle ++ p.tail)

unfoldable pub uncut : ℕ → Parts → List (List Beat)
uncut k p = p.lead_in ++ (times k p.pass ++ p.tail)
