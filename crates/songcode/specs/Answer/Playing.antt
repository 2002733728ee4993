-- "How a section is played": measures and beats in the section's own N, loops, repeats, the two cuts, lead-in and tail.
use Rattle.std.specs.Prelude.{ℕ, zero, suc, ◌+◌, ◌-◌, ◌/◌, true, false, eqb, length, drop, replicate}
use mathlib.Core.List.{List, [], ◌∷◌, ◌++◌, map, reverse, flat_map}
use Rattle.std.proofs.Math.Option.{Option, none, some, get_or, bind}
use Rattle.songcode.specs.Lists.{provided◌then◌else◌, times}
use Rattle.songcode.specs.Bytes.{Byte}
use Rattle.songcode.specs.Answer.Chords.{Chord}
use Rattle.songcode.specs.Song.{Sound, chord, again, silence, Sounds, only, also, Measure, Item, measure, loop, refer, Items, one, next}
use Rattle.songcode.specs.Song.{KeyName, bpm, time, Key, Measures, Beats, Cut, Section}
use Rattle.songcode.specs.Song.{Side, Modifiers, Song, Beat, beat}
use Rattle.songcode.specs.Answer.Keys.{key_place, bpm_in, time_in}
use Rattle.songcode.specs.Answer.References.{pattern_items}

-- The setting of a key, if it is there.
unfoldable pub setting_named : KeyName → List Key → Option (List Byte)
unfolding provided◌then◌else◌ key_place
setting_named k [] = none
setting_named k (x ∷ xs) = provided eqb (key_place x.key) (key_place k) then some x.setting else setting_named k xs

-- "N is the section's time, else the song's"; "the default is 4/4".
unfoldable pub time_among : List Key → Option ℕ
unfolding bind setting_named time_in
time_among ks = bind (setting_named time ks) time_in

unfoldable pub time_of : Song → Section → ℕ
unfolding time_among
time_of s x = get_or (time_among x.keys) (get_or (time_among s.keys) 4)

-- "bpm (section's, else song's, else 511)"
unfoldable pub bpm_among : List Key → Option ℕ
unfolding bind setting_named bpm_in
bpm_among ks = bind (setting_named bpm ks) bpm_in

unfoldable pub bpm_of : Song → Section → ℕ
unfolding bpm_among
bpm_of s x = get_or (bpm_among x.keys) (get_or (bpm_among s.keys) 511)

-- "`%` is the last chord before it in the written order of its own text, references put in; silence isn't a chord."
unfoldable pub chord_after : Option Chord → Sound → Option Chord
chord_after last (chord c) = some c
chord_after last again = last
chord_after last silence = last

unfoldable pub heard : Option Chord → Sound → Option Chord
heard last (chord c) = some c
heard last again = last
heard last silence = none

unfoldable pub last_sounds : Option Chord → Sounds → Option Chord
unfolding chord_after
last_sounds last (only s) = chord_after last s
last_sounds last (also ss s) = chord_after (last_sounds last ss) s

unfoldable mutual
  unfolding last_sounds

  pub last_item : Option Chord → Item → Option Chord
  last_item last (measure m) = last_sounds last m.sounds
  last_item last (loop r n) = last_items last r
  last_item last (refer n) = last

  pub last_items : Option Chord → Items → Option Chord
  last_items last (one i) = last_item last i
  last_items last (next r s i) = last_item (last_items last r) i

-- What the positions of a measure sound, in order; nothing for silence.
unfoldable pub voices : Option Chord → Sounds → List (Option Chord)
unfolding heard last_sounds
voices last (only s) = heard last s ∷ []
voices last (also ss s) = voices last ss ++ (heard (last_sounds last ss) s ∷ [])

-- "each position lasts N/p beats and each remover takes N/p away": the positions that sound are left.
unfoldable pub lasting : ℕ → Option Chord → List Beat
lasting zero c = []
lasting (suc n) c = beat c true ∷ replicate n (beat c false)

unfoldable pub sound_count : Sounds → ℕ
sound_count (only s) = 1
sound_count (also ss s) = suc (sound_count ss)

unfoldable pub positions : Measure → ℕ
unfolding sound_count
positions m = sound_count m.sounds + m.removers

unfoldable pub beats_of : ℕ → Option Chord → Measure → List Beat
unfolding flat_map lasting voices positions
beats_of n last m = flat_map (lasting (n / positions m)) (voices last m.sounds)

-- "Loops are written out": the measures of a row in N, each a list of beats.
unfoldable mutual
  unfolding beats_of last_items times

  pub measures_item : ℕ → Option Chord → Item → List (List Beat)
  measures_item n last (measure m) = beats_of n last m ∷ []
  measures_item n last (loop r k) = times k (measures_of n last r)
  measures_item n last (refer k) = []

  pub measures_of : ℕ → Option Chord → Items → List (List Beat)
  measures_of n last (one i) = measures_item n last i
  measures_of n last (next r s i) = measures_of n last r ++ measures_item n (last_items last r) i

-- "a measure with no beats left is gone"
unfoldable pub keep : {A : Type 0} → List A → List (List A) → List (List A)
keep [] row = row
keep (b ∷ bs) row = (b ∷ bs) ∷ row

unfoldable pub drop_beats : {A : Type 0} → Beats → List (List A) → List (List A)
unfolding keep
drop_beats b [] = []
drop_beats b (m ∷ row) = keep (drop b.beats m) (drop_beats (record { beats = b.beats - length m }) row)

unfoldable pub drop_measures : {A : Type 0} → Measures → List (List A) → List (List A)
drop_measures m row = drop m.measures row

-- "`_cutStart m-b` takes m whole measures, however short, from the front, then b beats"
unfoldable pub cut_front : {A : Type 0} → Cut → List (List A) → List (List A)
unfolding drop_beats drop_measures
cut_front c row = drop_beats c.further (drop_measures c.whole row)

-- A row from its end to its front, and every measure so.
unfoldable pub turned : {A : Type 0} → List (List A) → List (List A)
turned row = reverse (map reverse row)

-- "`_cutEnd` does the same at the back of the rest."
unfoldable pub cut_back : {A : Type 0} → Cut → List (List A) → List (List A)
unfolding turned cut_front
cut_back c row = turned (cut_front c (turned row))

unfoldable pub applied : {A : Type 0} → (Cut → A → A) → Option Cut → A → A
applied f none row = row
applied f (some c) row = f c row

-- The pattern repeated, less the two cuts.
unfoldable pub cut_row : {A : Type 0} → Modifiers → List (List A) → List (List A)
unfolding applied cut_front cut_back
cut_row ms row = applied cut_back ms.cut_end (applied cut_front ms.cut_start row)

unfoldable pub repeats : Modifiers → ℕ
repeats ms = get_or ms.repeat 1

-- A lead-in or tail, if there is one.
unfoldable pub side_measures : ℕ → Option Side → List (List Beat)
unfolding measures_of
side_measures n none = []
side_measures n (some x) = measures_of n none x.items

-- The pattern as it is kept: an empty pattern has no measures.
unfoldable pub kept_measures : ℕ → Modifiers → Option Items → List (List Beat)
unfolding cut_row times repeats measures_of
kept_measures n ms none = []
kept_measures n ms (some r) = cut_row ms (times (repeats ms) (measures_of n none r))

-- "Then lead-in and tail are joined on."
unfoldable pub played : Song → Section → List (List Beat)
unfolding side_measures kept_measures time_of pattern_items
played s x =
    side_measures (time_of s x) x.modifiers.before
    ++ kept_measures (time_of s x) x.modifiers (pattern_items s.definitions x.pattern)
    ++ side_measures (time_of s x) x.modifiers.after
