-- The tables of a song that is read join up: what its words are made of fits their fields, and every measure has 1 to 32 beats.
use Prim.Native.Nat.{ℕ, ◌+◌, ◌<◌, ◌≤◌}
use mathlib.Core.Path.{◌≡◌, refl}
use mathlib.Core.List.{List, [], ◌∷◌, ◌++◌, flat_map}
use mathlib.Core.Bool.{true}
use mathlib.Core.Option.{Option, none, some, get_or}
use native.Mathlib.Omega.{arith}
use lib.ListN.{length, length-append}
use borrow.Author.Tests.{eq-eqb, le-leb}
use Rattle.songcode.specs.Lists.{every}
use Rattle.songcode.specs.Song.{bpm, Key, Section, Song, Beat}
use Rattle.songcode.specs.Answer.Tables.{Tables}
use Rattle.songcode.specs.Description.Layout.{sections_row, measures_row, laid}
use Rattle.songcode.specs.Answer.Answer.{Room, answer, accepted}
use Rattle.songcode.specs.Description.WrittenPattern.{Number}
use Rattle.songcode.specs.Description.WrittenSection.{Each, none_each, and_each}
use Rattle.songcode.specs.Description.Performance.{Says, Parts, PlaysSection, joined}
use Rattle.songcode.specs.Description.Fits.{Fits}
use Rattle.songcode.specs.Description.WrittenTables.{parts_words, row_words}
use Rattle.songcode.specs.FlatDemands.{Within}
use Rattle.songcode.specs.Description.Joined.{first_beat, beat_count, end_beat, follows, is_short, measures_join, first_measure, measure_count, covers, join_up}
use Rattle.songcode.proofs.AnswerAgree.{accepted_exactly}
use Rattle.songcode.proofs.CopySong.{Ready}
use Rattle.songcode.proofs.CopyReady.{ready}
use Rattle.songcode.proofs.CopyHeaders.{meter_most, all_length, measures_few}

-- "bpm (section's, else song's, else 511)": 9 bits hold it.
tempo_fits : (s : Song) (x : Section) (p : Parts) → PlaysSection s x p → p.tempo < 512
unfolding Says
tempo_fits s x p h =
    let i = h.tempo in
    let song = said i.songs s.keys 511 i.song_says (omega arith) in
    let own = said i.own x.keys (get_or i.songs 511) i.own_says song in
    rw i.chosen own
  where
    said : (o : Option ℕ) (ks : List Key) (default : ℕ) → Says bpm (Number 0 400) ks o → default < 512 → get_or o default < 512
    said none ks default a d = d
    said (some n) ks default a d = let most = a.2.at_most in omega arith

-- A section's word gives back the two fields that have to follow on one another.
section_says : (header first measures n tempo : ℕ) → first < 65536 → measures < 65536 → n < 64 → tempo < 512
    → let word = laid sections_row (header ∷ first ∷ measures ∷ n ∷ tempo ∷ []) in (first_measure word ≡ first) × (measure_count word ≡ measures)
unfolding laid sections_row first_measure measure_count
section_says header first measures n tempo f m b t = (omega arith, omega arith)

sections_cover : (s : Song) (first total : ℕ) {xs : List Section} {ps : List Parts} → Each (PlaysSection s) xs ps → first + all_length ps ≡ total
    → total ≤ 65535
    → covers first total (parts_words first xs ps) ≡ true
unfolding covers parts_words all_length
sections_cover s first total none_each e l = eq-eqb first total (omega arith)
sections_cover s first total (and_each {x} {y = p} h hs) e l =
    let n = meter_most s x p h in
    let r = section_says x.header first (length (joined p)) p.meter p.tempo (omega arith) (omega arith) (omega arith) (tempo_fits s x p h) in
    rw (r.0, r.1, eq-eqb first first refl) (sections_cover s (first + length (joined p)) total hs (omega arith) l)

-- A measure's word gives back its first beat, wherever that is, and its beats.
measure_says : (first beats : ℕ) → beats ≤ 32 → let word = laid measures_row (first ∷ beats ∷ []) in (first_beat word ≡ first) × (beat_count word ≡ beats)
unfolding laid measures_row first_beat beat_count
measure_says first beats b = (omega arith, omega arith)

measures_follow : (beat : ℕ) (row : List (List Beat)) → Within 32 row
    → (follows beat (row_words beat row) ≡ true) × (every is_short (row_words beat row) ≡ true) × (length (row_words beat row) ≡ length row)
unfolding follows every is_short end_beat row_words Within
measures_follow beat [] w = (refl, refl, refl)
measures_follow beat (m ∷ row) w =
    let r = measure_says beat (length m) w.1 in
    let h = measures_follow (beat + length m) row w.2 in
    let k = h.2 in (
      rw (r.0, r.1, eq-eqb beat beat refl, le-leb 1 (length m) w.0) h.0,
      rw (r.1, le-leb (length m) 32 w.1) h.1,
      omega arith,
    )

-- All measures of the song, one section's behind the other's: N is at most 32.
within_behind : (n : ℕ) (a b : List (List Beat)) → n ≤ 32 → Within n a → Within 32 b → Within 32 (a ++ b)
unfolding Within
within_behind n [] b l v w = w
within_behind n (m ∷ a) b l v w = let z = v.1 in (v.0, omega arith, within_behind n a b l v.2 w)

all_within : (s : Song) {xs : List Section} {ps : List Parts} → Each (PlaysSection s) xs ps → Ready ps
    → Within 32 (flat_map joined ps) × (length (flat_map joined ps) ≡ all_length ps)
unfolding Within Ready flat_map all_length
all_within s none_each r = (tt, refl)
all_within s (and_each {x} {y = p} {ys = ps} h hs) r =
    let g = all_within s hs r.1 in
    let k = g.1 in
    let l = length-append (joined p) (flat_map joined ps) in
    (within_behind p.meter (joined p) (flat_map joined ps) (meter_most s x p h) r.0.0 g.0, omega arith)

words_join : (s : Song) (ps : List Parts) → Fits s ps → Ready ps → join_up (parts_words 0 s.sections ps) (row_words 0 (flat_map joined ps)) ≡ true
unfolding join_up measures_join
words_join s ps f r =
    let w = all_within s f.plays r in
    let m = measures_follow 0 (flat_map joined ps) w.0 in
    rw (m.2, w.1, sections_cover s 0 (all_length ps) f.plays (omega arith) (measures_few f), m.0, m.1)

pub song_joins : (room : Room) (bs : List ℕ) (t : Tables) → answer room bs ≡ accepted t → join_up t.sections t.measures ≡ true
song_joins room bs t e =
    let d = (accepted_exactly room bs t).0 e in
    let sections = d.words.sections in
    let measures = d.words.measures in
    let joins = words_join d.song d.parts d.fits (ready bs d.song d.parts d.written d.fits) in
    cc
