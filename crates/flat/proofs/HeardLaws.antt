-- The words of what a section plays give its letters: each chord stands in the file at its word's offset.
use Prim.Native.Nat.{ℕ, ◌+◌, ◌*◌, ◌^◌, ◌<◌, ◌≤◌}
use mathlib.Core.Path.{◌≡◌, refl, sym, ap, ◌∙◌}
use mathlib.Core.List.{List, [], ◌∷◌, map, append-nil, head-eq_of_cons-eq, tail-eq_of_cons-eq, flat_map}
use mathlib.Core.Bool.{Bool, true, false}
use mathlib.Core.Option.{Option, none, some}
use native.Mathlib.Omega.{arith}
use borrow.Author.Tests.{le-ltb}
use lib.ListN.{length, length-map}
use Rattle.songcode.specs.Lists.{provided◌then◌else◌}
use Rattle.songcode.specs.Bytes.{ascii, placed}
use Rattle.songcode.specs.Answer.Chords.{Chord, bases, spelling_of}
use Rattle.songcode.specs.Answer.Tables.{offset, head_bit, beat_by, beat_word}
use Rattle.songcode.specs.Description.Layout.{field}
use Rattle.songcode.specs.Song.{Beat}
use Rattle.songcode.specs.Answer.Flat.{letters, letters_of, end_line, flat_measure, flat_pattern}
use Rattle.songcode.specs.Description.WrittenFlat.{stretch_at}
use Rattle.songcode.proofs.Stretches.{stretch_of_lem}
use Rattle.songcode.proofs.ChordsPlayed.{OfIf, OfAll, OfRow}
use Rattle.songcode.proofs.SpeltChords.{Known}
use Rattle.songcode.proofs.CopyWords.{bit_small, beat_offset, beat_length_lem}
use Rattle.songcode.proofs.CopyBeats.{chord_fits}
use Rattle.songcode.proofs.FieldsFitProved.{get_before}
use Rattle.player.specs.Texts.{row_words}
use Rattle.flat.specs.Measures.{letters_at, measure_line, measure_lines, pattern_lines, Heard}

how_many_lem : length bases ≡ 34
unfolding bases
how_many_lem = refl

module _ (s : List ℕ) (small : length s ≤ 65536) where
  base_small : (c : Chord) → Known (placed 0 s) c → c.base ≤ 33
  base_small c k =
      let h = get_before bases c.base _ k.spelt.spelled.numbered in
      let e = how_many_lem in
      omega arith

  base_at : (b o l h : ℕ) → b < 64 → o < 65536 → l < 32 → h < 2 → field 26 6 (b * 2 ^ 26 + o * 2 ^ 10 + l * 2 ^ 5 + h * 2 ^ 4) ≡ b
  unfolding field
  base_at b o l h p q r t = omega arith

  chord_heard : (c : Chord) (h : Bool) → Known (placed 0 s) c → letters_at s (beat_by (some c) h) ≡ letters (some c)
  unfolding letters_at letters beat_by stretch_at spelling_of provided◌then◌else◌
  chord_heard c h k =
      let f = chord_fits s c small k in
      let i = base_small c k in
      let o = offset c.extension in
      let l = length c.extension in
      rw (
        base_at c.base o l (head_bit h) (omega arith) f.0 f.1 (bit_small h),
        le-ltb 33 c.base i,
        beat_length_lem c.base o l (head_bit h) f.0 f.1 (bit_small h),
        beat_offset c.base o l (head_bit h) f.0 f.1 (bit_small h),
        stretch_of_lem s c.extension k.stands,
      )

  sound_heard : (o : Option Chord) (h : Bool) → OfIf (Known (placed 0 s)) o → letters_at s (beat_by o h) ≡ letters o
  unfolding OfIf letters_at letters beat_by stretch_at spelling_of provided◌then◌else◌ head_bit field
  sound_heard none true k = refl
  sound_heard none false k = refl
  sound_heard (some c) h k = chord_heard c h k

  all_heard : (m : List Beat) → OfAll (Known (placed 0 s)) m → map (letters_at s) (map beat_word m) ≡ map letters_of m
  unfolding OfAll beat_word letters_of
  all_heard [] k = refl
  all_heard (b ∷ m) k = rw (sound_heard b.sounds b.head k.0, all_heard m k.1)

  -- What is known in the file is heard.
  pub row_heard : (row : List (List Beat)) → OfRow (Known (placed 0 s)) row → Heard s row
  unfolding OfRow Heard row_words
  row_heard [] k = refl
  row_heard (m ∷ row) k = rw (all_heard m k.0, row_heard row k.1)

-- The lines of what is heard are those of the copy.
module _ (s : List ℕ) (n : ℕ) where
  measure_heard : (ws : List ℕ) (m : List Beat) → map (letters_at s) ws ≡ map letters_of m → measure_line s n ws ≡ flat_measure n m
  unfolding measure_line flat_measure
  measure_heard ws m e =
      let l : length ws ≡ length m = sym (length-map ws (letters_at s)) ∙ ap length e ∙ length-map m letters_of in
      rw (e, l)

  lines_heard : (row : List (List Beat)) → map (map (letters_at s)) (map (map beat_word) row) ≡ map (map letters_of) row
      → measure_lines s n (map (map beat_word) row) ≡ flat_map end_line (map (flat_measure n) row)
  unfolding measure_lines flat_map
  lines_heard [] e = refl
  lines_heard (m ∷ row) e = rw (measure_heard (map beat_word m) m (head-eq_of_cons-eq e), lines_heard row (tail-eq_of_cons-eq e))

  pub pattern_heard : (row : List (List Beat)) → Heard s row → pattern_lines s n (row_words row) ≡ flat_map end_line (flat_pattern n row)
  unfolding Heard row_words pattern_lines flat_pattern flat_map
  pattern_heard [] e = sym (append-nil (end_line (ascii "$1")))
  pattern_heard (m ∷ row) e = lines_heard (m ∷ row) e
