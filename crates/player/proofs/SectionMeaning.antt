-- What a section's contract says of its tables, in the words of the definitions: the measures that are played, and their words.
use Rattle.std.proofs.Common.{◌≡◌, ℕ, zero, suc, ◌+◌, ◌-◌, List, [], ◌∷◌, ◌++◌, map, length, take, drop, sym, refl, ap, ◌∙◌, append_assoc, arith}
use mathlib.Core.List.{flat_map}
use mathlib.Core.Option.{Option, none, some}
use Rattle.songcode.specs.Lists.{times}
use Rattle.songcode.specs.Song.{Cut, Modifiers, Beat}
use Rattle.songcode.specs.Answer.Playing.{keep, cut_front, cut_back, applied, cut_row, repeats}
use Rattle.songcode.specs.Description.Performance.{total}
use Rattle.songcode.specs.Answer.Tables.{beat_word, measure_words}
use Rattle.songcode.specs.EitherOrder.{Filled}
use Rattle.songcode.proofs.RowLaws.{filled_times}
use Rattle.songcode.proofs.CutFront.{filled_cut_front}
use Rattle.songcode.proofs.CutLaws.{total_take_le}
use Rattle.cuts.specs.declared.Cut as code
use Rattle.player.specs.Texts.{row_words}
use Rattle.player.specs.Windows.{cut_of, cut_said, window, first_beat, last_beat, kept_of, whole_of, section_row, flat, heads}
use Rattle.player.proofs.WindowLaws.{whole_filled, total_window, window_none}
use Rattle.player.proofs.CutLaws.{zeros, kept_cuts, front_none, back_none}
use Rattle.player.proofs.RowWordLaws.{words_append, words_times}

-- Cuts that may be absent.
pub kept_applied : {A : Type 0} (f b : Option Cut) (row : List (List A)) → Filled row
    → applied cut_back b (applied cut_front f row) ≡ kept_of (cut_said f) (cut_said b) row
unfolding applied cut_said cut_of
kept_applied none none row g = sym (ap (λ r. cut_back zeros r) (front_none row g) ∙ back_none row g) ∙ kept_cuts zeros zeros row g
kept_applied none (some b) row g = sym (ap (λ r. cut_back b r) (front_none row g)) ∙ kept_cuts zeros b row g
kept_applied (some f) none row g = sym (back_none (cut_front f row) (filled_cut_front f row g)) ∙ kept_cuts f zeros row g
kept_applied (some f) (some b) row g = kept_cuts f b row g

-- Nothing is kept exactly where no beat is.
pub kept_none : {A : Type 0} (f b : code.Cut) (row : List (List A)) → last_beat b row - first_beat f row ≡ 0 → kept_of f b row ≡ []
unfolding kept_of
kept_none f b row e = rw e (window_none (first_beat f row) row)

pub kept_total : {A : Type 0} (f b : code.Cut) (row : List (List A)) → total (kept_of f b row) ≡ last_beat b row - first_beat f row
unfolding kept_of last_beat
kept_total f b row =
    let t = total_take_le (length row - b.measures.0) row in
    total_window (first_beat f row) (total (take (length row - b.measures.0) row) - b.beats.0 - first_beat f row) row ∙ omega arith

-- The words of rows: as many measures and beats, and the same cuts.
module _ {A B : Type 0} (f : A → B) where
  length_words : (x : List A) → length (map f x) ≡ length x
  length_words [] = refl
  length_words (a ∷ x) = ap suc (length_words x)

  take_words : (n : ℕ) (x : List A) → take n (map f x) ≡ map f (take n x)
  take_words zero x = refl
  take_words (suc n) [] = refl
  take_words (suc n) (a ∷ x) = ap (λ y. f a ∷ y) (take_words n x)

  drop_words : (n : ℕ) (x : List A) → drop n (map f x) ≡ map f (drop n x)
  drop_words zero x = refl
  drop_words (suc n) [] = refl
  drop_words (suc n) (a ∷ x) = drop_words n x

  keep_words : (x : List A) (row : List (List A)) → keep (map f x) (map (map f) row) ≡ map (map f) (keep x row)
  unfolding keep
  keep_words [] row = refl
  keep_words (a ∷ x) row = refl

  total_words : (row : List (List A)) → total (map (map f) row) ≡ total row
  unfolding total
  total_words [] = refl
  total_words (x ∷ row) = rw (length_words x, total_words row)

  window_words : (s n : ℕ) (row : List (List A)) → window s n (map (map f) row) ≡ map (map f) (window s n row)
  unfolding window
  window_words s n [] = refl
  window_words s n (x ∷ row) =
      rw (length_words x, drop_words s x, take_words n (drop s x), window_words (s - length x) (n - (length x - s)) row)
      (keep_words (take n (drop s x)) (window (s - length x) (n - (length x - s)) row))

pub rows_length : (row : List (List Beat)) → length (row_words row) ≡ length row
unfolding row_words
rows_length row = length_words (map beat_word) row

pub rows_total : (row : List (List Beat)) → total (row_words row) ≡ total row
unfolding row_words
rows_total row = total_words beat_word row

rows_take : (n : ℕ) (row : List (List Beat)) → take n (row_words row) ≡ row_words (take n row)
unfolding row_words
rows_take n row = take_words (map beat_word) n row

rows_window : (s n : ℕ) (row : List (List Beat)) → window s n (row_words row) ≡ row_words (window s n row)
unfolding row_words
rows_window s n row = window_words beat_word s n row

first_words : (c : code.Cut) (row : List (List Beat)) → first_beat c (row_words row) ≡ first_beat c row
unfolding first_beat
first_words c row = rw (rows_take c.measures.0 row, rows_total (take c.measures.0 row))

last_words : (c : code.Cut) (row : List (List Beat)) → last_beat c (row_words row) ≡ last_beat c row
unfolding last_beat
last_words c row = rw (rows_length row, rows_take (length row - c.measures.0) row, rows_total (take (length row - c.measures.0) row))

kept_words : (f b : code.Cut) (row : List (List Beat)) → kept_of f b (row_words row) ≡ row_words (kept_of f b row)
unfolding kept_of
kept_words f b row = rw (first_words f row, last_words b row) (rows_window (first_beat f row) (last_beat b row - first_beat f row) row)

whole_words : (row : List (List Beat)) → Filled row → whole_of (row_words row) ≡ row_words row
unfolding whole_of
whole_words row f = rw (rows_total row, rows_window 0 (total row) row) (ap row_words (whole f))
  where
    whole : Filled row → window 0 (total row) row ≡ row
    whole f = whole_filled row f

-- A section: lead-in, the pattern repeated less the cuts, tail.
pub section_words_lem : (ms : Modifiers) (lead row tail : List (List Beat)) → Filled lead → Filled row → Filled tail
    → section_row (cut_said ms.cut_start) (cut_said ms.cut_end) (repeats ms) (row_words lead) (row_words row)
    (row_words tail) ≡ row_words (lead ++ cut_row ms (times (repeats ms) row) ++ tail)
unfolding section_row cut_row
section_words_lem ms lead row tail f g h =
    let a = ms.cut_start in
    let b = ms.cut_end in
    let all = times (repeats ms) row in
    let k = kept_applied a b all (filled_times (repeats ms) row g) in
    rw (whole_words lead f, whole_words tail h, ← words_times (repeats ms) row, kept_words (cut_said a) (cut_said b) all, ← k)
    (sym (words_append (lead ++ applied cut_back b (applied cut_front a all)) tail
    ∙ rw (words_append lead (applied cut_back b (applied cut_front a all)), append_assoc)))

-- The words of its measures and of its beats.
pub heads_words : (first : ℕ) (row : List (List Beat)) → heads first (row_words row) ≡ measure_words first row
unfolding heads measure_words row_words
heads_words first [] = refl
heads_words first (x ∷ row) = rw (length_words beat_word x, heads_words (first + length x) row)

pub flat_words : (row : List (List Beat)) → flat (row_words row) ≡ flat_map (map beat_word) row
unfolding flat flat_map row_words
flat_words [] = refl
flat_words (x ∷ row) = ap (λ y. map beat_word x ++ y) (flat_words row)
