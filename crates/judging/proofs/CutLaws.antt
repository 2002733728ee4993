-- Cuts that leave no beat: as the code finds them from the numbers of a plan, and as the definitions say.
use Prim.Native.Nat.{ℕ, suc, ◌-◌, ◌*◌, ◌≤◌, min}
use mathlib.Core.Path.{◌≡◌, refl, sym, ap, ◌∙◌}
use mathlib.Core.List.{List, [], ◌∷◌, append-nil}
use mathlib.Core.Bool.{true, false}
use mathlib.Core.Option.{Option, none, some}
use native.Mathlib.Omega.{arith}
use native.Mathlib.Nat.{mul-le-mul}
use lib.Dec.{eqb}
use lib.ListN.{length}
use borrow.Author.Tests.{eq-eqb, ne_eqb, eqb-true, eqb-false}
use Rattle.songcode.specs.Lists.{provided◌then◌else◌, is_empty, times}
use Rattle.songcode.specs.Complaints.{complain_if}
use Rattle.songcode.specs.Song.{Cut, Items, Beat}
use Rattle.songcode.specs.Song as song
use Rattle.songcode.specs.Answer.Playing.{applied, cut_row, repeats, measures_of, kept_measures}
use Rattle.songcode.specs.Description.Performance.{total}
use Rattle.songcode.specs.Answer.Meter.{all_fit, count, any_said, cut_faults}
use Rattle.songcode.proofs.ListLaws.{by_cases, true_is_not_false, none_passes, is_empty_true, times_length}
use Rattle.songcode.specs.EitherOrder.{Filled}
use Rattle.songcode.proofs.RowLaws.{filled_items, length_items}
use Rattle.cuts.specs.declared.Cut as code
use Rattle.std.specs.Prelude as std
use Rattle.std.specs.Prelude.{Some, None}
use Rattle.settings.specs.Cuts.{cut_is, CutFits}
use Rattle.outlines.specs.declared.readings.Outline.{Outline}
use Rattle.outlines.specs.Words.{vacant}
use Rattle.player.specs.Texts.{row_words}
use Rattle.player.specs.Windows.{cut_of, cut_said, window, first_beat, last_beat, kept_of, whole_of, section_row}
use Rattle.player.proofs.SectionMeaning.{kept_none, kept_total, section_words_lem}
use Rattle.sections.specs.declared.values.Modifiers.{Modifiers}
use Rattle.laying.specs.declared.texts.Texts.{Texts}
use Rattle.laying.specs.Scores.{Carries}
use Rattle.judging.specs.Lengths.{cut_or_none, is_modified, cut_away}
use Rattle.laying.specs.Rows.{has_cut}

-- A cut as it is read.
pub cut_said_lem : (o : Option Cut) → cut_or_none (cut_is o) ≡ cut_said o
unfolding cut_is cut_said cut_of
cut_said_lem none = refl
cut_said_lem (some c) = refl

no_cut : (o : Option Cut) → std.is_some (cut_is o) ≡ false → o ≡ none
unfolding cut_is
no_cut none e = refl
no_cut (some c) e = true_is_not_false refl e

pub cut_fits : (c : std.Option code.Cut) → CutFits c → (cut_or_none c).beats.0 ≤ 9999
unfolding CutFits
cut_fits (Some c) h = h.1
cut_fits None h = omega arith

-- Nothing is kept exactly where no beat is left.
kept_empty : {A : Type 0} (f b : code.Cut) (row : List (List A)) → is_empty (kept_of f b row) ≡ eqb (last_beat b row - first_beat f row) 0
unfolding is_empty total
kept_empty f b row =
    by_cases (eqb (last_beat b row - first_beat f row) 0)
    (λ e. rw (kept_none f b row (eqb-true _ 0 e), e))
    (λ e. by_cases (is_empty (kept_of f b row))
    (λ t. absurd (eqb-false _ 0 e (sym (kept_total f b row) ∙ ap total (is_empty_true (kept_of f b row) t))))
    (λ t. rw (t, e)))

kept_words : (ms : song.Modifiers) (row : List (List Beat)) → Filled row
    → kept_of (cut_said ms.cut_start) (cut_said ms.cut_end) (times (repeats ms) (row_words row)) ≡ row_words
    (cut_row ms (times (repeats ms) row))
unfolding section_row whole_of window row_words Filled
kept_words ms row f =
    let kept = kept_of (cut_said ms.cut_start) (cut_said ms.cut_end) (times (repeats ms) (row_words row)) in
    sym (append-nil kept) ∙ section_words_lem ms [] row [] tt f tt ∙ ap row_words (append-nil (cut_row ms (times (repeats ms) row)))

empty_words : (row : List (List Beat)) → is_empty (row_words row) ≡ is_empty row
unfolding is_empty row_words
empty_words [] = refl
empty_words (x ∷ row) = refl

-- A row that is played and not cut is empty exactly where it has no measure.
empty_length : {A : Type 0} (xs : List A) → is_empty xs ≡ eqb (length xs) 0
unfolding is_empty
empty_length [] = refl
empty_length (x ∷ xs) = sym (ne_eqb (suc (length xs)) 0 (λ z. omega arith))

zero_times : (k c : ℕ) → 1 ≤ k → eqb (k * c) 0 ≡ eqb (min 65536 c) 0
zero_times k c h =
    by_cases (eqb c 0)
    (λ e. let z = eqb-true c 0 e in rw (z, eq-eqb (k * 0) 0 (omega arith)))
    (λ e.
    let some_there = eqb-false c 0 e in
    let one : 1 ≤ c = omega arith in
    let q : 1 * 1 ≤ k * c = mul-le-mul h one in
    rw (ne_eqb (k * c) 0 (λ z. omega arith), ne_eqb (min 65536 c) 0 (λ z. omega arith)))

uncut_empty : (n k : ℕ) (r : Items) → 1 ≤ k → is_empty (times k (measures_of n none r)) ≡ eqb (min 65536 (count r)) 0
uncut_empty n k r h =
    empty_length (times k (measures_of n none r)) ∙ ap (λ x. eqb x 0)
    (times_length k (measures_of n none r) ∙ ap (λ x. k * x) (length_items n none r)) ∙ zero_times k (count r) h

module _ (ws : List ℕ) (n header : ℕ) (ms : song.Modifiers) (m : Modifiers) (t : Texts) (often : m.repeat ≡ repeats ms) (played : 1 ≤ m.repeat)
    (front : m.front ≡ cut_is ms.cut_start) (back : m.back ≡ cut_is ms.cut_end) where
  row_cut : (r : Items) → Carries ws t.pattern (some r) → 1 ≤ n → all_fit n r ≡ true → has_cut m ≡ true
      → cut_away ws n m t ≡ is_empty (kept_measures n ms (some r))
  unfolding Carries cut_away kept_measures provided◌then◌else◌
  row_cut r w one fit e =
      let row = measures_of n none r in
      rw (w.0, e, front, back, cut_said_lem ms.cut_start, cut_said_lem ms.cut_end, often, w.2 n)
      (sym (kept_empty (cut_said ms.cut_start) (cut_said ms.cut_end) (times (repeats ms) (row_words row)))
      ∙ ap is_empty (kept_words ms row (filled_items n none r one fit)) ∙ empty_words (cut_row ms (times (repeats ms) row)))

  row_uncut : (r : Items) → Carries ws t.pattern (some r) → has_cut m ≡ false
      → cut_away ws n m t ≡ is_empty (kept_measures n ms (some r))
  unfolding Carries cut_away kept_measures cut_row applied provided◌then◌else◌
  row_uncut r w e =
      let q = none_passes (std.is_some m.front) (std.is_some m.back) e in
      let f = no_cut ms.cut_start (ap std.is_some (sym front) ∙ q.0) in
      let b = no_cut ms.cut_end (ap std.is_some (sym back) ∙ q.1) in
      rw (w.0, q.0, q.1, f, b, w.1.measures, ← often) (sym (uncut_empty n m.repeat r played))

  pub cut_away_is : (o : Option Items) → Carries ws t.pattern o → 1 ≤ n
      → ((r : Items) → o ≡ some r → all_fit n r ≡ true) → is_modified m ≡ any_said ms
      → cut_faults n header ms o ≡ complain_if (cut_away ws n m t) 15 header
  unfolding Carries cut_faults cut_away vacant provided◌then◌else◌
  cut_away_is none w one fit changed = let e : t.pattern.outline.empty ≡ true = ap (λ (x : Outline). x.empty) w.0 in rw (e, changed)
  cut_away_is (some r) w one fit changed =
      ap (λ b. complain_if b 15 header) (sym (by_cases (has_cut m) (λ e. row_cut r w one (fit r refl) e) (λ e. row_uncut r w e)))
