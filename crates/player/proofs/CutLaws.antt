-- The cuts at both ends are one window: front then back, in whole measures and beats, equals passing over some beats and keeping some.
use Rattle.std.proofs.Common.{◌≡◌, ℕ, ◌-◌, List, [], ◌∷◌, length, drop, refl, ap, ◌∙◌, length-drop}
use Rattle.songcode.specs.Song.{Cut}
use Rattle.songcode.specs.Answer.Playing.{drop_beats, drop_measures, cut_front, turned, cut_back}
use Rattle.songcode.specs.EitherOrder.{Filled}
use Rattle.songcode.proofs.TurnedRows.{turned_turned, filled_turned}
use Rattle.songcode.proofs.CutFront.{drop_none}
use Rattle.songcode.proofs.CutLaws.{lose, stay, beats_before, beats_up_to, stay_keep}
use Rattle.songcode.proofs.CutsCommute.{front_first}
use Rattle.player.specs.Windows.{window, first_beat, last_beat, kept_of, cut_of}

abbrev pub zeros : Cut
zeros = record { whole = record { measures = 0 }; further = record { beats = 0 } }

module _ {A : Type 0} where
  -- One forward pass.
  stay_lose : (s n : ℕ) (row : List (List A)) → stay n (lose s row) ≡ window s n row
  unfolding stay drop_beats window
  stay_lose s n [] = refl
  stay_lose s n (x ∷ xs) = rw (stay_keep n (drop s x) (lose (s - length x) xs), length-drop s x, stay_lose (s - length x) (n - (length x - s)) xs)

  -- Both cuts of a row of which every measure has a beat.
  pub kept_cuts : (f b : Cut) (row : List (List A)) → Filled row → cut_back b (cut_front f row) ≡ kept_of (cut_of f) (cut_of b) row
  unfolding kept_of first_beat last_beat cut_of
  kept_cuts f b row g =
      front_first f b row g ∙ stay_lose (beats_before f row) (beats_up_to b row - beats_before f row) row

  -- A cut of nothing.
  pub front_none : (row : List (List A)) → Filled row → cut_front zeros row ≡ row
  unfolding cut_front drop_measures
  front_none row f = drop_none row f

  pub back_none : (row : List (List A)) → Filled row → cut_back zeros row ≡ row
  unfolding cut_back
  back_none row f = ap (λ r. turned r) (front_none (turned row) (filled_turned row f)) ∙ turned_turned row
