-- The rows of texts in the buffer, and when each of their measures has N beats.
use Prim.Native.Nat.{ℕ, ◌≤◌}
use mathlib.Core.Path.{◌≡◌, refl, ◌∙◌}
use mathlib.Core.List.{List}
use mathlib.Core.Option.{Option, none, some, bind}
use Rattle.songcode.specs.Song.{Items, Side}
use Rattle.songcode.specs.Answer.Playing.{side_measures}
use Rattle.songcode.proofs.SectionPlays.{pass_of}
use Rattle.score.specs.Even.{even_measures}
use Rattle.player.specs.Texts.{row_words}
use Rattle.player.specs.Walks.{row_of}
use Rattle.player.specs.Even.{Even}
use Rattle.player.proofs.WholeRows.{even_row}
use Rattle.laying.specs.declared.texts.Text.{Text}
use Rattle.laying.specs.Scores.{Carries, side_items}
use Rattle.laying.proofs.TextLaws.{carries_even}
use Rattle.judging.specs.Lengths.{EvenText}

module _ (ws : List ℕ) (n : ℕ) where
  pub carried : (t : Text) (o : Option Items) → Carries ws t o → row_of n ws t.at ≡ row_words (pass_of n o)
  unfolding Carries pass_of row_words
  carried t none h = h.1 n
  carried t (some r) h = h.2 n

  pub carried_side : (t : Text) (o : Option Side) → Carries ws t (side_items o) → row_of n ws t.at ≡ row_words (side_measures n o)
  unfolding Carries side_items bind side_measures row_words
  carried_side t none h = h.1 n
  carried_side t (some x) h = h.2 n

pub even_pass : (n : ℕ) (o : Option Items) → (even_measures n o ≡ 0 → ⊥) → Even n (even_measures n o) (row_words (pass_of n o))
unfolding even_measures pass_of
even_pass n none h = absurd (h refl)
even_pass n (some r) h = even_row n r h

pub even_text : (ws : List ℕ) (n : ℕ) (t : Text) (o : Option Items) → Carries ws t o → 1 ≤ n → n ≤ 32 → EvenText ws n t
even_text ws n t o c low high h =
    let e = carries_even ws t o n c low high in
    rw (e, carried ws n t o c) (even_pass n o (λ z. h (e ∙ z)))
