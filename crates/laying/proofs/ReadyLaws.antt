-- The definitions of a song at the front of the row: what is found of each number, and what it plays.
use Prim.Native.Nat.{ℕ}
use mathlib.Core.List.{List}
use Rattle.songcode.specs.Song.{named}
use Rattle.songcode.specs.Answer.References.{definition_of, pattern_items}
use Rattle.songcode.specs.Answer.Answer.{song_of}
use Rattle.score.specs.Places.{stretch_of}
use Rattle.outlines.specs.Words.{look_up, is_missing}
use Rattle.laying.specs.Scores.{named_text, Carries, Told, Ready}
use Rattle.laying.specs.Loading.{Held}
use Rattle.laying.proofs.HeldLaws.{missing_told, filled_told, carries_all}
use Rattle.laying.proofs.FrontLaws.{front_held}

module _ {s ws : List ℕ} {mark : ℕ} (r : Ready s ws mark) where
  all_held : (n : ℕ) → Held (song_of s).definitions ws (definition_of n (song_of s).definitions) (is_missing ws n) (stretch_of ws n) (look_up ws n)
  all_held n = front_held (song_of s).definitions ws n r.front

  pub ready_told : Told s ws
  ready_told =
      record {
        small = r.small;
        missing = missing_told (song_of s).definitions ws all_held;
        filled = filled_told (song_of s).definitions ws all_held;
      }

  pub ready_carries : (n : ℕ) → Carries ws (named_text ws n) (pattern_items (song_of s).definitions (named n))
  ready_carries = carries_all (song_of s).definitions ws all_held
