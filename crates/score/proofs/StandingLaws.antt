-- The words of a stretch where items stand, with the items written in front of nothing.
use mathlib.Core.Path.{◌≡◌, ap, sym, ◌∙◌}
use mathlib.Core.List.{List, []}
use Prim.Native.Nat.{ℕ}
use lib.ListN.{take, drop}
use Rattle.songcode.specs.Song.{Items}
use Rattle.songcode.proofs.WrittenBefore.{write_items, appended}
use Rattle.tokens.specs.TokenWords.{token_words}
use Rattle.score.specs.declared.stretches.Stretch.{Stretch}
use Rattle.score.specs.Standing.{Stands}

module _ (ws : List ℕ) (s : Stretch) (r : Items) where
  pub stands_written : Stands ws s r → drop s.from (take s.to ws) ≡ token_words (write_items r [])
  unfolding Stands
  stands_written e = e ∙ ap token_words (sym (appended r))

  pub written_stands : drop s.from (take s.to ws) ≡ token_words (write_items r []) → Stands ws s r
  unfolding Stands
  written_stands e = e ∙ ap token_words (appended r)
