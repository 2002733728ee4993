-- The words of rows, one behind the other and repeated.
use Rattle.std.proofs.Common.{◌≡◌, ℕ, zero, suc, List, ◌++◌, map, refl, ap, ◌∙◌}
use mathlib.Core.List.{map-append}
use Rattle.songcode.specs.Lists.{times}
use Rattle.songcode.specs.Song.{Beat}
use Rattle.songcode.specs.Answer.Tables.{beat_word}
use Rattle.player.specs.Texts.{row_words}

pub words_append : (a b : List (List Beat)) → row_words (a ++ b) ≡ row_words a ++ row_words b
unfolding row_words
words_append a b = map-append (map beat_word) a b

pub words_times : (k : ℕ) (row : List (List Beat)) → row_words (times k row) ≡ times k (row_words row)
unfolding times row_words
words_times zero row = refl
words_times (suc k) row = words_append row (times k row) ∙ ap (λ x. row_words row ++ x) (words_times k row)
