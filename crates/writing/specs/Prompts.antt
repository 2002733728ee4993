-- The words of prompter items, from the words of the lyric lines in the row.
use Rattle.std.specs.Prelude.{ℕ, zero, suc, ◌+◌, List, [], ◌∷◌, take, drop}
use Rattle.packing.specs.Fields.{packed_item}
use Rattle.score.specs.declared.stretches.Stretch.{Stretch}
use Rattle.score.specs.LyricLines.{lyric_in}

-- The words of a stretch.
abbrev pub words_in : List ℕ → Stretch → List ℕ
words_in ws t = drop t.from (take t.to ws)

-- The counts of the lines, two words a line, and the words of their items from a measure on.
unfoldable pub counts_in : List ℕ → ℕ
counts_in [] = 0
counts_in (a ∷ []) = 0
counts_in (a ∷ b ∷ ws) = (lyric_in a b).count + counts_in ws

unfoldable pub prompt_words : ℕ → List ℕ → List ℕ
prompt_words first [] = []
prompt_words first (a ∷ []) = []
prompt_words first (a ∷ b ∷ ws) =
    packed_item (lyric_in a b).offset (lyric_in a b).length first (lyric_in a b).count (lyric_in a b).style
    ∷ prompt_words (first + (lyric_in a b).count) ws

-- The lyric lines that become items: none where the song has no items.
unfoldable pub lyrics_taken : ℕ → Stretch → Stretch
lyrics_taken zero t = record { from = 0; to = 0 }
lyrics_taken (suc k) t = t
