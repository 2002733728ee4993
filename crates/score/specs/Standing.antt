-- When a stretch of the row holds the words of written items, and when every chord and every number of items fits its word.
use Rattle.std.specs.Prelude.{ℕ, ◌<◌, ◌≤◌, ◌≡◌, List, take, drop}
use Rattle.songcode.specs.Song.{Sound, chord, again, silence, Sounds, only, also, Item, measure, loop, refer, Items, one, next}
use Rattle.songcode.specs.Description.WrittenPattern.{items_tokens}
use Rattle.tokens.specs.TokenWords.{chord_word, token_words}
use Rattle.score.specs.declared.stretches.Stretch.{Stretch}

-- The words of the items stand in the stretch.
unfoldable pub Stands : List ℕ → Stretch → Items → Type 0
Stands ws s r = drop s.from (take s.to ws) ≡ token_words (items_tokens r)

-- The word of every chord is of a kind below 34.
unfoldable pub ChordFits : Sound → Type 0
ChordFits (chord c) = chord_word c < 2281701376
ChordFits again = Unit {0}
ChordFits silence = Unit {0}

unfoldable pub ChordsFit : Sounds → Type 0
unfolding ChordFits
ChordsFit (only s) = ChordFits s
ChordsFit (also ss s) = ChordsFit ss × ChordFits s

-- Every chord and every number of the items fits its word.
unfoldable mutual
  unfolding ChordsFit

  pub ItemFits : Item → Type 0
  ItemFits (measure m) = ChordsFit m.sounds
  ItemFits (loop r n) = (1 ≤ n) × (n < 67108864) × ItemsFit r
  ItemFits (refer n) = n < 67108864

  pub ItemsFit : Items → Type 0
  ItemsFit (one i) = ItemFits i
  ItemsFit (next r s i) = ItemsFit r × ItemFits i
