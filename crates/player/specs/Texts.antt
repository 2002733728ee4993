-- The words of what items play, and when items that stand in the row can be walked.
use Rattle.std.specs.Prelude.{◌≡◌, ℕ, zero, suc, ◌<◌, ◌≤◌, List, [], map}
use Rattle.std.proofs.Math.Option.{Option, none, some}
use Rattle.songcode.specs.Answer.Chords.{Chord}
use Rattle.songcode.specs.Song.{Item, measure, loop, refer, Items, one, next, Beat}
use Rattle.songcode.specs.Answer.PatternText.{references}
use Rattle.songcode.specs.Answer.Tables.{beat_word}
use Rattle.tokens.specs.TokenWords.{chord_word}
use Rattle.score.specs.Places.{stretch_of}
use Rattle.score.specs.Standing.{Stands, ChordsFit}

-- The word of what sounds: silence where nothing does.
unfoldable pub voice_word : Option Chord → ℕ
unfolding chord_word
voice_word none = 4227858432
voice_word (some c) = chord_word c

unfoldable pub row_words : List (List Beat) → List (List ℕ)
unfolding beat_word
row_words row = map (map beat_word) row

-- Items that can be walked where those inside can: numbers fit a word, and references say what stands in the row's definitions.
module _ (ws : List ℕ) (f : ℕ → Option Items) where
  -- What the reference says: items that stand in its definition's stretch and hold no reference.
  pub record Says (n : ℕ) (q : Items) : Type 0 where
    pub said : f n ≡ some q
    pub plain : references q ≡ []
    pub stands : Stands ws (stretch_of ws n) q

  unfoldable pub WalkableItem : (Items → Type 0) → Item → Type 0
  WalkableItem inside (measure m) = ChordsFit m.sounds
  WalkableItem inside (loop r n) = (1 ≤ n) × (n < 67108864) × inside r
  WalkableItem inside (refer n) = (n < 67108864) × (q : Items) × Says n q × inside q

  unfoldable pub WalkableBy : (Items → Type 0) → Items → Type 0
  unfolding WalkableItem
  WalkableBy inside (one i) = WalkableItem inside i
  WalkableBy inside (next r s i) = WalkableBy inside r × WalkableItem inside i

  -- In so many levels.
  unfoldable pub Walkable : ℕ → Items → Type 0
  unfolding WalkableBy
  Walkable zero r = ⊥
  Walkable (suc k) r = WalkableBy (Walkable k) r
