-- The words that the answer packs, table by table, are the described ones.
use Prim.Native.Nat.{ℕ, ◌+◌}
use mathlib.Core.Path.{◌≡◌, refl}
use mathlib.Core.List.{List, [], ◌∷◌, map, flat_map}
use lib.ListN.{length}
use Rattle.songcode.specs.Song.{Song, Beat}
use Rattle.songcode.specs.Answer.Playing.{setting_named}
use Rattle.songcode.specs.Answer.Lyrics.{Prompt}
use Rattle.songcode.specs.Answer.Tables.{key_word, key_order, key_words, measure_words, beat_word, item_word}
use Rattle.songcode.specs.Description.Layout.{keys_row, laid, key_fields}
use Rattle.songcode.specs.Description.WrittenTables.{keys_laid, row_words, beat_laid, item_laid}
use Rattle.songcode.proofs.LayoutLaws.{words_laid}

map_same : {A B : Type 0} (f g : A → B) → ((x : A) → f x ≡ g x) → (xs : List A) → map f xs ≡ map g xs
map_same f g h [] = refl
map_same f g h (x ∷ xs) = rw (h x, map_same f g h xs)

pub keys_laid_lem : (s : Song) → key_words s ≡ keys_laid s.keys
unfolding key_words keys_laid
keys_laid_lem s = map_same (λ k. key_word (setting_named k s.keys)) (λ k. laid keys_row (key_fields (setting_named k s.keys))) (λ k. words_laid.key _) key_order

pub rows_laid : (first : ℕ) (row : List (List Beat)) → measure_words first row ≡ row_words first row
unfolding measure_words row_words
rows_laid first [] = refl
rows_laid first (m ∷ row) = rw (words_laid.measure first (length m), rows_laid (first + length m) row)

pub beat_laid_lem : (b : Beat) → beat_word b ≡ beat_laid b
unfolding beat_word beat_laid
beat_laid_lem b = words_laid.beat b.sounds b.head

pub beats_laid : (row : List (List Beat)) → flat_map (map beat_word) row ≡ flat_map (map beat_laid) row
unfolding flat_map
beats_laid [] = refl
beats_laid (m ∷ row) = rw (map_same beat_word beat_laid beat_laid_lem m, beats_laid row)

pub items_laid : (ps : List Prompt) → map item_word ps ≡ map item_laid ps
unfolding item_laid
items_laid ps = map_same item_word item_laid (λ p. words_laid.item p) ps
