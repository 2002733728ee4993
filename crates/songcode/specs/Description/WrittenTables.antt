-- The description of the tables: the words of what each section plays, and of the prompter items, each by its row of the table of tables.
use Rattle.std.specs.Prelude.{ℕ, ◌+◌, ◌≤◌, ◌≡◌, length}
use mathlib.Core.List.{List, [], ◌∷◌, map, flat_map}
use Rattle.std.proofs.Math.Option.{some}
use Rattle.songcode.specs.Bytes.{Byte}
use Rattle.songcode.specs.Song.{Key, Items, LyricLine, Section, Song, Beat}
use Rattle.songcode.specs.Answer.References.{pattern_items}
use Rattle.songcode.specs.Answer.Playing.{setting_named}
use Rattle.songcode.specs.Answer.Lyrics.{Prompt}
use Rattle.songcode.specs.Answer.Tables.{Tables, key_order}
use Rattle.songcode.specs.Description.Layout.{keys_row, sections_row, measures_row, beats_row, items_row, laid, key_fields, beat_fields, item_fields}
use Rattle.songcode.specs.Description.Performance.{Parts, joined}
use Rattle.songcode.specs.Description.WrittenLyrics.{CountedLine, StyledText}
use Rattle.songcode.specs.Description.Fits.{Counted}

-- "keys, 8 in the order name, artist, original, capo, bpm, time, warning, end"
unfoldable pub keys_laid : List Key → List ℕ
keys_laid ks = map (λ k. laid keys_row (key_fields (setting_named k ks))) key_order

-- "sections: header line, first measure, measures, N, bpm": the first measure of a section is how many the sections before it have.
unfoldable pub parts_words : ℕ → List Section → List Parts → List ℕ
parts_words first [] ps = []
parts_words first (x ∷ xs) [] = []
parts_words first (x ∷ xs) (p ∷ ps) =
    laid sections_row (x.header ∷ first ∷ length (joined p) ∷ p.meter ∷ p.tempo ∷ []) ∷ parts_words (first + length (joined p)) xs ps

-- "measures: first beat, beats": the first beat of a measure is how many the measures before it have.
unfoldable pub row_words : ℕ → List (List Beat) → List ℕ
row_words first [] = []
row_words first (m ∷ row) = laid measures_row (first ∷ length m ∷ []) ∷ row_words (first + length m) row

-- "beats: base, extension offset, length, head"
unfoldable pub beat_laid : Beat → ℕ
beat_laid b = laid beats_row (beat_fields b.sounds b.head)

unfoldable pub item_laid : Prompt → ℕ
item_laid p = laid items_row (item_fields p)

-- A section that has lyrics, all with counts, and a pattern that isn't empty.
pub record Sung (s : Song) (x : Section) : Type 0 where
  pub pattern : Items
  pub played : pattern_items s.definitions x.pattern ≡ some pattern
  pub lyrics : 1 ≤ length x.lyrics
  pub sum : ℕ
  pub counted : Counted x.lyrics sum

unfoldable pub AllSung : Song → List Section → Type 0
AllSung s [] = Unit {0}
AllSung s (x ∷ xs) = Sung s x × AllSung s xs

-- The items of counted lines, the first of them at a measure: each lasts as many measures as its count says.
unfoldable pub ItemsFrom : ℕ → List LyricLine → List Prompt → Type 0
ItemsFrom first [] [] = Unit {0}
ItemsFrom first [] (p ∷ ps) = ⊥
ItemsFrom first (l ∷ ls) [] = ⊥
ItemsFrom first (l ∷ ls) (p ∷ ps) =
    (words : List Byte)
    × CountedLine l.text words p.measures
    × StyledText words p.words.style p.words.text
    × (p.first ≡ first)
    × ItemsFrom (first + p.measures) ls ps

unfoldable pub lyrics_of : Section → List LyricLine
lyrics_of x = x.lyrics

-- "Items are written only if every section has lyrics and a pattern that isn't empty, and all have counts; otherwise there are none."
pub data WrittenItems (s : Song) : List ℕ → Type 0 where
  items_there : {words : List ℕ} (prompts : List Prompt) → AllSung s s.sections → ItemsFrom 0 (flat_map lyrics_of s.sections) prompts
      → words ≡ map item_laid prompts → WrittenItems s words
  no_items : {words : List ℕ} → (AllSung s s.sections → ⊥) → words ≡ [] → WrittenItems s words

-- All five tables of a song and of what its sections play.
pub record WrittenTables (s : Song) (ps : List Parts) (t : Tables) : Type 0 where
  pub keys : t.keys ≡ keys_laid s.keys
  pub sections : t.sections ≡ parts_words 0 s.sections ps
  pub measures : t.measures ≡ row_words 0 (flat_map joined ps)
  pub beats : t.beats ≡ flat_map (map beat_laid) (flat_map joined ps)
  pub items : WrittenItems s t.items
