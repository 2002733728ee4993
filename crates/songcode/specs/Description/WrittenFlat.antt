-- Request 1 by the description: which bytes are the copy of a described song, and what its tables keep when it is read again.
use Rattle.std.specs.Prelude.{ℕ, suc, ◌+◌, ◌-◌, ◌*◌, ◌≡◌, List, [], ◌∷◌, ◌++◌, map, Bool, length, take, drop, replicate}
use Rattle.songcode.specs.Lists.{is_empty, any}
use Rattle.songcode.specs.Answer.Lines.{Block}
use Rattle.songcode.specs.Song.{Section, Song, Beat}
use Rattle.songcode.specs.Answer.Tables.{Tables}
use Rattle.songcode.specs.Description.WrittenSection.{Each, none_each, and_each, WrittenSection}
use Rattle.songcode.specs.Description.WrittenSong.{lines_of, SectionBlock, WrittenSong, WrittenChart}
use Rattle.songcode.specs.Description.Performance.{Parts, joined, total}
use Rattle.songcode.specs.Description.Fits.{Fits}
use Rattle.songcode.specs.Description.Layout.{field, without}
use Rattle.songcode.specs.Answer.Flat.{text_of, letters_of, section_rows, key_block, empty_block, copy_bytes}

-- The rows of a section: its lines as they are described, its measures as it plays them.
unfoldable pub rows_of : {b : Block} {x : Section} → WrittenSection b x → Parts → List (List ℕ)
unfolding section_rows text_of joined
rows_of {b} w p = section_rows (text_of b.first) (map text_of w.key_lines) p.meter (joined p) (map text_of w.last_lines)

unfoldable pub rows_of_all : {bs : List Block} {xs : List Section} → Each SectionBlock bs xs → List Parts → List (List (List ℕ))
unfolding rows_of
rows_of_all none_each ps = []
rows_of_all (and_each w ws) [] = []
rows_of_all (and_each w ws) (p ∷ ps) = rows_of w.section p ∷ rows_of_all ws ps

unfoldable pub silent_part : Parts → Bool
unfolding is_empty joined
silent_part p = is_empty (joined p)

unfoldable pub blocks_copied : {bs : List Block} {s : Song} → WrittenSong bs s → List Parts → List (List (List ℕ))
unfolding key_block text_of lines_of empty_block any silent_part rows_of_all
blocks_copied w ps = key_block (map text_of (lines_of w.metadata)) ++ (empty_block (any silent_part ps) ++ rows_of_all w.sections ps)

-- The bytes are the copy of a song.
pub record Copied (bs copy : List ℕ) : Type 0 where
  pub song : Song
  pub parts : List Parts
  pub written : WrittenChart bs song
  pub fits : Fits song parts
  pub copies : copy ≡ copy_bytes (blocks_copied written.song parts)

-- The bytes that a word's offset and length fields name.
unfoldable pub stretch_at : ℕ → ℕ → ℕ → ℕ → List ℕ → ℕ → List ℕ
unfolding field
stretch_at from bits low long bs w = take (field low long w) (drop (field from bits w) bs)

-- "the original's tables but for heads (now all 1), header lines and offsets"; what stands at the offsets is the same.
pub record ReadsBack (bs copy : List ℕ) (t u : Tables) : Type 0 where
  pub keys : map (without 15 16) u.keys ≡ map (without 15 16) t.keys
  pub sections : map (without 47 17) u.sections ≡ map (without 47 17) t.sections
  pub measures : u.measures ≡ t.measures
  pub beats : map (λ w. without 4 1 (without 10 16 w)) u.beats ≡ map (λ w. without 4 1 (without 10 16 w)) t.beats
  pub heads : map (field 4 1) u.beats ≡ replicate (length t.beats) 1
  pub items : map (without 48 16) u.items ≡ map (without 48 16) t.items
  pub settings : map (stretch_at 15 16 6 9 copy) u.keys ≡ map (stretch_at 15 16 6 9 bs) t.keys
  pub extensions : map (stretch_at 10 16 5 5 copy) u.beats ≡ map (stretch_at 10 16 5 5 bs) t.beats
  pub words : map (stretch_at 48 16 32 16 copy) u.items ≡ map (stretch_at 48 16 32 16 bs) t.items

-- The length of the copy from counts alone: a line has its bytes and its end; a measure's line has its letters, a byte for each missing beat,
-- and for each of its N positions the space or line end behind it.
unfoldable pub lines_length : List (List ℕ) → ℕ
lines_length [] = 0
lines_length (l ∷ ls) = suc (length l) + lines_length ls

unfoldable pub letters_length : List Beat → ℕ
unfolding letters_of
letters_length [] = 0
letters_length (b ∷ m) = length (letters_of b) + letters_length m

unfoldable pub row_length : List (List Beat) → ℕ
unfolding letters_length
row_length [] = 0
row_length (m ∷ row) = letters_length m + row_length row

unfoldable pub pattern_length : ℕ → List (List Beat) → ℕ
unfolding row_length total
pattern_length n [] = 3
pattern_length n (m ∷ row) = row_length (m ∷ row) + (n * length (m ∷ row) - total (m ∷ row)) + n * length (m ∷ row)
