-- Request 1, "A flat copy for paper": the copy by the answer's order, as rows of bytes, and the answer of the call.
use Rattle.std.specs.Prelude.{ℕ, ◌-◌, Bool, ◌||◌, ltb, length, get_or, replicate}
use mathlib.Core.List.{List, [], ◌∷◌, ◌++◌, map, flat_map}
use Rattle.std.proofs.Math.Option.{Option, none, some}
use Rattle.songcode.specs.Lists.{taken, is_empty, any, when}
use Rattle.songcode.specs.Bytes.{values, ascii}
use Rattle.songcode.specs.Answer.Chords.{Chord, bases}
use Rattle.songcode.specs.Answer.Lines.{Line, Block}
use Rattle.songcode.specs.Complaints.{Complaint, complain_if, verdict}
use Rattle.songcode.specs.Song.{Section, Song, Beat}
use Rattle.songcode.specs.Answer.Sections.{is_key_line, body, from_dashes, section_in}
use Rattle.songcode.specs.Answer.SongText.{metadata_lines, section_blocks, song_in}
use Rattle.songcode.specs.Answer.Playing.{time_of, played}
use Rattle.songcode.specs.Answer.Answer.{most_bytes, blocks_of, song_stages}

-- A trimmed line, byte for byte.
unfoldable pub text_of : Line → List ℕ
unfolding values
text_of l = values l.text

-- What a beat sounds, by its letters; `_` for silence.
unfoldable pub letters : Option Chord → List ℕ
unfolding values bases ascii
letters none = ascii "_"
letters (some c) = get_or bases c.base [] ++ values c.extension

unfoldable pub letters_of : Beat → List ℕ
unfolding letters
letters_of b = letters b.sounds

-- "one space parts positions"
unfoldable pub parted : List (List ℕ) → List ℕ
parted [] = []
parted (w ∷ ws) = (32 ∷ w) ++ parted ws

unfoldable pub spaced : List (List ℕ) → List ℕ
unfolding parted
spaced [] = []
spaced (w ∷ ws) = w ++ parted ws

-- "each as N positions, one a beat, missing beats as removers"
unfoldable pub flat_measure : ℕ → List Beat → List ℕ
unfolding spaced letters_of ascii
flat_measure n m = spaced (map letters_of m ++ replicate (n - length m) (ascii "="))

-- "a measure has a line of its own"; "An empty pattern stays one, by naming an empty definition `$1`".
unfoldable pub flat_pattern : ℕ → List (List Beat) → List (List ℕ)
unfolding flat_measure ascii
flat_pattern n [] = ascii "$1" ∷ []
flat_pattern n (m ∷ ms) = flat_measure n m ∷ map (flat_measure n) ms

-- A section's lines: header, keys, measures as played, lyrics behind their `--`.
unfoldable pub section_rows : List ℕ → List (List ℕ) → ℕ → List (List Beat) → List (List ℕ) → List (List ℕ)
unfolding flat_pattern
section_rows header keys n row lyrics = header ∷ (keys ++ (flat_pattern n row ++ lyrics))

-- "key lines make one block": none where there are none.
unfoldable pub key_block : List (List ℕ) → List (List (List ℕ))
key_block [] = []
key_block (l ∷ ls) = (l ∷ ls) ∷ []

-- "written only if needed"
unfoldable pub empty_block : Bool → List (List (List ℕ))
unfolding when ascii
empty_block needed = when needed (ascii "$1" ∷ [])

-- "Lines, trimmed, end in LF", "one blank line parts blocks".
unfoldable pub end_line : List ℕ → List ℕ
end_line l = l ++ (10 ∷ [])

unfoldable pub further_rows : List (List (List ℕ)) → List (List ℕ)
further_rows [] = []
further_rows (b ∷ bs) = [] ∷ (b ++ further_rows bs)

unfoldable pub copy_rows : List (List (List ℕ)) → List (List ℕ)
unfolding further_rows
copy_rows [] = []
copy_rows (b ∷ bs) = b ++ further_rows bs

unfoldable pub copy_bytes : List (List (List ℕ)) → List ℕ
unfolding flat_map end_line copy_rows
copy_bytes bs = flat_map end_line (copy_rows bs)

-- The same for a file that has been read.
unfoldable pub flat_section : Song → Block → List (List ℕ)
unfolding section_rows text_of taken is_key_line body from_dashes time_of played section_in
flat_section s b =
    section_rows (text_of b.first) (map text_of (taken is_key_line (body b))) (time_of s (section_in b)) (played s (section_in b)) (map text_of (from_dashes b))

unfoldable pub plays_nothing : Song → Section → Bool
unfolding is_empty played
plays_nothing s x = is_empty (played s x)

unfoldable pub flat_blocks : List Block → List (List (List ℕ))
unfolding key_block text_of metadata_lines empty_block any plays_nothing song_in flat_section section_blocks
flat_blocks bs =
    key_block (map text_of (metadata_lines bs))
    ++ (empty_block (any (plays_nothing (song_in bs)) (song_in bs).sections) ++ map (flat_section (song_in bs)) (section_blocks bs))

unfoldable pub flat_copy : List ℕ → List ℕ
unfolding copy_bytes flat_blocks blocks_of
flat_copy bs = copy_bytes (flat_blocks (blocks_of bs))

-- The copy of a song that nothing is complained of.
unfoldable pub copy_by : Option Complaint → List ℕ → Option (List ℕ)
copy_by none copy = some copy
copy_by (some c) copy = none

unfoldable pub copy_of : List ℕ → Option (List ℕ)
unfolding copy_by verdict song_stages flat_copy
copy_of bs = copy_by (verdict (song_stages bs)) (flat_copy bs)

-- 20, line 0, "when the copy is longer than the lent buffer or than 65,536 bytes".
unfoldable pub copy_faults : ℕ → List ℕ → List Complaint
unfolding complain_if most_bytes
copy_faults lent copy = complain_if (ltb lent (length copy) || ltb most_bytes (length copy)) 20 0

unfoldable pub flat_stages : ℕ → List ℕ → List (List Complaint)
unfolding song_stages copy_faults flat_copy
flat_stages lent bs = song_stages bs ++ (copy_faults lent (flat_copy bs) ∷ [])

pub data FlatAnswer : Type 0 where
  refused : (number line : ℕ) → FlatAnswer
  copied : List ℕ → FlatAnswer

unfoldable pub flat_by : Option Complaint → List ℕ → FlatAnswer
flat_by none copy = copied copy
flat_by (some c) copy = refused c.number c.line

unfoldable pub flat_answer : ℕ → List ℕ → FlatAnswer
unfolding flat_by verdict flat_stages flat_copy
flat_answer lent bs = flat_by (verdict (flat_stages lent bs)) (flat_copy bs)
