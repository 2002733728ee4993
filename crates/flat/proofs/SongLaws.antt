-- A song that nothing is wrong with: its sections are heard by the letters of the file, and its copy is put block by block.
use Prim.Native.Nat.{ℕ, ◌≤◌}
use mathlib.Core.Path.{◌≡◌, refl, sym, ◌∙◌, subst}
use mathlib.Core.List.{List, [], ◌∷◌, ◌++◌, map}
use mathlib.Core.Bool.{Bool, true, false}
use mathlib.Core.Option.{none, some}
use native.Mathlib.Omega.{arith}
use lib.ListN.{length}
use Rattle.songcode.specs.Lists.{any, when}
use Rattle.songcode.specs.Bytes.{placed}
use Rattle.songcode.specs.Complaints.{verdict}
use Rattle.songcode.specs.Answer.Lines.{Block}
use Rattle.songcode.specs.Song.{Section, Song}
use Rattle.songcode.specs.Answer.SongText.{text_faults, metadata_lines, section_blocks}
use Rattle.songcode.specs.Answer.Playing.{played}
use Rattle.songcode.specs.Answer.Answer.{input_faults, blocks_of, song_of, song_stages}
use Rattle.songcode.specs.Description.WrittenSection as Written
use Rattle.songcode.specs.Description.WrittenSection.{none_each, and_each}
use Rattle.songcode.specs.Description.Performance.{Parts}
use Rattle.songcode.specs.Answer.Flat.{text_of, key_block, empty_block, section_rows, flat_section, plays_nothing, flat_blocks, flat_copy, copy_by, copy_of}
use Rattle.songcode.specs.Description.WrittenFlat.{Copied}
use Rattle.songcode.proofs.ListLaws.{Each, each_map, each_append}
use Rattle.songcode.proofs.VerdictAgree.{Silent, silent_verdict}
use Rattle.songcode.proofs.AnswerAgree.{of_chart, song_read}
use Rattle.songcode.proofs.MeterAgree.{Performed, parts_performed}
use Rattle.songcode.proofs.ChordsPlayed.{OfRow}
use Rattle.songcode.proofs.SpeltChords.{Known}
use Rattle.songcode.proofs.CopyReady.{Good, KnownParts, known}
use Rattle.songcode.proofs.CopiedExactly.{copied_exactly}
use Rattle.judging.specs.Charts.{Clear}
use Rattle.judging.proofs.StageLaws.{input_small}
use Rattle.flat.specs.Sheets.{Sheet, puts}
use Rattle.flat.specs.Taken.{line_bytes}
use Rattle.flat.specs.Measures.{Heard}
use Rattle.flat.specs.Blocks.{put_blocks}
use Rattle.flat.proofs.BlockLaws.{Lined, blocks_append, copy_blocks, keys_block}
use Rattle.flat.proofs.HeardLaws.{row_heard}

-- What every section plays is spelled in the file.
known_all : (file : List ℕ) (s : Song) {xs : List Section} {ps : List Parts} → Written.Each (Performed s) xs ps → KnownParts (placed 0 file) ps
    → Each (λ x. OfRow (Known (placed 0 file)) (played s x)) xs
unfolding Each KnownParts Good
known_all file s none_each k = tt
known_all file s (and_each h hs) k = (subst (λ row. OfRow (Known (placed 0 file)) row) (sym h.row) k.0.1, known_all file s hs k.1)

abbrev pub HeardIn : List ℕ → Section → Type 0
HeardIn bs x = Heard bs (played (song_of bs) x)

heard_song : (bs : List ℕ) → length bs ≤ 65536 → Copied bs (flat_copy bs) → Each (HeardIn bs) (song_of bs).sections
heard_song bs small c =
    let same = song_read bs c.song (of_chart bs c.song c.written) in
    let ks = known_all bs c.song (parts_performed c.song c.fits.plays) (known bs c.song c.parts c.written c.fits) in
    subst (λ (s : Song). Each (λ x. Heard bs (played s x)) s.sections) (sym same)
    (each_map (λ x k. row_heard bs small (played c.song x) k) c.song.sections ks)

pub heard_all : (bs : List ℕ) → input_faults bs ≡ [] → text_faults (blocks_of bs) ≡ [] → Clear (song_of bs) → Each (HeardIn bs) (song_of bs).sections
unfolding song_stages Silent copy_of copy_by
heard_all bs input texts clear =
    let v : verdict (song_stages bs) ≡ none =
    silent_verdict (song_stages bs) (input, (texts, (clear.references, (clear.meters, (clear.lengths, (clear.counts, (clear.sums, tt))))))) in
    let e : copy_of bs ≡ some (flat_copy bs) = rw v refl in
    heard_song bs (input_small bs input) ((copied_exactly bs (flat_copy bs)).0 e)

-- Every block of a copy has a line.
keys_lined : (ls : List (List ℕ)) → Lined (key_block ls)
unfolding Lined key_block Each
keys_lined [] = tt
keys_lined (l ∷ ls) = (omega arith, tt)

empty_lined : (needed : Bool) → Lined (empty_block needed)
unfolding Lined empty_block when Each
empty_lined true = (omega arith, tt)
empty_lined false = tt

sections_lined : (s : Song) (bs : List Block) → Lined (map (flat_section s) bs)
unfolding Lined flat_section section_rows Each
sections_lined s [] = tt
sections_lined s (b ∷ bs) = (omega arith, sections_lined s bs)

-- Key lines, the empty definition and the sections are the copy.
pub copy_put : (s : List ℕ) (needed : Bool) (bs : List Block) (c : List ℕ) (x y z : Sheet) → needed ≡ any (plays_nothing (song_of s)) (song_of s).sections
    → bs ≡ section_blocks (blocks_of s) → x ≡ puts (line_bytes (metadata_lines (blocks_of s))) (record { copy = c; at = 0 })
    → y ≡ put_blocks (empty_block needed) x → z ≡ put_blocks (map (flat_section (song_of s)) bs) y → z ≡ puts (flat_copy s) (record { copy = c; at = 0 })
unfolding flat_copy flat_blocks song_of Lined
copy_put s needed bs c x y z is are e f g =
    let start : Sheet = record { copy = c; at = 0 } in
    let k = key_block (map text_of (metadata_lines (blocks_of s))) in
    let m = map (flat_section (song_of s)) (section_blocks (blocks_of s)) in
    let n = empty_block (any (plays_nothing (song_of s)) (song_of s).sections) in
    let a : x ≡ put_blocks k start = e ∙ keys_block (metadata_lines (blocks_of s)) c in
    let b : z ≡ put_blocks m (put_blocks n (put_blocks k start)) = g ∙ rw (are, f, is, a) refl in
    let lined = each_append _ k (n ++ m) (keys_lined (map text_of (metadata_lines (blocks_of s))))
    (each_append _ n m (empty_lined (any (plays_nothing (song_of s)) (song_of s).sections)) (sections_lined (song_of s) (section_blocks (blocks_of s)))) in
    b ∙ sym (blocks_append n m (put_blocks k start)) ∙ sym (blocks_append k (n ++ m) start) ∙ copy_blocks (k ++ (n ++ m)) c lined
