-- Request 1: the copy that is answered is the one described.
use Prim.Native.Nat.{ℕ}
use mathlib.Core.Path.{◌≡◌, refl, ap, sym, ◌∙◌}
use mathlib.Core.Logic.{◌↔◌}
use mathlib.Core.List.{List, [], ◌∷◌, ◌++◌, map}
use mathlib.Core.Bool.{true, false}
use mathlib.Core.Option.{Option, none, some}
use native.Mathlib.Omega.{arith}
use Rattle.songcode.specs.Lists.{taken, any}
use Rattle.songcode.specs.Answer.Lines.{Line, Block, blocks}
use Rattle.songcode.specs.Complaints.{Complaint, verdict}
use Rattle.songcode.specs.Song.{Key, Section, Song, Beat}
use Rattle.songcode.specs.Answer.Sections.{is_key_line, key_line, pattern_line, kind_of_line, body}
use Rattle.songcode.specs.Answer.SongText.{section_blocks}
use Rattle.songcode.specs.Answer.Playing.{time_of, played}
use Rattle.songcode.specs.Answer.Tables.{Tables, tables}
use Rattle.songcode.specs.Answer.Answer.{song_stages, blocks_of, song_of, Room, stages, answer, accepted, answer_by, room_faults}
use Rattle.songcode.specs.Description.WrittenText.{All, Stops}
use Rattle.songcode.specs.Description.WrittenSection.{Each, none_each, and_each, SectionKey, PatternLine, PatternLines, WrittenSection}
use Rattle.songcode.specs.Description.WrittenSong.{SectionBlock, WrittenSong, WrittenChart}
use Rattle.songcode.specs.Description.Performance.{Parts}
use Rattle.songcode.specs.Description.Fits.{Fits}
use Rattle.songcode.specs.Description.Described.{Described}
use Rattle.songcode.specs.Answer.Flat.{text_of, section_rows, flat_section, plays_nothing, flat_blocks, flat_copy, copy_bytes, copy_by, copy_of}
use Rattle.songcode.specs.Description.WrittenFlat.{rows_of, rows_of_all, silent_part, blocks_copied, Copied}
use Rattle.songcode.proofs.ListLaws.{taken_is}
use Rattle.songcode.proofs.LinesAgree.{lines_complete}
use Rattle.songcode.proofs.BlocksAgree.{blocks_complete}
use Rattle.songcode.proofs.KeyAgree.{key_line_kind}
use Rattle.songcode.proofs.LineAgree.{pattern_line_exact}
use Rattle.songcode.proofs.SectionAgree.{body_is, ending_is, section_once}
use Rattle.songcode.proofs.SongAgree.{metadata_are, sections_are, song_once}
use Rattle.songcode.proofs.MeterAgree.{Performed, parts_performed}
use Rattle.songcode.proofs.TablesAgree.{tables_exact}
use Rattle.songcode.proofs.VerdictAgree.{Silent, verdict_silent, silent_verdict, silent_append, append_silent}
use Rattle.songcode.proofs.AnswerAgree.{accepted_exactly, room_exact}
use Rattle.songcode.proofs.SongAlone.{own_room, own_room_lem}
use Rattle.songcode.proofs.CopySong.{copied_alike}

-- The key lines of a body are those in front.
key_test : (l : Line) → kind_of_line l ≡ key_line → is_key_line l ≡ true
unfolding is_key_line
key_test l e = rw (e, is_key_line)

pattern_test : (l : Line) → kind_of_line l ≡ pattern_line → is_key_line l ≡ false
unfolding is_key_line
pattern_test l e = rw (e, is_key_line)

keys_all : {ls : List Line} {ks : List Key} → Each SectionKey ls ks → All is_key_line ls
unfolding All
keys_all none_each = tt
keys_all (and_each {x = l} w ws) = (key_test l (key_line_kind w.line), keys_all ws)

keys_front : {b : Block} {x : Section} (w : WrittenSection b x) → taken is_key_line (body b) ≡ w.key_lines
unfolding Stops PatternLines
keys_front {b} {x} w =
    let p = (pattern_line_exact w.first_pattern).1 (first_line_lem w) in
    rw (body_is w) (taken_is is_key_line w.key_lines ((w.first_pattern ∷ w.more_pattern) ++ w.modifier_lines) (keys_all w.keys)
    (pattern_test w.first_pattern p.0))
  where
    first_line_lem : (w : WrittenSection b x) → PatternLine w.first_pattern
    first_line_lem w = w.pattern_lines.0

same_rows : (h : List ℕ) {k l : List (List ℕ)} {n m : ℕ} {r q : List (List Beat)} {e f : List (List ℕ)} → k ≡ l → n ≡ m → r ≡ q → e ≡ f
    → section_rows h k n r e ≡ section_rows h l m q f
same_rows h a b c d = cc

section_flat : (s : Song) (b : Block) (x : Section) (p : Parts) (w : WrittenSection b x) → Performed s x p → flat_section s b ≡ rows_of w p
unfolding flat_section rows_of
section_flat s b x p w h =
    same_rows (text_of b.first) (ap (map text_of) (keys_front w)) (ap (λ y. time_of s y) (section_once w) ∙ h.meter)
    (ap (λ y. played s y) (section_once w) ∙ h.row) (ap (map text_of) (ending_is w))

sections_flat : (s : Song) {bs : List Block} {xs : List Section} {ps : List Parts} (ws : Each SectionBlock bs xs) → Each (Performed s) xs ps
    → map (flat_section s) bs ≡ rows_of_all ws ps
unfolding rows_of_all
sections_flat s none_each none_each = refl
sections_flat s (and_each {x = b} {y = x} w ws) (and_each {y = p} h hs) = rw (section_flat s b x p w.section h, sections_flat s ws hs)

nothing_played : (s : Song) {xs : List Section} {ps : List Parts} → Each (Performed s) xs ps → any (plays_nothing s) xs ≡ any silent_part ps
unfolding any plays_nothing silent_part
nothing_played s none_each = refl
nothing_played s (and_each h hs) = rw (h.row, nothing_played s hs)

blocks_flat : (bs : List Block) (s : Song) (ps : List Parts) (w : WrittenSong bs s) → Fits s ps → flat_blocks bs ≡ blocks_copied w ps
unfolding flat_blocks blocks_copied
blocks_flat bs s ps w f =
    let h = parts_performed s f.plays in
    copied_alike (ap (map text_of) (metadata_are w)) (ap (λ (y : Song). any (plays_nothing y) y.sections) (song_once w) ∙ nothing_played s h)
    (ap (λ (y : Song). map (flat_section y) (section_blocks bs)) (song_once w) ∙ ap (map (flat_section s)) (sections_are w) ∙ sections_flat s w.sections h)

chart_blocks : {bs : List ℕ} {s : Song} (w : WrittenChart bs s) → blocks_of bs ≡ w.blocks
unfolding blocks_of
chart_blocks {bs} w = ap (λ x. blocks x) (lines_complete _ w.lines w.lines_written) ∙ blocks_complete w.blocks_written

pub copy_flat : (bs : List ℕ) (s : Song) (ps : List Parts) (w : WrittenChart bs s) → Fits s ps → flat_copy bs ≡ copy_bytes (blocks_copied w.song ps)
unfolding flat_copy
copy_flat bs s ps w f = ap (λ x. copy_bytes (flat_blocks x)) (chart_blocks w) ∙ ap (λ x. copy_bytes x) (blocks_flat w.blocks s ps w.song f)

-- Stages 1 to 7 pass exactly where the song is accepted in the room of its own tables.
stages_pass : (bs : List ℕ) → verdict (song_stages bs) ≡ none → verdict (stages (own_room (tables (song_of bs))) bs) ≡ none
unfolding stages Silent
stages_pass bs h =
    let t = tables (song_of bs) in
    let r = room_faults (own_room t) t ∷ [] in
    let e : Silent r = ((room_exact (own_room t) t).1 (own_room_lem t), tt) in
    silent_verdict (stages (own_room t) bs) (append_silent (song_stages bs) r (verdict_silent (song_stages bs) h) e)

pass_stages : (room : Room) (bs : List ℕ) → verdict (stages room bs) ≡ none → verdict (song_stages bs) ≡ none
unfolding stages
pass_stages room bs h = silent_verdict (song_stages bs) (silent_append (song_stages bs) _ (verdict_silent (stages room bs) h)).0

accepted_passes : (room : Room) (bs : List ℕ) (t : Tables) → answer room bs ≡ accepted t → verdict (stages room bs) ≡ none
unfolding answer answer_by
accepted_passes room bs t h = go (verdict (stages room bs)) h
  where
    go : (o : Option Complaint) → answer_by o (tables (song_of bs)) ≡ accepted t → o ≡ none
    go none e = refl
    go (some c) e = let z : ◌≡◌ {A = ℕ} 0 1 = cc in absurd (omega arith)

pub copied_exactly : (bs copy : List ℕ) → (copy_of bs ≡ some copy) ↔ Copied bs copy
unfolding copy_of copy_by answer answer_by
copied_exactly bs copy = (
  (λ h. go (verdict (song_stages bs)) refl h),
  (λ c.
      let t = tables c.song in
      let w = (tables_exact c.song c.parts t (parts_performed c.song c.fits.plays)).0 refl in
      let d : Described (own_room t) bs t =
      record { song = c.song; parts = c.parts; written = c.written; fits = c.fits; words = w; fitting = own_room_lem t } in
      let v = pass_stages (own_room t) bs (accepted_passes (own_room t) bs t ((accepted_exactly (own_room t) bs t).1 d)) in
      rw v (ap (λ x. some x) (copy_flat bs c.song c.parts c.written c.fits ∙ sym c.copies))),
)
  where
    go : (o : Option Complaint) → verdict (song_stages bs) ≡ o → copy_by o (flat_copy bs) ≡ some copy → Copied bs copy
    go none e h =
        let t = tables (song_of bs) in
        let z : flat_copy bs ≡ copy = cc in
        let a : answer (own_room t) bs ≡ accepted t = rw (stages_pass bs e) refl in
        let d = (accepted_exactly (own_room t) bs t).0 a in
        record {
          song = d.song;
          parts = d.parts;
          written = d.written;
          fits = d.fits;
          copies = sym z ∙ copy_flat bs d.song d.parts d.written d.fits;
        }
    go (some c) e h = let z : ◌≡◌ {A = ℕ} 0 1 = cc in absurd (omega arith)
