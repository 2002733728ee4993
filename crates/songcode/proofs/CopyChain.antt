-- The copy of a song, read again: a song, its own copy, and with the original's tables.
use Prim.Native.Nat.{ℕ, suc, ◌≤◌}
use mathlib.Core.Path.{◌≡◌, refl, ap, sym, subst, ◌∙◌}
use mathlib.Core.List.{List, [], ◌∷◌, map}
use lib.ListN.{length}
use Rattle.songcode.specs.Song.{Section, Song}
use Rattle.songcode.specs.Answer.Tables.{Tables}
use Rattle.songcode.specs.Answer.Answer.{most_bytes, Room, answer, accepted}
use Rattle.songcode.specs.Description.WrittenSection.{Each, none_each, and_each}
use Rattle.songcode.specs.Description.WrittenSong.{WrittenChart}
use Rattle.songcode.specs.Description.Performance.{Parts, PlaysSection}
use Rattle.songcode.specs.Description.Fits.{Fits}
use Rattle.songcode.specs.Description.WrittenTables.{WrittenTables}
use Rattle.songcode.specs.Description.Described.{HasRoom}
use Rattle.songcode.specs.Answer.Flat.{copy_rows, copy_bytes}
use Rattle.songcode.specs.Description.WrittenFlat.{blocks_copied, Copied, ReadsBack}
use Rattle.songcode.proofs.AnswerAgree.{accepted_exactly, one_reading}
use Rattle.songcode.proofs.CopyLines.{file_lines, blocks_at, rows_written, copy_written, copy_clean}
use Rattle.songcode.proofs.CopySong.{FlatSong, flat_parts, song_again}
use Rattle.songcode.proofs.CopyFits.{same_parts, fits_again}
use Rattle.songcode.proofs.CopyReady.{ready}
use Rattle.songcode.proofs.CopyRows.{printed, whole}
use Rattle.songcode.proofs.CopyTables.{tables_again}

parts_length : {s : Song} {xs : List Section} {ps : List Parts} → Each (PlaysSection s) xs ps → length xs ≡ length ps
parts_length none_each = refl
parts_length (and_each p more) = ap suc (parts_length more)

map_length : {A B : Type 0} (f : A → B) (xs : List A) → length (map f xs) ≡ length xs
map_length f [] = refl
map_length f (x ∷ xs) = ap suc (map_length f xs)

same_length : {A B : Type 0} (f : A → B) (xs ys : List A) → map f xs ≡ map f ys → length xs ≡ length ys
same_length f xs ys e = sym (map_length f xs) ∙ ap length e ∙ map_length f ys

room_again : {bs copy : List ℕ} {room : Room} {t u : Tables} → HasRoom room t → ReadsBack bs copy t u → HasRoom room u
room_again {t} {u} h r =
    record {
      keys = rw (same_length _ u.keys t.keys r.keys) h.keys;
      sections = rw (same_length _ u.sections t.sections r.sections) h.sections;
      measures = rw r.measures h.measures;
      beats = rw (same_length _ u.beats t.beats r.beats) h.beats;
      items = rw (same_length _ u.items t.items r.items) h.items;
    }

-- The copy of a described song is a chart, and its song is the flat one.
pub copy_chart : (bs : List ℕ) (s : Song) (ps : List Parts) (w : WrittenChart bs s) (f : Fits s ps) → length (copy_bytes (blocks_copied w.song ps)) ≤ 65536
    → (t : Song) × (v : WrittenChart (copy_bytes (blocks_copied w.song ps)) t) × (g : FlatSong s ps t)
    × (blocks_copied v.song (flat_parts g.sections) ≡ blocks_copied w.song ps)
unfolding copy_bytes
copy_chart bs s ps w f l =
    let rows = blocks_copied w.song ps in
    let p = printed bs s ps w f in
    let a = song_again w.song ps (parts_length f.plays) (ready bs s ps w f) in (
      a.0,
      record {
        short = l;
        characters = whole bs s ps w f;
        lines = file_lines 1 0 (copy_rows rows);
        blocks = blocks_at 1 0 rows;
        lines_written = rows_written (copy_rows rows) (copy_clean rows p);
        blocks_written = copy_written rows p;
        song = a.1;
      },
      a.2,
      a.3,
    )

-- A copy is its own copy.
pub copied_again : (bs copy : List ℕ) → Copied bs copy → length copy ≤ most_bytes → Copied copy copy
unfolding most_bytes
copied_again bs copy c l =
    let k = copy_chart bs c.song c.parts c.written c.fits (subst (λ x. length x ≤ 65536) c.copies l) in
    let g = fits_again c.song k.0 c.parts c.fits (ready bs c.song c.parts c.written c.fits) k.2 in
    subst (λ x. Copied x x) (sym c.copies)
    (record { song = k.0; parts = flat_parts k.2.sections; written = k.1; fits = g; copies = ap (λ x. copy_bytes x) (sym k.3) })

pub reads_back : (room : Room) (bs copy : List ℕ) (t : Tables) → answer room bs ≡ accepted t → Copied bs copy → length copy ≤ most_bytes
    → (u : Tables) × (answer room copy ≡ accepted u) × ReadsBack bs copy t u
unfolding most_bytes
reads_back room bs copy t h c l =
    let d = (accepted_exactly room bs t).0 h in
    let e : d.song ≡ c.song = one_reading bs d.song c.song d.written c.written in
    go d.song e d.parts d.fits d.words d.fitting
  where
    go : (s : Song) → s ≡ c.song → (ps : List Parts) → Fits s ps → WrittenTables s ps t → HasRoom room t
        → (u : Tables) × (answer room copy ≡ accepted u) × ReadsBack bs copy t u
    go s e ps f w r =
        let f' : Fits c.song ps = subst (λ x. Fits x ps) e f in
        let q : ps ≡ c.parts = same_parts c.song ps c.parts f' c.fits in
        let w' : WrittenTables c.song c.parts t = subst (λ x. WrittenTables c.song x t) q (subst (λ x. WrittenTables x ps t) e w) in
        let k = copy_chart bs c.song c.parts c.written c.fits (subst (λ x. length x ≤ 65536) c.copies l) in
        let kw : WrittenChart copy k.0 = subst (λ x. WrittenChart x k.0) (sym c.copies) k.1 in
        let g = fits_again c.song k.0 c.parts c.fits (ready bs c.song c.parts c.written c.fits) k.2 in
        let v = tables_again bs copy c.song k.0 c.parts k.2 c.written kw c.fits g t w' in (
          v.0,
          (accepted_exactly room copy v.0).1
              (record { song = k.0; parts = flat_parts k.2.sections; written = kw; fits = g; words = v.1; fitting = room_again r v.2 }),
          v.2,
        )
