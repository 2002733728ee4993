-- The whole: a chart is accepted exactly where it is a described song that fits its stages and the tables have room; each refusal is given exactly when stated.
use Prim.Native.Nat.{ℕ, ◌≤◌}
use mathlib.Core.Path.{◌≡◌, refl, ap, sym, ◌∙◌, subst}
use mathlib.Core.Logic.{◌↔◌}
use mathlib.Core.List.{List, []}
use mathlib.Core.Option.{Option, none, some}
use native.Mathlib.Omega.{arith}
use lib.Dec.{ltb}
use lib.ListN.{length}
use borrow.Author.Tests.{ltb-false, le-ltb}
use Rattle.songcode.specs.Lists.{provided◌then◌else◌}
use Rattle.songcode.specs.Bytes.{placed}
use Rattle.songcode.specs.Answer.Characters.{good_bytes}
use Rattle.songcode.specs.Answer.Lines.{lines, blocks}
use Rattle.songcode.specs.Complaints.{Complaint, complaint, complain_if, verdict}
use Rattle.songcode.specs.Song.{Song}
use Rattle.songcode.specs.Answer.SongText.{text_faults}
use Rattle.songcode.specs.Answer.References.{reference_faults}
use Rattle.songcode.specs.Answer.Meter.{meter_faults, length_faults}
use Rattle.songcode.specs.Answer.Lyrics.{count_faults, sum_faults}
use Rattle.songcode.specs.Answer.Tables.{Tables, tables}
use Rattle.songcode.specs.Answer.Answer.{most_bytes, input_faults, line_of_place, blocks_of, song_of, Room, room_faults, stages, refused, accepted, answer_by}
use Rattle.songcode.specs.Answer.Answer.{answer}
use Rattle.songcode.specs.Description.WrittenText.{Characters}
use Rattle.songcode.specs.Description.WrittenSong.{WrittenSong, WrittenChart}
use Rattle.songcode.specs.Description.Described.{HasRoom, Described}
use Rattle.songcode.specs.Description.Given.{Given}
use Rattle.songcode.proofs.ListLaws.{by_cases, none_passes, pass_none, complain_if_nil, nil_complain_if, nil_is_not_cons}
use Rattle.songcode.proofs.PlainAgree.{song_plain}
use Rattle.songcode.proofs.CharactersAgree.{good_bytes_le, good_text}
use Rattle.songcode.proofs.LinesAgree.{lines_sound, lines_complete}
use Rattle.songcode.proofs.BlocksAgree.{blocks_sound, blocks_complete}
use Rattle.songcode.proofs.SongAgree.{song_exact, song_once, song_reading}
use Rattle.songcode.proofs.ReferencesAgree.{references_exact}
use Rattle.songcode.proofs.MeterAgree.{playing_exact, parts_played, parts_performed}
use Rattle.songcode.proofs.LyricsAgree.{counts_exact}
use Rattle.songcode.proofs.TablesAgree.{tables_exact}
use Rattle.songcode.proofs.VerdictAgree.{verdict_given, given_verdict, Silent, verdict_silent, silent_verdict}

-- Stage 1.
input_exact : (bs : List ℕ) → (input_faults bs ≡ []) ↔ ((length bs ≤ 65536) × Characters bs)
unfolding input_faults most_bytes provided◌then◌else◌
input_exact bs = (
  (λ h.
      by_cases (ltb 65536 (length bs))
      (λ t. nil_is_not_cons (sym (rw t at h)))
      (λ f.
      let g : complain_if (ltb (good_bytes 0 bs) (length bs)) 2 (line_of_place (good_bytes 0 bs) bs) ≡ [] = rw f at h in
      let l = ltb-false (good_bytes 0 bs) (length bs) (complain_if_nil _ _ _ g) in
      let m = good_bytes_le 0 bs in
      (ltb-false 65536 (length bs) f, (good_text bs).0 (omega arith)))),
  (λ h.
      let e = (good_text bs).1 h.1 in
      rw (le-ltb 65536 (length bs) h.0) (nil_complain_if 2 (line_of_place (good_bytes 0 bs) bs) (le-ltb (good_bytes 0 bs) (length bs) (omega arith)))),
)

-- Stages 1 and 2: the chart that is written.
pub chart_of : (bs : List ℕ) (s : Song) → input_faults bs ≡ [] → WrittenSong (blocks_of bs) s → WrittenChart bs s
unfolding blocks_of
chart_of bs s h w =
    let g = (input_exact bs).0 h in
    record {
      short = g.0;
      characters = g.1;
      lines = lines (placed 0 bs);
      blocks = blocks (lines (placed 0 bs));
      lines_written = lines_sound (placed 0 bs);
      blocks_written = blocks_sound (lines (placed 0 bs));
      song = w;
    }

pub of_chart : (bs : List ℕ) (s : Song) → WrittenChart bs s → WrittenSong (blocks_of bs) s
unfolding blocks_of
of_chart bs s c =
    let l = lines_complete (placed 0 bs) c.lines c.lines_written in
    let b = blocks_complete c.blocks_written in
    subst (λ x. WrittenSong x s) (sym (ap (λ x. blocks x) l ∙ b)) c.song

-- Stage 8.
pub room_exact : (room : Room) (t : Tables) → (room_faults room t ≡ []) ↔ HasRoom room t
unfolding room_faults
room_exact room t = (
  (λ h.
      let a = none_passes _ (ltb room.items (length t.items)) (complain_if_nil _ 18 0 h) in
      let b = none_passes _ (ltb room.beats (length t.beats)) a.0 in
      let c = none_passes _ (ltb room.measures (length t.measures)) b.0 in
      let d = none_passes (ltb room.keys (length t.keys)) (ltb room.sections (length t.sections)) c.0 in
      record {
        keys = ltb-false _ _ d.0;
        sections = ltb-false _ _ d.1;
        measures = ltb-false _ _ c.1;
        beats = ltb-false _ _ b.1;
        items = ltb-false _ _ a.1;
      }),
  (λ r.
      nil_complain_if 18 0
      (pass_none (pass_none (pass_none (pass_none (le-ltb _ _ r.keys) (le-ltb _ _ r.sections)) (le-ltb _ _ r.measures))
      (le-ltb _ _ r.beats)) (le-ltb _ _ r.items))),
)

-- All eight stages state nothing: what that says.
record Passed (room : Room) (bs : List ℕ) : Type 0 where
  input : input_faults bs ≡ []
  text : text_faults (blocks_of bs) ≡ []
  refers : reference_faults (song_of bs) ≡ []
  meter : meter_faults (song_of bs) ≡ []
  long : length_faults (song_of bs) 0 (song_of bs).sections ≡ []
  counts : count_faults (song_of bs) ≡ []
  sums : sum_faults (song_of bs) ≡ []
  room_there : room_faults room (tables (song_of bs)) ≡ []

passed_by : (room : Room) (bs : List ℕ) → verdict (stages room bs) ≡ none → Passed room bs
unfolding stages Silent
passed_by room bs h =
    let s = verdict_silent (stages room bs) h in
    record {
      input = s.0;
      text = s.1.0;
      refers = s.1.1.0;
      meter = s.1.1.1.0;
      long = s.1.1.1.1.0;
      counts = s.1.1.1.1.1.0;
      sums = s.1.1.1.1.1.1.0;
      room_there = s.1.1.1.1.1.1.1.0;
    }

by_passed : (room : Room) (bs : List ℕ) → Passed room bs → verdict (stages room bs) ≡ none
unfolding stages Silent
by_passed room bs p =
    silent_verdict (stages room bs)
    (p.input, (p.text, (p.refers, (p.meter, (p.long, (p.counts, (p.sums, (p.room_there, tt))))))))

pub song_read : (bs : List ℕ) (s : Song) → WrittenSong (blocks_of bs) s → song_of bs ≡ s
unfolding song_of
song_read bs s w = song_once w

-- A chart that passes is described.
described_by : (room : Room) (bs : List ℕ) → Passed room bs → Described room bs (tables (song_of bs))
described_by room bs p =
    let found = (song_exact (blocks_of bs)).0 p.text in
    let same : song_of bs ≡ found.0 = song_read bs found.0 found.1 in
    let w : WrittenSong (blocks_of bs) (song_of bs) = subst (λ x. WrittenSong (blocks_of bs) x) (sym same) found.1 in
    let s = song_of bs in
    let r = (references_exact s).0 p.refers in
    let q = (playing_exact s (song_plain s w r.0)).0 (p.meter, p.long) in
    let each = parts_played s q.1 in
    record {
      song = s;
      parts = q.0;
      written = chart_of bs s p.input w;
      fits = record { definitions_refer = r.0; sections_refer = r.1; plays = q.1; short = q.2; counts = (counts_exact s q.0 each).0 (p.counts, p.sums) };
      words = (tables_exact s q.0 (tables s) (parts_performed s q.1)).0 refl;
      fitting = (room_exact room (tables s)).0 p.room_there;
    }

-- A chart that is described passes, and its tables are those of the song that is read.
by_described : (room : Room) (bs : List ℕ) (t : Tables) → Described room bs t → Passed room bs × (t ≡ tables (song_of bs))
by_described room bs t d =
    let w = of_chart bs d.song d.written in
    let same : song_of bs ≡ d.song = song_read bs d.song w in
    let f = d.fits in
    let each = parts_played d.song f.plays in
    let q = (playing_exact d.song (song_plain d.song w f.definitions_refer)).1 (d.parts, f.plays, f.short) in
    let c = (counts_exact d.song d.parts each).1 f.counts in
    let e : t ≡ tables d.song = (tables_exact d.song d.parts t (parts_performed d.song f.plays)).1 d.words in (
      record {
        input = (input_exact bs).1 (d.written.short, d.written.characters);
        text = (song_exact (blocks_of bs)).1 (d.song, w);
        refers = rw same ((references_exact d.song).1 (f.definitions_refer, f.sections_refer));
        meter = rw same q.0;
        long = rw same q.1;
        counts = rw same c.0;
        sums = rw same c.1;
        room_there = rw (same, ← e) ((room_exact room t).1 d.fitting);
      },
      rw same e,
    )

pub described_song : {room : Room} {bs : List ℕ} {t : Tables} (d : Described room bs t) → song_of bs ≡ d.song
described_song {room} {bs} d = song_read bs d.song (of_chart bs d.song d.written)

-- Demand 3: accepted exactly.
pub accepted_exactly : (room : Room) (bs : List ℕ) (t : Tables) → (answer room bs ≡ accepted t) ↔ Described room bs t
unfolding answer answer_by
accepted_exactly room bs t = (
  (λ h. go (verdict (stages room bs)) refl h),
  (λ d. let g = by_described room bs t d in rw (by_passed room bs g.0) (ap (λ x. accepted x) (sym g.1))),
)
  where
    go : (o : Option Complaint) → verdict (stages room bs) ≡ o → answer_by o (tables (song_of bs)) ≡ accepted t → Described room bs t
    go none e h = let z : tables (song_of bs) ≡ t = cc in subst (λ x. Described room bs x) z (described_by room bs (passed_by room bs e))
    go (some c) e h = let z : ◌≡◌ {A = ℕ} 0 1 = cc in absurd (omega arith)

-- Each refusal is given exactly when stated and earlier ones are not.
pub refused_exactly : (room : Room) (bs : List ℕ) (number line : ℕ) → (answer room bs ≡ refused number line) ↔ Given (stages room bs) (complaint number line)
unfolding answer answer_by
refused_exactly room bs number line = (
  (λ h. go (verdict (stages room bs)) refl h),
  (λ g. rw (given_verdict (stages room bs) (complaint number line) g)),
)
  where
    go : (o : Option Complaint) → verdict (stages room bs) ≡ o → answer_by o (tables (song_of bs)) ≡ refused number line
        → Given (stages room bs) (complaint number line)
    go none e h = let z : ◌≡◌ {A = ℕ} 0 1 = cc in absurd (omega arith)
    go (some c) e h =
        let n : c.number ≡ number = cc in
        let l : c.line ≡ line = cc in
        verdict_given (stages room bs) (complaint number line) (e ∙ ap (λ x. some (complaint x c.line)) n ∙ ap (λ x. some (complaint number x)) l)

-- No file has two readings.
pub one_reading : (bs : List ℕ) (s t : Song) → WrittenChart bs s → WrittenChart bs t → s ≡ t
one_reading bs s t w v = song_reading (of_chart bs s w) (of_chart bs t v)
