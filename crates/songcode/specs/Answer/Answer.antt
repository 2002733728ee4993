-- The answer to a chart: the one refusal with its line, or the words of all five tables. Stages run one after another.
use Rattle.std.specs.Prelude.{ℕ, suc, List, [], ◌∷◌, ◌++◌, ◌||◌, ltb, length, take}
use Rattle.std.proofs.Math.Option.{Option, none, some}
use Rattle.songcode.specs.Lists.{provided◌then◌else◌}
use Rattle.songcode.specs.Bytes.{placed}
use Rattle.songcode.specs.Answer.Characters.{good_bytes}
use Rattle.songcode.specs.Answer.Chords.{Reading, chord_in}
use Rattle.songcode.specs.Answer.Lines.{Block, lines, blocks, cut_lines}
use Rattle.songcode.specs.Complaints.{Complaint, complaint, complain_if, verdict}
use Rattle.songcode.specs.Song.{Song}
use Rattle.songcode.specs.Answer.SongText.{text_faults_as, song_in_as}
use Rattle.songcode.specs.Answer.References.{reference_faults}
use Rattle.songcode.specs.Answer.Meter.{meter_faults, length_faults}
use Rattle.songcode.specs.Answer.Lyrics.{count_faults, sum_faults}
use Rattle.songcode.specs.Answer.Tables.{Tables, tables}

unfoldable pub most_bytes : ℕ
most_bytes = 65536

-- The line of a place: the line ends before it, and one.
unfoldable pub line_of_place : ℕ → List ℕ → ℕ
unfolding placed cut_lines
line_of_place at bs = suc (length (cut_lines (placed 0 (take at bs))).others)

-- 1: "over 65,536 bytes", line 0. 2: "bad UTF-8 or zero byte (after 1)", on the line of the first such place.
unfoldable pub input_faults : List ℕ → List Complaint
unfolding provided◌then◌else◌ complain_if most_bytes good_bytes line_of_place
input_faults bs =
    provided ltb most_bytes (length bs) then complaint 1 0 ∷ []
    else complain_if (ltb (good_bytes 0 bs) (length bs)) 2 (line_of_place (good_bytes 0 bs) bs)

unfoldable pub blocks_of : List ℕ → List Block
unfolding placed lines blocks
blocks_of bs = blocks (lines (placed 0 bs))

unfoldable pub song_of_as : Reading → List ℕ → Song
unfolding blocks_of song_in_as
song_of_as read bs = song_in_as read (blocks_of bs)

-- How many words each lent table has.
pub record Room : Type 0 where
  pub keys : ℕ
  pub sections : ℕ
  pub measures : ℕ
  pub beats : ℕ
  pub items : ℕ

-- 18: "keys table under 8, or another table too short".
unfoldable pub room_faults : Room → Tables → List Complaint
unfolding complain_if
room_faults r t =
    complain_if
    (ltb r.keys (length t.keys)
    || ltb r.sections (length t.sections)
    || ltb r.measures (length t.measures)
    || ltb r.beats (length t.beats)
    || ltb r.items (length t.items))
    18
    0

-- The complaints of the seven stages of a song, each over the whole file.
unfoldable pub song_stages_as : Reading → List ℕ → List (List Complaint)
unfolding input_faults text_faults_as blocks_of song_of_as reference_faults meter_faults length_faults count_faults sum_faults
song_stages_as read bs =
    input_faults bs
    ∷ text_faults_as read (blocks_of bs)
    ∷ reference_faults (song_of_as read bs)
    ∷ meter_faults (song_of_as read bs)
    ∷ length_faults (song_of_as read bs) 0 (song_of_as read bs).sections
    ∷ count_faults (song_of_as read bs)
    ∷ sum_faults (song_of_as read bs)
    ∷ []

-- Stage 8 is the room in the lent tables.
unfoldable pub stages_as : Reading → Room → List ℕ → List (List Complaint)
unfolding song_stages_as song_of_as room_faults tables
stages_as read room bs = song_stages_as read bs ++ (room_faults room (tables (song_of_as read bs)) ∷ [])

pub data Answer : Type 0 where
  refused : (number line : ℕ) → Answer
  accepted : Tables → Answer

unfoldable pub answer_by : Option Complaint → Tables → Answer
answer_by none t = accepted t
answer_by (some c) t = refused c.number c.line

unfoldable pub answer_as : Reading → Room → List ℕ → Answer
unfolding answer_by verdict stages_as song_of_as tables
answer_as read room bs = answer_by (verdict (stages_as read room bs)) (tables (song_of_as read bs))

-- The answer where no tables are lent, as if they were as long as the song's own: stages 1 to 7.
unfoldable pub song_answer_as : Reading → List ℕ → Answer
unfolding answer_by verdict song_stages_as song_of_as tables
song_answer_as read bs = answer_by (verdict (song_stages_as read bs)) (tables (song_of_as read bs))

-- The same with chords as they are read today.
unfoldable abbrev pub song_of : List ℕ → Song
unfolding song_of_as chord_in
song_of = song_of_as chord_in

unfoldable abbrev pub song_stages : List ℕ → List (List Complaint)
unfolding song_stages_as chord_in
song_stages = song_stages_as chord_in

unfoldable abbrev pub stages : Room → List ℕ → List (List Complaint)
unfolding stages_as chord_in
stages = stages_as chord_in

unfoldable abbrev pub answer : Room → List ℕ → Answer
unfolding answer_as chord_in
answer = answer_as chord_in

unfoldable abbrev pub song_answer : List ℕ → Answer
unfolding song_answer_as chord_in
song_answer = song_answer_as chord_in
