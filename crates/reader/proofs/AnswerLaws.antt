-- The answer of a song that stages 1 to 7 have judged, by the room in the tables.
use Prim.Native.Nat.{ℕ, ◌≤◌}
use mathlib.Core.Path.{◌≡◌, refl, sym, ap, ◌∙◌}
use mathlib.Core.List.{List, [], ◌∷◌}
use mathlib.Core.Bool.{true, false}
use Rattle.std.specs.Prelude.{Result, Ok, Err, IsErrAnd}
use Rattle.refusals.specs.declared.Refusal.{Refusal}
use Rattle.refusals.specs.Names.{number_of}
use native.Mathlib.Omega.{arith}
use lib.ListN.{length}
use lib.Seq.{sets}
use Rattle.songcode.specs.Lists.{when}
use Rattle.songcode.specs.Complaints.{complaint, complain_if, earlier, earliest}
use Rattle.songcode.specs.Song.{Song}
use Rattle.songcode.specs.Answer.Tables.{Tables, tables, key_words, key_order}
use Rattle.songcode.specs.Answer.Answer as songcode
use Rattle.songcode.specs.Answer.Answer.{Room, input_faults, blocks_of, song_of, room_faults, refused, accepted, answer_by, answer, song_answer}
use Rattle.songcode.specs.Answer.SongText.{text_faults}
use Rattle.songcode.specs.Description.Described.{HasRoom}
use Rattle.songcode.proofs.SongAlone.{refused_with_tables, refused_without_tables, judged_by_room, accepted_with_room}
use Rattle.judging.specs.Charts.{Writable}
use Rattle.judging.specs.declared.charts.Chart.{Chart}
use Rattle.judging.specs.Sums.{Holds}
use Rattle.judging.proofs.VerdictLaws.{song_accepted}
use Rattle.judging.specs.declared.sums.Totals.{Totals}
use Rattle.reader.specs.declared.answers.Answer.{Answer}
use Rattle.reader.specs.declared.answers.Room as code
use Rattle.reader.specs.Answers.{answer_of, Lent, lent, room_of, stored, Promised, Counted}
use Rattle.reader.specs.Room.{is_short, room_is, refused_with, accepted_with, answered_by}

-- Stage 8, for a song that the others accept.
module _ (room : Room) (bs : List ℕ) (is : song_answer bs ≡ accepted (tables (song_of bs))) where
  pub short_refused : room_faults room (tables (song_of bs)) ≡ complaint 18 0 ∷ [] → answer room bs ≡ refused 18 0
  unfolding earliest earlier answer_by
  short_refused e = judged_by_room room bs (tables (song_of bs)) is ∙ ap (λ fs. answer_by (earliest fs) (tables (song_of bs))) e

  pub roomy_accepted : room_faults room (tables (song_of bs)) ≡ [] → answer room bs ≡ accepted (tables (song_of bs))
  unfolding earliest answer_by
  roomy_accepted e = judged_by_room room bs (tables (song_of bs)) is ∙ ap (λ fs. answer_by (earliest fs) (tables (song_of bs))) e

-- Whether a table is too short, by the counts of the song.
keys_eight : (song : Song) → length (tables song).keys ≡ 8
unfolding tables key_words key_order
keys_eight song = refl

module _ (room : code.Room) (song : Song) (t : Totals) (e : Holds (tables song) t) where
  short_is : is_short t room ≡ true → room_faults (room_is room) (tables song) ≡ complaint 18 0 ∷ []
  unfolding room_faults complain_if when
  short_is h = let f = rw (e.sections, e.measures, e.beats, e.items, ← keys_eight song) at h in rw f refl

  long_is : is_short t room ≡ false → room_faults (room_is room) (tables song) ≡ []
  unfolding room_faults complain_if when
  long_is h = let f = rw (e.sections, e.measures, e.beats, e.items, ← keys_eight song) at h in rw f refl

-- A chart that can be written: the song is accepted, and where the tables have room, it is answered with its counts.
module _ (bs ws : List ℕ) (chart : Chart) (input : input_faults bs ≡ []) (text : text_faults (blocks_of bs) ≡ []) (w : Writable bs ws chart) where
  is_song : song_answer bs ≡ accepted (tables (song_of bs))
  is_song = song_accepted bs input text w.laid.clear

  song_counts : accepted_with chart.totals ≡ answer_of (accepted (tables (song_of bs)))
  unfolding answer_of
  song_counts = let h = w.holds in rw (h.sections, h.measures, h.beats, h.items) refl

  pub counted_is : Counted bs (accepted_with chart.totals)
  counted_is = record { answer = song_counts ∙ sym (ap answer_of is_song) }

  module _ (room : code.Room) where
    pub short_answer : is_short chart.totals room ≡ true → answer (room_is room) bs ≡ refused 18 0
    short_answer h = short_refused (room_is room) bs is_song (short_is room (song_of bs) chart.totals w.holds h)

    pub long_answer : is_short chart.totals room ≡ false → answer (room_is room) bs ≡ accepted (tables (song_of bs))
    long_answer h = roomy_accepted (room_is room) bs is_song (long_is room (song_of bs) chart.totals w.holds h)

    pub long_counts : is_short chart.totals room ≡ false → accepted_with chart.totals ≡ answer_of (answer (room_is room) bs)
    long_counts h = song_counts ∙ sym (ap answer_of (long_answer h))

-- Where a song is stored, each table has room.
pub keys_room : (room : Room) (song : Song) → HasRoom room (tables song) → 8 ≤ room.keys
keys_room room song h = omega (arith, h.keys, keys_eight song)

-- A refusal is promised where no table was written, and a song where all were.
pub promised_refused : (text : List ℕ) (before : Lent) (e : Refusal) (r : Result Totals Refusal) → IsErrAnd r (λ y. y ≡ e)
    → answer (room_of before) text ≡ refused (number_of e.why) e.line → Promised text before (answered_by r) before
unfolding answer_of stored
promised_refused text before e (Ok t) is a = absurd is
promised_refused text before e (Err y) is a = rw is (record { answer = rw a refl; tables = rw a refl })

-- One of the stages before the last, whatever the room.
pub promised_early : (text : List ℕ) (before : Lent) (e : Refusal) (r : Result Totals Refusal) → IsErrAnd r (λ y. y ≡ e)
    → song_answer text ≡ refused (number_of e.why) e.line → Promised text before (answered_by r) before
promised_early text before e r is a = promised_refused text before e r is (refused_with_tables (room_of before) text (number_of e.why) e.line a)

-- The last stage.
pub promised_short : (text : List ℕ) (before : Lent) → answer (room_of before) text ≡ refused 18 0 → Promised text before (refused_with 18 0) before
unfolding answer_of stored
promised_short text before a = record { answer = rw a refl; tables = rw a refl }

same_lent : {k s m b i x y z u v : List ℕ} → k ≡ x → s ≡ y → m ≡ z → b ≡ u → i ≡ v → lent k s m b i ≡ lent x y z u v
same_lent p q r e f = rw (p, q, r, e, f) refl

pub promised_accepted : (text : List ℕ) (before after : Lent) (t : Tables) (r : Answer) → r ≡ answer_of (answer (room_of before) text)
    → answer (room_of before) text ≡ accepted t
    → after.keys ≡ sets before.keys 0 t.keys → after.sections ≡ sets before.sections 0 t.sections
    → after.measures ≡ sets before.measures 0 t.measures → after.beats ≡ sets before.beats 0 t.beats
    → after.items ≡ sets before.items 0 t.items → Promised text before r after
unfolding stored
promised_accepted text before after t r f is a b c d e =
    record { answer = f; tables = same_lent a b c d e ∙ sym (ap (λ x. stored x before) is) }

-- No second outcome meets the promise.
pub one_outcome : (text : List ℕ) (before : Lent) (r q : Answer) (a b : Lent) → Promised text before r a → Promised text before q b → (r ≡ q) × (a ≡ b)
one_outcome text before r q a b x y = (x.answer ∙ sym y.answer, x.tables ∙ sym y.tables)

-- The call without tables: what it answers.
pub counted_refused : (text : List ℕ) (e : Refusal) (r : Result Totals Refusal) → IsErrAnd r (λ y. y ≡ e)
    → song_answer text ≡ refused (number_of e.why) e.line → Counted text (answered_by r)
unfolding answer_of
counted_refused text e (Ok t) is a = absurd is
counted_refused text e (Err y) is a = rw is (record { answer = rw a refl })

-- No second answer meets its promise; it is the answer of `read` where the tables have room, and where `read` refuses with anything but 18.
pub one_count : (text : List ℕ) (r q : Answer) → Counted text r → Counted text q → r ≡ q
one_count text r q x y = x.answer ∙ sym y.answer

module _ (text : List ℕ) (before after : Lent) (r q : Answer) (read : Promised text before r after) (counted : Counted text q) where
  pub counted_with_room : ((t : Tables) → song_answer text ≡ accepted t → HasRoom (room_of before) t) → q ≡ r
  counted_with_room has = counted.answer ∙ ap answer_of (sym (go (song_answer text) refl)) ∙ sym read.answer
    where
      go : (a : songcode.Answer) → song_answer text ≡ a → answer (room_of before) text ≡ song_answer text
      go (refused n l) e = refused_with_tables (room_of before) text n l e ∙ sym e
      go (accepted t) e = (accepted_with_room (room_of before) text t).1 (e, has t e) ∙ sym e

  pub counted_when_refused : (r.refusal ≡ 0 → ⊥) → (r.refusal ≡ 18 → ⊥) → q ≡ r
  unfolding answer_of
  counted_when_refused nonzero other = counted.answer ∙ ap answer_of (go (answer (room_of before) text) refl) ∙ sym read.answer
    where
      go : (a : songcode.Answer) → answer (room_of before) text ≡ a → song_answer text ≡ answer (room_of before) text
      go (refused n l) e =
          let number : r.refusal ≡ n = ap (λ (x : Answer). x.refusal) (read.answer ∙ ap answer_of e) in
          refused_without_tables (room_of before) text n l e (λ z. other (number ∙ z)) ∙ sym e
      go (accepted t) e = absurd (nonzero (ap (λ (x : Answer). x.refusal) (read.answer ∙ ap answer_of e)))
