-- What is promised of the two calls, in one place: the demands of the supply contract, said of every answer and every final content of the lent
-- tables that meet what a call promises. `proofs/Demanded.antt` proves every one as it stands here.
use Rattle.std.specs.Prelude.{ℕ, ◌≤◌, ◌≡◌, ◌↔◌, List, length}
use Rattle.std.proofs.lemmas.List.Edits.{sets}
use Rattle.songcode.specs.Complaints.{complaint}
use Rattle.songcode.specs.Answer.Tables.{Tables}
use Rattle.songcode.specs.Answer.Answer.{Room, stages, song_stages}
use Rattle.songcode.specs.Description.Given.{Given}
use Rattle.songcode.specs.Description.Refusals.{Refused}
use Rattle.songcode.specs.Description.Described.{HasRoom, Described}
use Rattle.reader.specs.declared.answers.Answer.{Answer}
use Rattle.reader.specs.Answers.{Lent, room_of, Promised, Counted}

-- "refusal 0, line 0 and the counts of sections, measures, beats and items"
pub record Counts (t : Tables) (r : Answer) : Type 0 where
  pub refusal : r.refusal ≡ 0
  pub line : r.line ≡ 0
  pub sections : r.sections ≡ length t.sections
  pub measures : r.measures ≡ length t.measures
  pub beats : r.beats ≡ length t.beats
  pub items : r.items ≡ length t.items

-- The words of a song stand in each table from its first place on, and behind them what it held: "Lent memory past what a call writes keeps what it
-- held". So `sets` says it, with the place 0.
pub record Holds (t : Tables) (before after : Lent) : Type 0 where
  pub keys : after.keys ≡ sets before.keys 0 t.keys
  pub sections : after.sections ≡ sets before.sections 0 t.sections
  pub measures : after.measures ≡ sets before.measures 0 t.measures
  pub beats : after.beats ≡ sets before.beats 0 t.beats
  pub items : after.items ≡ sets before.items 0 t.items

-- "A refusal returns its number and line, counts 0"
pub record CountsNothing (r : Answer) : Type 0 where
  pub sections : r.sections ≡ 0
  pub measures : r.measures ≡ 0
  pub beats : r.beats ≡ 0
  pub items : r.items ≡ 0

-- A chart read: its text, the tables as they were lent, the answer, the tables as they come back.
pub record ReadDemands (text : List ℕ) (before : Lent) (r : Answer) (after : Lent) : Type 0 where
  -- "A file is accepted exactly when it is a song by the description in document 01 and the lent tables have room", and then its words are stored.
  pub accepted_exactly : (r.refusal ≡ 0) ↔ ((t : Tables) × Described (room_of before) text t)
  pub described_words : (t : Tables) → Described (room_of before) text t → Counts t r × Holds t before after
  -- "A bad file gets one refusal number and one line": those of its row of the table, and those of the answer's stages; no table word changes.
  pub refused_exactly : (number line : ℕ) → 1 ≤ number → ((r.refusal ≡ number) × (r.line ≡ line)) ↔ Refused (room_of before) text (complaint number line)
  pub given_exactly : (number line : ℕ) → 1 ≤ number → ((r.refusal ≡ number) × (r.line ≡ line)) ↔ Given (stages (room_of before) text) (complaint number line)
  pub refused_unchanged : 1 ≤ r.refusal → CountsNothing r × (after ≡ before)
  pub numbered : r.refusal ≤ 18

-- A chart counted: accepted exactly where it would be with some tables, and then with the same counts; refused by stages 1 to 7.
pub record CountDemands (text : List ℕ) (q : Answer) : Type 0 where
  pub accepted_exactly : (q.refusal ≡ 0) ↔ ((room : Room) × (t : Tables) × Described room text t)
  pub described_counts : (room : Room) (t : Tables) → Described room text t → Counts t q
  pub given_exactly : (number line : ℕ) → 1 ≤ number → ((q.refusal ≡ number) × (q.line ≡ line)) ↔ Given (song_stages text) (complaint number line)
  pub refused_nothing : 1 ≤ q.refusal → CountsNothing q

pub record Demands : Type 0 where
  pub read : (text : List ℕ) (before : Lent) (r : Answer) (after : Lent) → Promised text before r after → ReadDemands text before r after
  pub counted : (text : List ℕ) (q : Answer) → Counted text q → CountDemands text q
  -- No second outcome meets a promise, and one does.
  pub one_outcome : (text : List ℕ) (before : Lent) (r q : Answer) (a b : Lent) → Promised text before r a → Promised text before q b → (r ≡ q) × (a ≡ b)
  pub an_outcome : (text : List ℕ) (before : Lent) → (r : Answer) × (after : Lent) × Promised text before r after
  pub one_count : (text : List ℕ) (r q : Answer) → Counted text r → Counted text q → r ≡ q
  -- The count is the answer of the reading wherever the tables have room, and wherever the reading refuses with anything but 18.
  pub counted_with_room : (text : List ℕ) (before after : Lent) (r q : Answer) → Promised text before r after → Counted text q
      → ((room : Room) (t : Tables) → Described room text t → HasRoom (room_of before) t) → q ≡ r
  pub counted_when_refused : (text : List ℕ) (before after : Lent) (r q : Answer) → Promised text before r after → Counted text q
      → 1 ≤ r.refusal → (r.refusal ≡ 18 → ⊥) → q ≡ r
