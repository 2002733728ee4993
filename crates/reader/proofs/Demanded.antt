-- Every demand of the calls, proved: by the answer's cases, and by what `songcode` has proved of each.
use Prim.Native.Nat.{ℕ, ◌≤◌}
use mathlib.Core.Path.{◌≡◌, refl, sym, ap, ◌∙◌}
use mathlib.Core.Logic.{◌↔◌}
use mathlib.Core.List.{List}
use native.Mathlib.Omega.{arith}
use lib.ListN.{length}
use Rattle.songcode.specs.Answer.Tables.{Tables}
use Rattle.songcode.specs.Answer.Answer as songcode
use Rattle.songcode.specs.Answer.Answer.{Room, refused, accepted, answer, song_answer}
use Rattle.songcode.specs.Description.Described.{HasRoom, Described}
use Rattle.songcode.proofs.AnswerAgree.{accepted_exactly, refused_exactly}
use Rattle.songcode.proofs.RefusalsAgree.{refused_as_stated}
use Rattle.songcode.proofs.RefusalNumbers.{refusal_numbers}
use Rattle.songcode.proofs.SongAlone.{song_refused_exactly, refused_with_tables, accepted_with_room}
use Rattle.reader.specs.declared.answers.Answer.{Answer}
use Rattle.reader.specs.Answers.{answer_of, Lent, room_of, stored, Promised, Counted}
use Rattle.reader.specs.Demands.{Counts, Holds, CountsNothing, ReadDemands, CountDemands, Demands}
use Rattle.reader.proofs.AnswerLaws.{one_outcome, one_count, counted_with_room, counted_when_refused}

-- An answer as numbers, where it is accepted and where it is refused.
counts_of : (r : Answer) (t : Tables) → r ≡ answer_of (accepted t) → Counts t r
unfolding answer_of
counts_of r t e =
    record {
      refusal = ap (λ (a : Answer). a.refusal) e;
      line = ap (λ (a : Answer). a.line) e;
      sections = ap (λ (a : Answer). a.sections) e;
      measures = ap (λ (a : Answer). a.measures) e;
      beats = ap (λ (a : Answer). a.beats) e;
      items = ap (λ (a : Answer). a.items) e;
    }

holds_of : (t : Tables) (before after : Lent) → after ≡ stored (accepted t) before → Holds t before after
unfolding stored
holds_of t before after e =
    record {
      keys = ap (λ (l : Lent). l.keys) e;
      sections = ap (λ (l : Lent). l.sections) e;
      measures = ap (λ (l : Lent). l.measures) e;
      beats = ap (λ (l : Lent). l.beats) e;
      items = ap (λ (l : Lent). l.items) e;
    }

nothing_of : (r : Answer) (number line : ℕ) → r ≡ answer_of (refused number line) → CountsNothing r
unfolding answer_of
nothing_of r number line e =
    record {
      sections = ap (λ (a : Answer). a.sections) e;
      measures = ap (λ (a : Answer). a.measures) e;
      beats = ap (λ (a : Answer). a.beats) e;
      items = ap (λ (a : Answer). a.items) e;
    }

-- Of an answer of `songcode`, whose numbers stand in r.
module _ (r : Answer) where
  number_is : (number line : ℕ) → r ≡ answer_of (refused number line) → r.refusal ≡ number
  unfolding answer_of
  number_is number line e = ap (λ (a : Answer). a.refusal) e

  line_is : (number line : ℕ) → r ≡ answer_of (refused number line) → r.line ≡ line
  unfolding answer_of
  line_is number line e = ap (λ (a : Answer). a.line) e

  -- A refusal from 1 on is the answer's; and the answer's is given.
  refused_is : (a : songcode.Answer) → r ≡ answer_of a → (number line : ℕ) → 1 ≤ number → (r.refusal ≡ number) × (r.line ≡ line) → a ≡ refused number line
  refused_is (refused n l) e number line some h =
      let m : n ≡ number = sym (number_is n l e) ∙ h.0 in
      let k : l ≡ line = sym (line_is n l e) ∙ h.1 in
      rw (m, k) refl
  refused_is (accepted t) e number line some h =
      let z = (counts_of r t e).refusal in
      let m = h.0 in
      absurd (omega arith)

  refused_by : (a : songcode.Answer) → r ≡ answer_of a → (number line : ℕ) → 1 ≤ number → (a ≡ refused number line) ↔ ((r.refusal ≡ number) × (r.line ≡ line))
  refused_by a e number line some =
      ((λ is. (number_is number line (e ∙ ap answer_of is), line_is number line (e ∙ ap answer_of is))), refused_is a e number line some)

  nothing_by : (a : songcode.Answer) → r ≡ answer_of a → 1 ≤ r.refusal → CountsNothing r
  nothing_by (refused n l) e some = nothing_of r n l e
  nothing_by (accepted t) e some = let z = (counts_of r t e).refusal in absurd (omega arith)

-- The reading.
module _ (text : List ℕ) (before : Lent) (r : Answer) (after : Lent) (p : Promised text before r after) where
  accepts : (a : songcode.Answer) → answer (room_of before) text ≡ a → r.refusal ≡ 0 → (t : Tables) × Described (room_of before) text t
  accepts (refused n l) e zero =
      let m = (refusal_numbers (room_of before) text n l e).0 in
      let k = number_is r n l (p.answer ∙ ap answer_of e) in
      absurd (omega arith)
  accepts (accepted t) e zero = (t, (accepted_exactly (room_of before) text t).0 e)

  words : (t : Tables) → Described (room_of before) text t → Counts t r × Holds t before after
  words t d =
      let e = (accepted_exactly (room_of before) text t).1 d in
      (counts_of r t (p.answer ∙ ap answer_of e), holds_of t before after (p.tables ∙ ap (λ a. stored a before) e))

  unchanged : (a : songcode.Answer) → answer (room_of before) text ≡ a → 1 ≤ r.refusal → after ≡ before
  unfolding stored
  unchanged (refused n l) e some = p.tables ∙ ap (λ a. stored a before) e
  unchanged (accepted t) e some = let z = (counts_of r t (p.answer ∙ ap answer_of e)).refusal in absurd (omega arith)

  at_most_18 : (a : songcode.Answer) → answer (room_of before) text ≡ a → r.refusal ≤ 18
  at_most_18 (refused n l) e =
      let m = (refusal_numbers (room_of before) text n l e).1 in
      let k = number_is r n l (p.answer ∙ ap answer_of e) in omega arith
  at_most_18 (accepted t) e = let z = (counts_of r t (p.answer ∙ ap answer_of e)).refusal in omega arith

  by_answer : (number line : ℕ) → 1 ≤ number → (answer (room_of before) text ≡ refused number line) ↔ ((r.refusal ≡ number) × (r.line ≡ line))
  by_answer number line some = refused_by r (answer (room_of before) text) p.answer number line some

  read_demanded : ReadDemands text before r after
  read_demanded =
      record {
        accepted_exactly = (accepts (answer (room_of before) text) refl, (λ d. (words d.0 d.1).0.refusal));
        described_words = words;
        refused_exactly = λ number line some. (
          (λ h. (refused_as_stated (room_of before) text number line).0 ((by_answer number line some).1 h)),
          (λ h. (by_answer number line some).0 ((refused_as_stated (room_of before) text number line).1 h)),
        );
        given_exactly = λ number line some. (
          (λ h. (refused_exactly (room_of before) text number line).0 ((by_answer number line some).1 h)),
          (λ h. (by_answer number line some).0 ((refused_exactly (room_of before) text number line).1 h)),
        );
        refused_unchanged = λ some.
            (nothing_by r (answer (room_of before) text) p.answer some, unchanged (answer (room_of before) text) refl some);
        numbered = at_most_18 (answer (room_of before) text) refl;
      }

-- Tables as long as a song's own have room for it.
own : Tables → Room
own t =
    record { keys = length t.keys; sections = length t.sections; measures = length t.measures; beats = length t.beats; items = length t.items }

own_room_lem : (t : Tables) → HasRoom (own t) t
unfolding own
own_room_lem t = record { keys = omega arith; sections = omega arith; measures = omega arith; beats = omega arith; items = omega arith }

-- The counting.
own_described : (text : List ℕ) (t : Tables) → song_answer text ≡ accepted t → Described (own t) text t
own_described text t e = (accepted_exactly (own t) text t).0 ((accepted_with_room (own t) text t).1 (e, own_room_lem t))

song_described : (text : List ℕ) (room : Room) (t : Tables) → Described room text t → song_answer text ≡ accepted t
song_described text room t d = ((accepted_with_room room text t).0 ((accepted_exactly room text t).1 d)).0

module _ (text : List ℕ) (q : Answer) (c : Counted text q) where
  counts : (a : songcode.Answer) → song_answer text ≡ a → q.refusal ≡ 0 → (room : Room) × (t : Tables) × Described room text t
  counts (refused n l) e zero =
      let none : Room = record { keys = 0; sections = 0; measures = 0; beats = 0; items = 0 } in
      let m = (refusal_numbers none text n l (refused_with_tables none text n l e)).0 in
      let k = number_is q n l (c.answer ∙ ap answer_of e) in
      absurd (omega arith)
  counts (accepted t) e zero = (own t, t, own_described text t e)

  of_described : (room : Room) (t : Tables) → Described room text t → Counts t q
  of_described room t d = counts_of q t (c.answer ∙ ap answer_of (song_described text room t d))

  count_demanded : CountDemands text q
  count_demanded =
      record {
        accepted_exactly = (counts (song_answer text) refl, (λ d. (of_described d.0 d.1 d.2).refusal));
        described_counts = of_described;
        given_exactly = λ number line some. (
          (λ h. (song_refused_exactly text number line).0 ((refused_by q (song_answer text) c.answer number line some).1 h)),
          (λ h. (refused_by q (song_answer text) c.answer number line some).0 ((song_refused_exactly text number line).1 h)),
        );
        refused_nothing = nothing_by q (song_answer text) c.answer;
      }

pub demanded : Demands
demanded =
    record {
      read = read_demanded;
      counted = count_demanded;
      one_outcome = one_outcome;
      an_outcome = λ text before.
          (answer_of (answer (room_of before) text), stored (answer (room_of before) text) before, record { answer = refl; tables = refl });
      one_count = one_count;
      counted_with_room = λ text before after r q p c has.
          counted_with_room text before after r q p c (λ t e. has (own t) t (own_described text t e));
      counted_when_refused = λ text before after r q p c some other.
          counted_when_refused text before after r q p c (λ z. absurd (omega arith)) other;
    }
