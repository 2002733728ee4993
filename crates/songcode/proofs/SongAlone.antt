-- The song alone and then the room for its tables: how the answer without tables stands to the answer with them.
use Prim.Native.Nat.{ℕ}
use mathlib.Core.Path.{◌≡◌, refl, ap, sym, ◌∙◌}
use mathlib.Core.Logic.{◌↔◌}
use mathlib.Core.List.{List, [], ◌∷◌}
use mathlib.Core.Bool.{Bool, true, false, ◌||◌}
use mathlib.Core.Option.{Option, none, some}
use native.Mathlib.Omega.{arith}
use lib.Dec.{ltb}
use lib.ListN.{length}
use Rattle.songcode.specs.Lists.{when}
use Rattle.songcode.specs.Complaints.{Complaint, complaint, complain_if, earlier, earliest, stage_or, verdict}
use Rattle.songcode.specs.Answer.Tables.{Tables, tables}
use Rattle.songcode.specs.Answer.Answer.{Room, song_of, room_faults, song_stages, stages, refused, accepted, answer_by, answer, song_answer}
use Rattle.songcode.specs.Description.Given.{Given}
use Rattle.songcode.specs.Description.Described.{HasRoom}
use Rattle.songcode.proofs.VerdictAgree.{verdict_given, given_verdict, verdict_append, last_stage}
use Rattle.songcode.proofs.AnswerAgree.{room_exact, accepted_exactly}

-- A refusal is the complaint that is given.
given_by : (ss : List (List Complaint)) (t : Tables) (number line : ℕ) → (answer_by (verdict ss) t ≡ refused number line) ↔ Given ss (complaint number line)
unfolding answer_by
given_by ss t number line = ((λ h. go (verdict ss) refl h), (λ g. rw (given_verdict ss (complaint number line) g)))
  where
    go : (o : Option Complaint) → verdict ss ≡ o → answer_by o t ≡ refused number line → Given ss (complaint number line)
    go none e h = let z : ◌≡◌ {A = ℕ} 0 1 = cc in absurd (omega arith)
    go (some c) e h =
        let n : c.number ≡ number = cc in
        let l : c.line ≡ line = cc in
        verdict_given ss (complaint number line) (e ∙ ap (λ x. some (complaint x c.line)) n ∙ ap (λ x. some (complaint number x)) l)

pub song_refused_exactly : (bs : List ℕ) (number line : ℕ) → (song_answer bs ≡ refused number line) ↔ Given (song_stages bs) (complaint number line)
unfolding song_answer
song_refused_exactly bs number line = given_by (song_stages bs) (tables (song_of bs)) number line

-- One stage more, by cases of what the others and it complain of.
refused_too : (o q : Option Complaint) (t : Tables) (number line : ℕ) → answer_by o t ≡ refused number line → answer_by (stage_or o q) t ≡ refused number line
unfolding answer_by stage_or
refused_too none q t number line h = let z : ◌≡◌ {A = ℕ} 0 1 = cc in absurd (omega arith)
refused_too (some c) q t number line h = h

refused_before : (o q : Option Complaint) (t : Tables) (number line : ℕ) → ((c : Complaint) → q ≡ some c → c.number ≡ 18)
    → answer_by (stage_or o q) t ≡ refused number line → (number ≡ 18 → ⊥) → answer_by o t ≡ refused number line
unfolding answer_by stage_or
refused_before none none t number line last h other = let z : ◌≡◌ {A = ℕ} 0 1 = cc in absurd (omega arith)
refused_before none (some c) t number line last h other = let n : c.number ≡ number = cc in absurd (other (sym n ∙ last c refl))
refused_before (some c) q t number line last h other = h

accepted_before : (o q : Option Complaint) (t u : Tables) → answer_by (stage_or o q) t ≡ accepted u → answer_by o t ≡ accepted u
unfolding answer_by stage_or
accepted_before none none t u h = h
accepted_before none (some c) t u h = let z : ◌≡◌ {A = ℕ} 0 1 = cc in absurd (omega arith)
accepted_before (some c) q t u h = let z : ◌≡◌ {A = ℕ} 0 1 = cc in absurd (omega arith)

by_the_last : (o q : Option Complaint) (t u : Tables) → answer_by o t ≡ accepted u → answer_by (stage_or o q) t ≡ answer_by q t
unfolding answer_by stage_or
by_the_last none q t u h = refl
by_the_last (some c) q t u h = let z : ◌≡◌ {A = ℕ} 0 1 = cc in absurd (omega arith)

own_tables : (o : Option Complaint) (t u : Tables) → answer_by o t ≡ accepted u → t ≡ u
unfolding answer_by
own_tables none t u h = cc
own_tables (some c) t u h = let z : ◌≡◌ {A = ℕ} 0 1 = cc in absurd (omega arith)

-- Stage 8 gives 18 alone.
room_number : (test : Bool) (c : Complaint) → earliest (complain_if test 18 0) ≡ some c → c.number ≡ 18
unfolding earliest earlier complain_if when
room_number true c h = let e : complaint 18 0 ≡ c = cc in ap (λ (d : Complaint). d.number) (sym e)
room_number false c h = let z : ◌≡◌ {A = ℕ} 0 1 = cc in absurd (omega arith)

room_given : (room : Room) (t : Tables) (c : Complaint) → earliest (room_faults room t) ≡ some c → c.number ≡ 18
unfolding room_faults
room_given room t c h =
    room_number
    (ltb room.keys (length t.keys)
    || ltb room.sections (length t.sections)
    || ltb room.measures (length t.measures)
    || ltb room.beats (length t.beats)
    || ltb room.items (length t.items))
    c
    h

-- The room of a song's own tables is enough.
unfoldable pub own_room : Tables → Room
own_room t =
    record { keys = length t.keys; sections = length t.sections; measures = length t.measures; beats = length t.beats; items = length t.items }

pub own_room_lem : (t : Tables) → HasRoom (own_room t) t
unfolding own_room
own_room_lem t = record { keys = omega arith; sections = omega arith; measures = omega arith; beats = omega arith; items = omega arith }

module _ (room : Room) (bs : List ℕ) where
  answer_is : answer room bs ≡ answer_by (stage_or (verdict (song_stages bs)) (earliest (room_faults room (tables (song_of bs))))) (tables (song_of bs))
  unfolding answer stages
  answer_is =
      ap (λ o. answer_by o (tables (song_of bs)))
      (verdict_append (song_stages bs) (room_faults room (tables (song_of bs)) ∷ [])
      ∙ ap (stage_or (verdict (song_stages bs))) (last_stage (room_faults room (tables (song_of bs)))))

  -- What refuses the song alone refuses it whatever is lent; and what is not 18 refuses the song alone.
  pub refused_with_tables : (number line : ℕ) → song_answer bs ≡ refused number line → answer room bs ≡ refused number line
  unfolding song_answer
  refused_with_tables number line h =
      answer_is ∙ refused_too (verdict (song_stages bs)) (earliest (room_faults room (tables (song_of bs)))) (tables (song_of bs)) number line h

  pub refused_without_tables : (number line : ℕ) → answer room bs ≡ refused number line → (number ≡ 18 → ⊥) → song_answer bs ≡ refused number line
  unfolding song_answer
  refused_without_tables number line h other =
      refused_before (verdict (song_stages bs)) (earliest (room_faults room (tables (song_of bs)))) (tables (song_of bs)) number line
      (room_given room (tables (song_of bs))) (sym answer_is ∙ h) other

  -- A song that nothing refuses alone is judged by the room for its tables.
  pub judged_by_room : (t : Tables) → song_answer bs ≡ accepted t → answer room bs ≡ answer_by (earliest (room_faults room t)) t
  unfolding song_answer
  judged_by_room t h =
      let same : tables (song_of bs) ≡ t = own_tables (verdict (song_stages bs)) (tables (song_of bs)) t h in
      answer_is ∙ by_the_last (verdict (song_stages bs)) (earliest (room_faults room (tables (song_of bs)))) (tables (song_of bs)) t h
      ∙ ap (λ u. answer_by (earliest (room_faults room u)) u) same

  pub accepted_with_room : (t : Tables) → (answer room bs ≡ accepted t) ↔ ((song_answer bs ≡ accepted t) × HasRoom room t)
  unfolding song_answer answer_by earliest
  accepted_with_room t = (
    (λ h. (
      accepted_before (verdict (song_stages bs)) (earliest (room_faults room (tables (song_of bs)))) (tables (song_of bs)) t (sym answer_is ∙ h),
      ((accepted_exactly room bs t).0 h).fitting,
    )),
    (λ h. judged_by_room t h.0 ∙ ap (λ fs. answer_by (earliest fs) t) ((room_exact room t).1 h.1)),
  )
