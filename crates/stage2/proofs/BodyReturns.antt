-- A line between a section's header and its `--` is judged kind by kind.
use Prim.Native.Nat.{ℕ, min}
use mathlib.Core.Path.{◌≡◌, refl, ◌∙◌}
use mathlib.Core.List.{List}
use mathlib.Core.Bool.{Bool}
use native.Mathlib.Omega.{arith}
use Rattle.songcode.specs.Lists.{provided◌then◌else◌}
use Rattle.songcode.specs.Answer.Lines.{Line}
use Rattle.songcode.specs.Complaints.{Complaint, complain_if}
use Rattle.songcode.specs.Answer.Sections.{Kind, key_line, modifier_line, pattern_line, kind_of_line, key_name_of, modifier_name_of}
use Rattle.settings.specs.Names.{key_is, modifier_is}
use Rattle.stage2.specs.declared.states.Part.{Part}
use Rattle.stage2.specs.declared.states.State.{State}
use Rattle.stage2.specs.declared.states.Judged.{Judged}
use Rattle.refusals.specs.Ranks.{none, least}
use Rattle.stage2.specs.Places.{past_keys, before_pattern, past_pattern, part_after, misplaced_at}
use Rattle.stage2.specs.Walk.{order_note, pending_after}
use Rattle.stage2.specs.States.{again, marked, judged, body_judged, body_state}
use Rattle.stage2.specs.LineNotes.{key_number, modifier_number}
use Rattle.stage2.specs.BodyLines.{on_key, on_modifier, on_pattern}
use Rattle.refusals.proofs.RankLaws.{least_le}
use Rattle.stage2.proofs.LineReturns.{key_of_lem, modifier_of_lem, modifier_no_key, pattern_no_key, key_no_modifier, pattern_no_modifier}
use Rattle.stage2.proofs.LineReturns.{key_in_section, modifier_in_section, pattern_in_section}

module _ (l : Line) where
  -- Out of place.
  order_note_lem : (k : Kind) (p : Part) → kind_of_line l ≡ k → order_note p l ≡ least (misplaced_at k p l)
  unfolding order_note
  order_note_lem k p e = rw e refl

-- What is numbered 8 is nothing.
nothing_again : (number : ℕ) (marks : List Bool) (line : ℕ) → again number 8 marks line ≡ none
unfolding again provided◌then◌else◌
nothing_again number marks line = refl

nothing_marked : (marks : List Bool) → marked 8 marks ≡ marks
unfolding marked provided◌then◌else◌
nothing_marked marks = refl

second_none : (cs : List Complaint) (a : ℕ) → min (min (least cs) a) none ≡ min (least cs) a
second_none cs a = let h = least_le cs in omega arith

first_none : (cs : List Complaint) (a : ℕ) → min (min (least cs) none) a ≡ min (least cs) a
first_none cs a = let h = least_le cs in omega arith

all_none : (cs : List Complaint) → min (min (min (least cs) none) none) none ≡ least cs
all_none cs = let h = least_le cs in omega arith

module _ (p : Part) (c : State) (l : Line) where
  abbrev in_body : Judged
  in_body = judged (body_judged p c.keys c.modifiers l) (body_state p c l)

  on_key_lem : kind_of_line l ≡ key_line → on_key p c l ≡ in_body
  unfolding on_key body_judged body_state pending_after part_after misplaced_at
  on_key_lem e =
      let k = key_is (key_name_of l) in
      let out = complain_if (past_keys p) 4 l.number in
      rw (
        e,
        order_note_lem l key_line p e,
        key_of_lem l e,
        key_no_modifier l e,
        key_in_section l e,
        nothing_again 8 c.modifiers l.number,
        nothing_marked
            c.modifiers,
        second_none out (again 4 (key_number k) c.keys l.number),
      )
      refl

  on_modifier_lem : kind_of_line l ≡ modifier_line → on_modifier p c l ≡ in_body
  unfolding on_modifier body_judged body_state pending_after part_after misplaced_at
  on_modifier_lem e =
      let m = modifier_is (modifier_name_of l) in
      let out = complain_if (before_pattern p) 8 l.number in
      rw (
        e,
        order_note_lem l modifier_line p e,
        modifier_of_lem l e,
        modifier_no_key l e,
        modifier_in_section l e,
        nothing_again 4 c.keys l.number,
        nothing_marked c.keys,
        first_none out (again 8 (modifier_number m) c.modifiers l.number),
      )
      refl

  on_pattern_lem : kind_of_line l ≡ pattern_line → on_pattern p c l ≡ in_body
  unfolding on_pattern body_judged body_state pending_after part_after misplaced_at
  on_pattern_lem e =
      let out = complain_if (past_pattern p) 8 l.number in
      rw (
        e,
        order_note_lem l pattern_line p e,
        pattern_no_modifier l e,
        pattern_no_key l e,
        pattern_in_section l e,
        nothing_again 4 c.keys l.number,
        nothing_again 8 c.modifiers l.number,
        nothing_marked c.keys,
        nothing_marked c.modifiers,
        all_none out,
      )
      refl

  -- What is judged by the kind is judged.
  pub body_key : (j : Judged) → kind_of_line l ≡ key_line → j ≡ on_key p c l → j ≡ in_body
  body_key j e h = h ∙ on_key_lem e

  pub body_modifier : (j : Judged) → kind_of_line l ≡ modifier_line → j ≡ on_modifier p c l → j ≡ in_body
  body_modifier j e h = h ∙ on_modifier_lem e

  pub body_pattern : (j : Judged) → kind_of_line l ≡ pattern_line → j ≡ on_pattern p c l → j ≡ in_body
  body_pattern j e h = h ∙ on_pattern_lem e
