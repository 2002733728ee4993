-- The walk by value keeps step with the walk in songcode's words.
use Prim.Native.Nat.{ℕ, min, max}
use mathlib.Core.Path.{◌≡◌, refl, sym, ap, subst}
use mathlib.Core.List.{List, []}
use mathlib.Core.Bool.{false}
use native.Mathlib.Omega.{arith}
use lib.ListN.{replicate}
use Rattle.songcode.specs.Lists.{provided◌then◌else◌, is_empty, prepend}
use Rattle.songcode.specs.Answer.Lines.{Line}
use Rattle.songcode.specs.Answer.Sections.{key_said, modifier_said, not_dashes}
use Rattle.songcode.specs.Answer.SongText.{BlockKind, metadata, definition, section, kind_of_text, head_in}
use Rattle.songcode.proofs.ListLaws.{by_cases}
use Rattle.grammar.specs.declared.checks.Check.{Check}
use Rattle.tokens.specs.Decimals.{number_of}
use Rattle.stage2.specs.declared.states.Part.{Part}
use Rattle.stage2.specs.declared.states.Part.TheVariants.{Keys}
use Rattle.stage2.specs.declared.states.Place.{Place}
use Rattle.stage2.specs.declared.states.Place.TheVariants.{Between, Metadata, Head, Definition, Body, Lyrics}
use Rattle.stage2.specs.declared.states.Carried.{Carried}
use Rattle.stage2.specs.declared.states.Pending.{Pending}
use Rattle.stage2.specs.declared.states.State.{State}
use Rattle.stage2.specs.declared.states.Judged.{Judged}
use Rattle.stage2.specs.Walk.{Where, between, in_metadata, behind_head, in_definition, in_body, in_lyrics, Known, known, Walk, Step, block_at}
use Rattle.stage2.specs.Walk.{pattern_pending, nothing_pending, fine_at, closed, late, metadata_note, head_note, opens, body_note, body_step, step_at, stepped}
use Rattle.stage2.specs.Walk.{finished, at_first}
use Rattle.stage2.specs.States.{no_marks, marked, key_of, block_state, carried, judged, fine_for, closing, key_judged}
use Rattle.stage2.specs.States.{opening, body_judged, body_state, judged_at, judge, ends, first_state}
use Rattle.stage2.specs.Heads.{head_judged, is_head, head_noted, heads_after}
use Rattle.refusals.specs.Ranks.{none}
use Rattle.stage2.proofs.MarkLaws.{Agrees, none_agrees, again_agrees, marked_agrees, key_said_below, modifier_said_below}
use Rattle.stage2.proofs.HeadLaws.{HeadsAgree, no_heads_agree, head_counts, head_agrees, with_head_agrees}

unfoldable pub place_is : Where → Place
place_is between = Between
place_is in_metadata = Metadata
place_is behind_head = Head
place_is in_definition = Definition
place_is (in_body p) = Body p
place_is in_lyrics = Lyrics

pub record Knows (k : Known) (c : Carried) (ids : List ℕ) : Type 0 where
  pub turn : c.turn ≡ k.turn
  pub metadata : Agrees c.metadata k.keys
  pub heads : HeadsAgree c.count ids k.sofar k.heads

pub record Stands (w : Walk) (c : State) (ids : List ℕ) : Type 0 where
  pub place : c.place ≡ place_is w.place
  pub carried : Knows w.known c.carried ids
  pub keys : Agrees c.keys w.keys
  pub modifiers : Agrees c.modifiers w.modifiers
  pub pending : c.pending ≡ w.pending

-- A block begins, or none is open.
opened : (p : Where) (k : Known) (c : Carried) (q : Pending) (ids : List ℕ) → Knows k c ids → Stands (block_at p k q) (block_state (place_is p) c q) ids
opened p k c q ids h = record { place = refl; carried = h; keys = none_agrees; modifiers = none_agrees; pending = refl }

pub starts : Stands at_first first_state (replicate 26 0)
unfolding place_is
starts = opened between (known 0 [] 0 []) (carried 0 no_marks 0) nothing_pending (replicate 26 0)
    (record { turn = refl; metadata = none_agrees; heads = no_heads_agree })

fine_same : (p : Where) (c : Check) → fine_for (place_is p) c ≡ fine_at p c
unfolding fine_for fine_at place_is
fine_same between c = refl
fine_same in_metadata c = refl
fine_same behind_head c = refl
fine_same in_definition c = refl
fine_same (in_body p) c = refl
fine_same in_lyrics c = refl

closing_same : (w : Walk) (c : State) (ids : List ℕ) → Stands w c ids → closing c ≡ closed w.place w.pending
unfolding closing closed
closing_same w c ids h = rw (h.place, h.pending, fine_same w.place w.pending.check) refl

pub ends_same : (w : Walk) (c : State) (ids : List ℕ) → Stands w c ids → ends c ≡ finished w
unfolding ends finished
ends_same w c ids h = rw (closing_same w c ids h, h.carried.turn) refl

-- A step and what is judged, with what the line is complained of as a head where n stood before it: the same up to no complaint, and they keep step.
abbrev pub Follows : ℕ → List ℕ → Line → Step → Judged → Type 0
Follows n ids l t j =
    (min none (min j.note (head_noted j.state.place n ids l)) ≡ min none t.note)
    × Stands t.walk j.state (heads_after j.state.place n ids l)

-- Where the line is no head.
no_head_lem : (n : ℕ) (ids : List ℕ) (l : Line) (t : Step) (j : Judged) → is_head j.state.place ≡ false → j.note ≡ t.note → Stands t.walk j.state ids
    → Follows n ids l t j
unfolding head_noted heads_after provided◌then◌else◌
no_head_lem n ids l t j e p h = rw e (rw p (omega arith), h)

module _ (k : Known) (c : Carried) (ids : List ℕ) (h : Knows k c ids) (l : Line) where
  key_same : key_judged c.metadata l ≡ metadata_note k.keys l
  unfolding key_judged metadata_note
  key_same = rw (again_agrees 4 (key_said l) c.metadata k.keys l (key_said_below l) h.metadata) refl

  key_known : (t : ℕ) → Knows (known t (prepend (key_said l) k.keys) k.sofar k.heads) (carried t (marked (key_of l) c.metadata) c.count) ids
  key_known t = record { turn = refl; metadata = marked_agrees (key_said l) c.metadata k.keys (key_said_below l) h.metadata; heads = h.heads }

  head_same : head_judged (number_of (head_in l)) c.count ids l.number ≡ head_note k l
  unfolding head_note
  head_same = head_agrees c.count ids k.sofar k.heads h.heads (head_in l) l (head_counts l)

  opening_by : (b : BlockKind) → Follows c.count ids l (opens b k l) (opening b c l)
  unfolding opens opening place_is head_noted heads_after provided◌then◌else◌
  opening_by metadata = no_head_lem c.count ids l (opens metadata k l) (opening metadata c l) refl
      (rw h.turn (ap (min (late 0 k.turn l)) key_same))
      (let z : max k.turn 0 ≡ k.turn = omega arith in rw (z, h.turn) (opened in_metadata _ _ nothing_pending ids (key_known k.turn)))
  opening_by definition = rw h.turn (
    ap (λ (x : ℕ). min none (min (late 1 k.turn l) x)) head_same,
    opened behind_head _ _ nothing_pending _
        (record {
          turn = refl;
          metadata = h.metadata;
          heads = with_head_agrees c.count ids k.sofar k.heads h.heads (head_in l) (head_counts l);
        }),
  )
  opening_by section = no_head_lem c.count ids l (opens section k l) (opening section c l) refl
      (rw h.turn refl)
      (rw h.turn (opened (in_body Keys) _ _ _ ids (record { turn = refl; metadata = h.metadata; heads = h.heads })))

module _ (w : Walk) (c : State) (ids : List ℕ) (h : Stands w c ids) (l : Line) where
  abbrev After : Step → Judged → Type 0
  After t j = Follows c.carried.count ids l t j

  after : (t : Step) (j : Judged) → is_head j.state.place ≡ false → j.note ≡ t.note → Stands t.walk j.state ids → After t j
  after t j e p s = no_head_lem c.carried.count ids l t j e p s

  body_same : (p : Part) → body_judged p c.keys c.modifiers l ≡ body_note p w.keys w.modifiers l
  unfolding body_judged body_note
  body_same p =
      rw (
        again_agrees 4 (key_said l) c.keys w.keys l (key_said_below l) h.keys,
        again_agrees 8 (modifier_said l) c.modifiers w.modifiers
            l (modifier_said_below l) h.modifiers,
      ) refl

  in_body_lem : (p : Part) → After (body_step p w l) (judged (body_judged p c.keys c.modifiers l) (body_state p c l))
  unfolding body_step body_state place_is
  in_body_lem p =
      after (body_step p w l) (judged (body_judged p c.keys c.modifiers l) (body_state p c l)) refl (body_same p)
      (record {
        place = refl;
        carried = h.carried;
        keys = marked_agrees (key_said l) c.keys w.keys (key_said_below l) h.keys;
        modifiers = marked_agrees (modifier_said l) c.modifiers w.modifiers (modifier_said_below l) h.modifiers;
        pending = rw h.pending refl;
      })

  by_place : (p : Where) → After (step_at p w l) (judged_at (place_is p) c l)
  unfolding step_at judged_at place_is pattern_pending provided◌then◌else◌
  by_place between = opening_by w.known c.carried ids h.carried l (kind_of_text l.text)
  by_place in_metadata = rw h.carried.turn (after _ _ refl
      (key_same w.known c.carried ids h.carried l)
      (opened in_metadata _ _ nothing_pending ids
      (key_known w.known c.carried ids h.carried l w.known.turn)))
  by_place behind_head = rw h.pending (after _ _ refl refl (opened in_definition _ _ _ ids h.carried))
  by_place in_definition = rw h.pending (after _ _ refl refl (opened in_definition _ _ _ ids h.carried))
  by_place (in_body p) =
      by_cases (not_dashes l) (λ e. rw e (in_body_lem p))
      (λ e. rw (e, h.pending) (after _ _ refl refl
      (record { place = refl; carried = h.carried; keys = h.keys; modifiers = h.modifiers; pending = refl })))
  by_place in_lyrics = rw h.pending (after _ _ refl refl
      (record { place = refl; carried = h.carried; keys = h.keys; modifiers = h.modifiers; pending = refl }))

  -- One line more.
  pub keeps_step : After (stepped w l) (judge c l)
  unfolding judge stepped provided◌then◌else◌ place_is
  keeps_step =
      by_cases
      (is_empty l.text)
      (λ e. rw e (after _ _ refl (closing_same w c ids h) (opened between _ _ nothing_pending ids h.carried)))
      (λ e. rw e (subst (λ (p : Place). After (step_at w.place w l) (judged_at p c l)) (sym h.place) (by_place w.place)))
