-- The returns of the functions on blocks' beginnings and ends.
use Prim.Native.Nat.{ℕ, ◌+◌, min, max}
use mathlib.Core.Path.{◌≡◌, refl, sym, ap, ◌∙◌}
use mathlib.Core.List.{List}
use mathlib.Core.Bool.{Bool, not}
use borrow.Author.Tests.{lt-ltb, le-ltb, leb-true, leb-false}
use lib.Dec.{leb, ltb}
use Rattle.songcode.specs.Lists.{provided◌then◌else◌}
use Rattle.songcode.specs.Bytes.{placed}
use Rattle.songcode.specs.Answer.Lines.{Line}
use Rattle.songcode.specs.Complaints.{complain_if}
use Rattle.songcode.specs.Answer.SongText as songtext
use Rattle.songcode.specs.Answer.SongText.{metadata, definition, section, kind_of_text}
use Rattle.songcode.proofs.ChoiceLaws.{zero_is_not_one}
use Rattle.songcode.proofs.ListLaws.{by_cases}
use Rattle.text.specs.Spans.{part}
use Rattle.settings.specs.Kinds.{block_kind_is}
use Rattle.settings.specs.Phrases.{is_header}
use Rattle.settings.specs.declared.kinds.BlockKind.{BlockKind}
use Rattle.settings.specs.declared.kinds.BlockKind.TheVariants.{Metadata, Definition, Section}
use Rattle.settings.proofs.PlaceLaws.{is_header_placeless, header_faults_lem}
use Rattle.settings.proofs.ValueLaws.{kind_of_text_placeless}
use Rattle.settings.proofs.OfLineLaws.{line_from}
use Rattle.grammar.specs.Checks.{first}
use Rattle.grammar.specs.declared.checks.Check.{Check}
use Rattle.stage2.specs.declared.states.Part.TheVariants.{Keys}
use Rattle.stage2.specs.declared.states.Place.TheVariants as place
use Rattle.stage2.specs.declared.states.Carried.{Carried}
use Rattle.stage2.specs.declared.states.Pending.{Pending}
use Rattle.stage2.specs.declared.states.State.{State}
use Rattle.stage2.specs.declared.states.Judged.{Judged}
use Rattle.refusals.specs.Ranks.{ranked, none, no_section, least, only_if}
use Rattle.stage2.specs.Walk.{pending, nothing_pending, late, unless}
use Rattle.stage2.specs.States.{marked, key_of, block_state, carried, judged, fine_for, closing, key_judged, metadata_state, head_state}
use Rattle.stage2.specs.States.{opening, ends}

pub block_closed : (c : State) (fine : Bool) (seven x r : ℕ) → fine ≡ fine_for c.place c.pending.check → seven ≡ unless fine c.pending.bad
    → x ≡ min c.pending.bare seven → r ≡ min c.pending.want x → r ≡ closing c
unfolding closing
block_closed c fine seven x r a b d e = rw (← a, ← b, ← d) e

unless_late : (t : ℕ) (x : ℕ) → unless (leb 2 t) x ≡ only_if (ltb t 2) x
unfolding unless only_if provided◌then◌else◌
unless_late t x =
    by_cases (leb 2 t)
    (λ e. rw (e, le-ltb t 2 (leb-true 2 t e)) refl)
    (λ e. rw (e, lt-ltb t 2 (leb-false 2 t e)) refl)

pub text_ended : (c : State) (nine end r : ℕ) → nine ≡ unless (leb 2 c.carried.turn) no_section → end ≡ closing c → r ≡ min end nine → r ≡ ends c
unfolding ends
text_ended c nine end r a b d = rw (← b, ← unless_late c.carried.turn no_section, ← a) d

module _ (k : Carried) (l : Line) where
  module _ (own : ℕ) (m : List Bool) (c : State) (o : own ≡ key_judged k.metadata l) (b : m ≡ marked (key_of l) k.metadata)
      (e : c ≡ block_state place.Metadata (carried k.turn m k.count) nothing_pending) where
    pub in_metadata_lem : judged own c ≡ judged (key_judged k.metadata l) (metadata_state k l)
    in_metadata_lem = rw (o, e, b) refl

    pub opened_metadata : (behind note : ℕ) → behind ≡ least (complain_if (ltb 0 k.turn) 3 l.number) → note ≡ min behind own
        → judged note c ≡ opening metadata k l
    unfolding opening late
    opened_metadata behind note a d = rw (d, a, o, e, b) refl

pub opened_definition : (k : Carried) (n behind turn count : ℕ) (q : Pending) (c : State) → behind ≡ least (complain_if (ltb 1 k.turn) 3 n)
    → turn ≡ max k.turn 1 → count ≡ min k.count 25 → q ≡ nothing_pending → c ≡ block_state place.Head (carried turn k.metadata (count + 1)) q
    → judged behind c ≡ judged (least (complain_if (ltb 1 k.turn) 3 n)) (head_state (max k.turn 1) k)
opened_definition k n behind turn count q c x t m r v = rw (v, x, t, m, r) refl

module _ (k : Carried) (n : ℕ) (s : List ℕ) (a e : ℕ) where
  pub opened_section : (behind eight turn note want : ℕ) (good : Bool) (check : Check) (c : State) → behind ≡ least (complain_if (ltb 2 k.turn) 3 n)
      → good ≡ is_header (placed 0 (part a e s)) → eight ≡ least (complain_if (not good) 8 n)
      → note ≡ min behind eight → turn ≡ max k.turn 2 → want ≡ ranked 8 n → check ≡ first
      → c ≡ block_state (place.Body Keys) (carried turn k.metadata k.count) (pending want none none check)
      → judged note c ≡ opening section k (line_from n s a e)
  unfolding opening late
  opened_section behind eight turn note want good check c x h y z t w r v =
      let same : good ≡ is_header (placed a (part a e s)) = h ∙ sym (is_header_placeless a (part a e s)) in
      rw (z, v, x, y, t, w, r, same, header_faults_lem (line_from n s a e)) refl

  -- By the kind of the block.
  is_metadata : (b : songtext.BlockKind) → Metadata ≡ block_kind_is b → b ≡ metadata
  unfolding block_kind_is
  is_metadata metadata h = refl
  is_metadata definition h = zero_is_not_one (cc)
  is_metadata section h = zero_is_not_one (cc)

  is_definition : (b : songtext.BlockKind) → Definition ≡ block_kind_is b → b ≡ definition
  unfolding block_kind_is
  is_definition metadata h = zero_is_not_one (cc)
  is_definition definition h = refl
  is_definition section h = zero_is_not_one (cc)

  is_section : (b : songtext.BlockKind) → Section ≡ block_kind_is b → b ≡ section
  unfolding block_kind_is
  is_section metadata h = zero_is_not_one (cc)
  is_section definition h = zero_is_not_one (cc)
  is_section section h = refl

  abbrev kind : songtext.BlockKind
  kind = kind_of_text (placed a (part a e s))

  found : (b r : BlockKind) → r ≡ block_kind_is (kind_of_text (placed 0 (part a e s))) → r ≡ b → b ≡ block_kind_is kind
  found b r h g = sym g ∙ (h ∙ ap block_kind_is (sym (kind_of_text_placeless a (part a e s))))

  abbrev Opens : Judged → Type 0
  Opens j = j ≡ opening kind k (line_from n s a e)

  pub by_metadata : (r : BlockKind) (j : Judged) → r ≡ block_kind_is (kind_of_text (placed 0 (part a e s))) → r ≡ Metadata
      → j ≡ opening metadata k (line_from n s a e) → Opens j
  by_metadata r j h g z = rw (is_metadata kind (found Metadata r h g)) z

  pub by_definition : (r : BlockKind) (j : Judged) → r ≡ block_kind_is (kind_of_text (placed 0 (part a e s))) → r ≡ Definition
      → j ≡ judged (least (complain_if (ltb 1 k.turn) 3 n)) (head_state (max k.turn 1) k) → Opens j
  unfolding opening late
  by_definition r j h g z = rw (is_definition kind (found Definition r h g)) z

  pub by_section : (r : BlockKind) (j : Judged) → r ≡ block_kind_is (kind_of_text (placed 0 (part a e s))) → r ≡ Section
      → j ≡ opening section k (line_from n s a e) → Opens j
  by_section r j h g z = rw (is_section kind (found Section r h g)) z
