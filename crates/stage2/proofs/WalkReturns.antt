-- The returns of the walk: a line where it stands, and the loop over the lines.
use Prim.Native.Nat.{ℕ, ◌+◌, min, ◌≤◌, ◌<◌}
use mathlib.Core.Path.{◌≡◌, refl, sym, ap, subst, ◌∙◌}
use mathlib.Core.List.{List, [], map}
use mathlib.Core.Bool.{Bool, true, false, not}
use native.Mathlib.Omega.{arith}
use borrow.Author.Tests.{eq-eqb, ne_eqb}
use lib.ListN.{length, drop}
use Rattle.songcode.specs.Lists.{provided◌then◌else◌}
use Rattle.songcode.specs.Bytes.{placed, is}
use Rattle.songcode.specs.Answer.Lines as songcode
use Rattle.songcode.specs.Answer.Lines.{blocks}
use Rattle.songcode.specs.Answer.Sections.{not_dashes}
use Rattle.songcode.specs.Complaints.{earliest}
use Rattle.songcode.specs.Answer.SongText.{text_faults}
use Rattle.songcode.specs.Answer.Answer.{blocks_of}
use Rattle.std.specs.Prelude as std
use Rattle.refusals.specs.Refusals.{told}
use Rattle.text.specs.Spans.{part, Found, spans_from, spans, line_text}
use Rattle.text.specs.declared.lines.Line.{Line}
use Rattle.refusals.specs.declared.Refusal.{Refusal}
use Rattle.text.proofs.WalkLaws.{empty_line, spans_found, spans_over}
use Rattle.tokens.specs.Kept.{Kept, KeptFrom, Unmarked, Keeps}
use Rattle.tokens.proofs.KeptLaws.{unmarked_kept, kept_next}
use Rattle.settings.proofs.ValueLaws.{is_placeless}
use Rattle.settings.proofs.OfLineLaws.{line_from}
use Rattle.stage2.specs.declared.states.Part.{Part}
use Rattle.stage2.specs.declared.states.Place.{Place}
use Rattle.stage2.specs.declared.states.Place.TheVariants.{Between, Definition, Body}
use Rattle.stage2.specs.declared.states.Pending.{Pending}
use Rattle.stage2.specs.declared.states.State.{State}
use Rattle.stage2.specs.declared.states.Judged.{Judged}
use Rattle.refusals.specs.Ranks.{ranked, none, refusal_at}
use Rattle.stage2.specs.Walk.{Walk, known, nothing_pending, pattern_pending, stepped, walked, at_first}
use Rattle.stage2.specs.States.{block_state, judged, definition_state, closing, body_judged, body_state, lyrics_state, judged_at, judge, ends}
use Rattle.stage2.specs.Heads.{head_noted, heads_after}
use Rattle.refusals.proofs.RankLaws.{min_assoc}
use Rattle.stage2.proofs.BlockWalk.{by_blocks_le, walked_by_blocks}
use Rattle.stage2.proofs.SmallLines.{stage_walked}
use Rattle.stage2.proofs.StateLaws.{Stands, keeps_step, ends_same}

module _ (c : State) (p : Part) (n : ℕ) (s : List ℕ) (a e : ℕ) (t : Bool) (h : t ≡ is "--" (placed 0 (part a e s))) where
  not_dashes_lem : not_dashes (line_from n s a e) ≡ not t
  unfolding not_dashes
  not_dashes_lem = ap not (is_placeless "--" a (part a e s) ∙ sym h)

  pub at_dashes : (bare : ℕ) (j : Judged) → t ≡ true → bare ≡ ranked 8 n → j ≡ judged none (lyrics_state c bare) → j ≡ judged_at (Body p) c (line_from n s a e)
  unfolding judged_at provided◌then◌else◌
  at_dashes bare j y b g = rw (not_dashes_lem, y, g, b) refl

  pub at_body : (j : Judged) → t ≡ false → j ≡ judged (body_judged p c.keys c.modifiers (line_from n s a e))
      (body_state p c (line_from n s a e)) → j ≡ judged_at (Body p) c (line_from n s a e)
  unfolding judged_at provided◌then◌else◌
  at_body j y g = rw (not_dashes_lem, y) g

module _ (c : State) (l : songcode.Line) where
  -- By the place.
  pub by_place : (p : Place) (j : Judged) → c.place ≡ p → j ≡ judged_at p c l → j ≡ judged_at c.place c l
  by_place p j e h = subst (λ (q : Place). j ≡ judged_at q c l) (sym e) h

  pub in_text : (p : Part) (q : Pending) (d : State) → q ≡ pattern_pending p l c.pending → d ≡ block_state Definition c.carried q
      → judged none d ≡ judged none (definition_state p c l)
  in_text p q d a b = rw (b, a) refl

-- Blank or not.
module _ (c : State) (s : List ℕ) (l : Line) (long : l.stop ≤ length s) where
  pub line_full : (j : Judged) → l.start < l.stop → j ≡ judged_at c.place c (line_text s l) → j ≡ judge c (line_text s l)
  unfolding judge provided◌then◌else◌
  line_full j h g = rw (empty_line s l.start l.stop (omega arith) long, ne_eqb l.start l.stop (λ z. omega arith)) g

  pub line_blank : (note : ℕ) (q : Pending) (d : State) → l.start ≤ l.stop → l.stop ≤ l.start → note ≡ closing c → q ≡ nothing_pending
      → d ≡ block_state Between c.carried q → judged note d ≡ judge c (line_text s l)
  unfolding judge provided◌then◌else◌
  line_blank note q d h g x y z = rw (empty_line s l.start l.stop h long, eq-eqb l.start l.stop (omega arith), x, z, y) refl

-- The loop: what is still to come of the walk.
abbrev pub to_come : List ℕ → Walk → ℕ → ℕ → ℕ
to_come s w n at = walked w (map (line_text s) (spans_from n at 0 (drop at s)))

pub heads_fit : (w : Walk) (c : State) (ids : List ℕ) → Stands w c ids → (c.carried.count ≤ 26) × (length ids ≡ 26)
heads_fit w c ids h = let a = h.carried.heads in (omega arith, a.1)

-- A complaint that is no less than none counts as none.
with_none : (best x : ℕ) → best ≤ none → min best x ≡ min best (min none x)
with_none best x h = omega arith

best_on : (best x y t : ℕ) → best ≤ none → min none x ≡ min none y → min (min best x) t ≡ min best (min y t)
best_on best x y t h e =
    ap (λ (z : ℕ). min z t) (with_none best x h ∙ (ap (min best) e ∙ sym (with_none best y h))) ∙ min_assoc best y t

module _ (s : List ℕ) (w : Walk) (c : State) (ids : List ℕ) (n at : ℕ) (h : Stands w c ids) where
  pub one_line : (l : Line) (j : Judged) (six best : ℕ) (after : List ℕ) → at < length s → Found s n at l → j ≡ judge c (line_text s l)
      → six ≡ head_noted j.state.place c.carried.count ids (line_text s l)
      → after ≡ heads_after j.state.place c.carried.count ids (line_text s l) → best ≤ none
      → (v : Walk) × Stands v j.state after
      × (min (min best (min j.note six)) (to_come s v (n + 1) l.next) ≡ min best (to_come s w n at))
  unfolding walked
  one_line l j six best after b f e x y z =
      let step = keeps_step w c ids h (line_text s l) in
      let v = (stepped w (line_text s l)).walk in
      let on : to_come s w n at ≡ min (stepped w (line_text s l)).note (to_come s v (n + 1) l.next) = ap
      (λ (ls : List Line). walked w (map (line_text s) ls)) (spans_found f b) in
      (v, rw (y, e) step.1, rw (x, e, on) (best_on best _ _ _ z step.0))

  pub no_line : length s ≤ at → to_come s w n at ≡ ends c
  unfolding walked
  no_line b = ap (λ (ls : List Line). walked w (map (line_text s) ls)) (spans_over s n at b) ∙ sym (ends_same w c ids h)

pub all_le : (s : List ℕ) → to_come s at_first 1 0 ≤ none
all_le s =
    let ls = map (line_text s) (spans_from 1 0 0 (drop 0 s)) in
    let e = walked_by_blocks (known 0 [] 0 []) ls in
    let h = by_blocks_le (known 0 [] 0 []) (blocks ls) in
    omega arith

pub refused : (s : List ℕ) (x : ℕ) (f : std.Option Refusal) → length s ≤ 65536 → x ≡ to_come s at_first 1 0
    → told f ≡ refusal_at x → told f ≡ earliest (text_faults (blocks_of s))
unfolding spans
refused s x f h e g = g ∙ (ap refusal_at e ∙ stage_walked s h)

-- The row where a line may begin: it is as long as it was, and its marks are right; they end before the line.
pub record Marks (s before words : List ℕ) (at : ℕ) : Type 0 where
  pub same : length words ≡ length before
  pub all : Kept s words 0 (length s + 1)
  pub earlier : at < length s → Kept s words 0 at

pub marks_first : (s words : List ℕ) → Unmarked words → Marks s words words 0
marks_first s words u = record { same = refl; all = unmarked_kept s words 0 (length s + 1) u; earlier = λ h. unmarked_kept s words 0 0 u }

module _ (s before words : List ℕ) (at : ℕ) (m : Marks s before words at) (room : length s + 16 ≤ length before) where
  pub marks_next : (n : ℕ) (l : Line) (after : List ℕ) → length s ≤ 65536 → at < length s → Found s n at l → Keeps s l.start l.stop words after
      → Marks s before after l.next
  marks_next n l after small there f h =
      let same = m.same in
      let k = kept_next s words after n at l f there (omega arith) small (m.earlier there) h in
      record { same = k.0 ∙ same; all = k.1; earlier = k.2 }

  pub marks_last : KeptFrom s words 0 × (length words ≡ length before)
  marks_last = let same = m.same in
      (record { room = omega arith; kept = m.all }, same)
