-- Where lines stand in order, the keys are said before the pattern and the modifiers behind it.
use Prim.Native.Nat.{ℕ, ◌+◌}
use mathlib.Core.Path.{◌≡◌, refl, sym, ◌∙◌}
use mathlib.Core.List.{List, [], ◌∷◌}
use mathlib.Core.Bool.{Bool, true, false}
use mathlib.Core.Option.{none}
use native.Mathlib.Omega.{arith}
use borrow.Author.Tests.{ne_eqb}
use Rattle.songcode.specs.Lists.{provided◌then◌else◌, taken, left}
use Rattle.songcode.specs.Answer.Lines.{Line}
use Rattle.songcode.specs.Song.{KeyName}
use Rattle.songcode.specs.Answer.Keys.{key_place}
use Rattle.songcode.specs.Answer.Modifiers.{ModifierName, modifier_place}
use Rattle.songcode.specs.Answer.Sections.{pattern_line, kind_of_line, is_pattern_line, not_pattern_line, order}
use Rattle.songcode.proofs.ListLaws.{true_is_not_false}
use Rattle.songcode.proofs.LineAgree.{by_kind}
use Rattle.songcode.proofs.StandLaws.{pattern_passes, key_stops, modifier_stops, Stands, stands_first, stands_key, stands_modifier, stands_pattern}
use Rattle.songcode.proofs.StandLaws.{order_behind, key_placed, modifier_placed}
use Rattle.sections.specs.Slots.{slot_of, setting_among}
use Rattle.sections.specs.BlockParts.{early_lines, late_lines}
use Rattle.sections.proofs.SaidLaws.{key_below, modifier_below, slot_pattern_line, key_line_no_modifier, modifier_line_no_key}

module _ (l : Line) where
  not_pattern : is_pattern_line l ≡ true → not_pattern_line l ≡ false
  unfolding not_pattern_line
  not_pattern e = rw e

  yes_pattern : is_pattern_line l ≡ false → not_pattern_line l ≡ true
  unfolding not_pattern_line
  yes_pattern e = rw e

-- A line that does not say a setting is passed over.
passed : (slot : ℕ) (l : Line) (ls : List Line) → (slot_of l ≡ slot → ⊥) → setting_among slot (l ∷ ls) ≡ setting_among slot ls
unfolding setting_among provided◌then◌else◌
passed slot l ls h = rw (ne_eqb (slot_of l) slot h)

module _ (k : KeyName) where
  pattern_passed : (l : Line) (ls : List Line) → kind_of_line l ≡ pattern_line → setting_among (key_place k) (l ∷ ls) ≡ setting_among (key_place k) ls
  pattern_passed l ls e =
      let b = key_below k in
      let c = slot_pattern_line l e in
      passed (key_place k) l ls (λ z. omega arith)

  -- Behind a line that is no key there is none.
  none_behind_lem : {before : List Line} {begun past : Bool} (ls : List Line) → Stands before true begun past → order before ls ≡ []
      → setting_among (key_place k) ls ≡ none
  unfolding setting_among
  none_behind_lem [] s h = refl
  none_behind_lem (l ∷ ls) s h =
      by_kind
      (kind_of_line l)
      (λ e. true_is_not_false refl (key_placed l ls s h e))
      (λ e. passed (key_place k) l ls (modifier_line_no_key l e k) ∙ none_behind_lem ls (stands_modifier l s e) (order_behind l ls s h))
      (λ e. pattern_passed l ls e ∙ none_behind_lem ls (stands_pattern l s e) (order_behind l ls s h))

  keys_in_order : {before : List Line} (ls : List Line) → Stands before false false false → order before ls ≡ []
      → setting_among (key_place k) (early_lines ls) ≡ setting_among (key_place k) ls
  unfolding early_lines taken setting_among provided◌then◌else◌
  keys_in_order [] s h = refl
  keys_in_order (l ∷ ls) s h =
      by_kind
      (kind_of_line l)
      (λ e. rw (yes_pattern l (key_stops l e), keys_in_order ls (stands_key l s e) (order_behind l ls s h)))
      (λ e. true_is_not_false (modifier_placed l ls s h e) refl)
      (λ e.
      let none-later = pattern_passed l ls e ∙ none_behind_lem ls (stands_pattern l s e) (order_behind l ls s h) in
      rw (not_pattern l (pattern_passes l e)) (sym none-later))

  pub keys_early : (ls : List Line) → order [] ls ≡ [] → setting_among (key_place k) (early_lines ls) ≡ setting_among (key_place k) ls
  keys_early ls h = keys_in_order ls stands_first h

module _ (m : ModifierName) where
  pattern_no_modifier : (l : Line) (ls : List Line) → kind_of_line l ≡ pattern_line
      → setting_among (8 + modifier_place m) (l ∷ ls) ≡ setting_among (8 + modifier_place m) ls
  pattern_no_modifier l ls e =
      let b = modifier_below m in
      let c = slot_pattern_line l e in
      passed (8 + modifier_place m) l ls (λ z. omega arith)

  behind_pattern_lem : (ls : List Line) → setting_among (8 + modifier_place m) (left is_pattern_line ls) ≡ setting_among (8 + modifier_place m) ls
  unfolding left provided◌then◌else◌
  behind_pattern_lem [] = refl
  behind_pattern_lem (l ∷ ls) =
      by_kind
      (kind_of_line l)
      (λ e. rw (key_stops l e))
      (λ e. rw (modifier_stops l e))
      (λ e. rw (pattern_passes l e) (behind_pattern_lem ls ∙ sym (pattern_no_modifier l ls e)))

  modifiers_in_order : {before : List Line} (ls : List Line) → Stands before false false false → order before ls ≡ []
      → setting_among (8 + modifier_place m) (late_lines ls) ≡ setting_among (8 + modifier_place m) ls
  unfolding late_lines left provided◌then◌else◌
  modifiers_in_order [] s h = refl
  modifiers_in_order (l ∷ ls) s h =
      by_kind
      (kind_of_line l)
      (λ e. rw (yes_pattern l (key_stops l e)) (modifiers_in_order ls (stands_key l s e) (order_behind l ls s h)
      ∙ sym (passed (8 + modifier_place m) l ls (key_line_no_modifier l e m))))
      (λ e. true_is_not_false (modifier_placed l ls s h e) refl)
      (λ e. rw (not_pattern l (pattern_passes l e)) (behind_pattern_lem (l ∷ ls)))

  pub modifiers_late : (ls : List Line) → order [] ls ≡ [] → setting_among (8 + modifier_place m) (late_lines ls) ≡ setting_among (8 + modifier_place m) ls
  modifiers_late ls h = modifiers_in_order ls stands_first h
