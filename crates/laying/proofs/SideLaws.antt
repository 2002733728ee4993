-- A lead-in or tail that is said on the lines of a section without fault has items.
use Prim.Native.Nat.{ℕ, ◌+◌}
use mathlib.Core.Path.{◌≡◌, refl, sym, ap, ◌∙◌}
use mathlib.Core.List.{List, [], ◌∷◌, flat_map, filter_map}
use mathlib.Core.Bool.{Bool, true, false}
use mathlib.Core.Option.{Option, none, some, or_else, bind}
use lib.Dec.{eqb}
use Rattle.songcode.specs.Answer.Lines.{Line}
use Rattle.songcode.specs.Song.{Modifier}
use Rattle.songcode.specs.Answer.Modifiers.{ModifierName, modifier_place, said_by}
use Rattle.songcode.specs.Answer.Sections.{modifier_on, order, faults}
use Rattle.songcode.proofs.PatternLaws.{none_some}
use Rattle.sections.specs.Slots.{Setting, setting_among}
use Rattle.sections.specs.BlockParts.{late_lines}
use Rattle.sections.proofs.SaidLaws.{Told, Tells, modifier_among}
use Rattle.sections.proofs.OrderLaws.{modifiers_late}

-- Whether something is there, whatever it is.
there : {B : Type 0} → Option B → Option ℕ
unfolding bind
there o = bind o (λ z. some 0)

told_there : {B : Type 0} (b : Bool) (o p : Option B) → Told b o p → Told b (there o) (some 0)
unfolding Told there bind
told_there true o p t = (0, rw t.1 refl, refl)
told_there false o p t = rw t refl

said_there : {A B : Type 0} (g : A → Option B) (xs : List A) → said_by g xs ≡ none → said_by (λ x. there (g x)) xs ≡ none
unfolding said_by or_else there bind
said_there g [] e = refl
said_there {A} {B} g (x ∷ xs) e = go (λ h. said_there g xs h) (g x) refl e
  where
    go : (said_by g xs ≡ none → said_by (λ y. there (g y)) xs ≡ none) → (o : Option B) → g x ≡ o → or_else o (said_by g xs) ≡ none
        → or_else (there (g x)) (said_by (λ y. there (g y)) xs) ≡ none
    go rest none f h = rw f (rest h)
    go rest (some z) f h = none_some h refl

module _ {B : Type 0} (m : ModifierName) (g : Modifier → Option B) (said : Setting → Option B) (tells : Tells m g said) where
  tells_there : Tells m (λ y. there (g y)) (λ x. some 0)
  tells_there j n bs y e = told_there (eqb (modifier_place j) (modifier_place m)) (g y) (said (record { line = n; text = bs })) (tells j n bs y e)

  -- What is said without fault says something.
  pub nothing_there : (ls : List Line) → order [] ls ≡ [] → flat_map faults ls ≡ []
      → bind (setting_among (8 + modifier_place m) (late_lines ls)) said ≡ none → setting_among (8 + modifier_place m) (late_lines ls) ≡ none
  unfolding bind
  nothing_there ls ordered clean e =
      let late = modifiers_late m ls ordered in
      let a : said_by g (filter_map modifier_on ls) ≡ none = modifier_among m g said tells ls clean ∙ ap (λ (o : Option Setting). bind o said) (sym late) ∙ e in
      let b : bind {B = ℕ} (setting_among (8 + modifier_place m) ls) (λ x. some 0) ≡ none =
      sym (modifier_among m (λ y. there (g y)) (λ x. some 0) tells_there ls clean) ∙ said_there g (filter_map modifier_on ls) a in
      late ∙ go (setting_among (8 + modifier_place m) ls) b
    where
      go : (o : Option Setting) → bind {B = ℕ} o (λ x. some 0) ≡ none → o ≡ none
      go none h = refl
      go (some x) h = none_some h refl
