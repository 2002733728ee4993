-- A section has a modifier exactly where one of the values that are read of its modifiers is said.
use Prim.Native.Nat.{ℕ, ◌+◌, ◌<◌, ◌≤◌}
use mathlib.Core.Path.{◌≡◌, refl, sym, ap, ◌∙◌}
use mathlib.Core.List.{List, [], flat_map}
use mathlib.Core.Bool.{Bool, true, false, not, ◌||◌, or-true}
use mathlib.Core.Option.{Option, none, some, get_or, bind}
use native.Mathlib.Omega.{arith}
use lib.Dec.{eqb}
use lib.ListN.{length}
use borrow.Author.Tests.{eq-eqb, ne_eqb}
use Rattle.songcode.specs.Lists.{is_some}
use Rattle.songcode.specs.Answer.Lines.{Block, blocks}
use Rattle.songcode.specs.Answer.Numbers.{repeat_in}
use Rattle.songcode.specs.Song.{Cut, Modifier, Side}
use Rattle.songcode.specs.Answer.Modifiers.{ModifierName, of_repeat, of_before, of_after, modifier_place}
use Rattle.songcode.specs.Answer.Modifiers.{repeat_said, before_said, after_said}
use Rattle.songcode.specs.Answer.Sections.{body, section_faults, section_in}
use Rattle.songcode.specs.Answer.Playing.{repeats}
use Rattle.songcode.specs.Answer.Meter.{any_said}
use Rattle.songcode.proofs.ListLaws.{append_is_nil}
use Rattle.songcode.proofs.PatternLaws.{none_some}
use Rattle.std.specs.Prelude as std
use Rattle.std.specs.Prelude.{Some, None}
use Rattle.cuts.specs.declared.Cut as code
use Rattle.settings.specs.Cuts.{cut_is}
use Rattle.settings.proofs.NumberLaws.{number_in_range}
use Rattle.sections.specs.declared.blocks.Place.{Place}
use Rattle.sections.specs.declared.blocks.SectionRead.{SectionRead}
use Rattle.sections.specs.declared.slots.Said.{Said}
use Rattle.sections.specs.declared.values.Modifiers.{Modifiers}
use Rattle.sections.specs.Slots.{Setting, setting_among, setting_at}
use Rattle.sections.specs.Values.{ModifiersAre}
use Rattle.sections.specs.BlockParts.{block_at, lines_past, late_lines}
use Rattle.sections.specs.SectionSays.{side_said, SectionSays}
use Rattle.sections.specs.Onward.{Onward, section_at}
use Rattle.sections.proofs.SaidLaws.{Tells, modifier_among}
use Rattle.sections.proofs.TellLaws.{repeat_tells, before_tells, after_tells}
use Rattle.sections.proofs.SectionLaws.{clean_order}
use Rattle.laying.proofs.SideLaws.{nothing_there}
use Rattle.judging.specs.Lengths.{is_modified}

-- What says nothing is not said.
not_said : (s : List ℕ) (r : std.Option Said) → setting_at s r ≡ none → std.is_some r ≡ false
unfolding setting_at
not_said s None e = refl
not_said s (Some r) e = none_some e refl

side_there : (s : List ℕ) (r : std.Option Said) {x : Side} → bind (setting_at s r) side_said ≡ some x → std.is_some r ≡ true
unfolding setting_at bind
side_there s None e = none_some refl e
side_there s (Some r) e = refl

cut_said_lem : {c : std.Option code.Cut} (o : Option Cut) → c ≡ cut_is o → std.is_some c ≡ is_some o
unfolding cut_is is_some
cut_said_lem none e = rw e
cut_said_lem (some c) e = rw e

reordered : (a b c d e : Bool) → a || d || e || (b || c) ≡ a || b || c || d || e
reordered true b c d e = refl
reordered false true c d e = or-true (d || e)
reordered false false true d e = or-true (d || e)
reordered false false false true e = refl
reordered false false false false true = refl
reordered false false false false false = refl

module _ (s : List ℕ) (p : Place) (o : Onward s p) (inside : p.at < length s) where
  abbrev block : Block
  block = block_at s p.number p.at

  clean : section_faults block ≡ []
  unfolding flat_map
  clean =
      (append_is_nil (section_faults (block_at s p.number p.at)) (flat_map section_faults (blocks (lines_past s p.number p.at)))
      (ap (flat_map section_faults) (sym (o.opens inside)) ∙ o.fair)).0

  -- "loop and repeat counts start at 2"
  repeat_least : (k : ℕ) → (section_at s p).modifiers.repeat ≡ some k → 2 ≤ k
  unfolding section_at section_in repeat_in bind
  repeat_least k e =
      let ls = body block in
      let w = clean_order block clean in
      go (setting_among (8 + modifier_place of_repeat) ls) (sym (modifier_among of_repeat repeat_said (λ x. repeat_in x.text) repeat_tells ls w.1) ∙ e)
    where
      go : (x : Option Setting) → bind x (λ x. repeat_in x.text) ≡ some k → 2 ≤ k
      go none h = none_some refl h
      go (some x) h = (number_in_range 2 9999 x.text h).0

  side_said_lem : (m : ModifierName) (g : Modifier → Option Side) → Tells m g side_said → (r : std.Option Said)
      → setting_at s r ≡ setting_among (8 + modifier_place m) (late_lines (body block)) → (o : Option Side) → bind (setting_at s r) side_said ≡ o
      → std.is_some r ≡ is_some o
  unfolding is_some
  side_said_lem m g tells r e none h =
      let w = clean_order block clean in
      let nothing = nothing_there m g side_said tells (body block) w.0 w.1 (ap (λ (x : Option Setting). bind x side_said) (sym e) ∙ h) in
      not_said s r (e ∙ nothing)
  side_said_lem m g tells r e (some y) h = side_there s r h

  module _ (r : SectionRead) (w : ModifiersAre s (late_lines (body block)) r.modifiers) (says : SectionSays s (section_at s p) r) where
    abbrev m : Modifiers
    m = r.modifiers

    repeat_said_lem : (o : Option ℕ) → (section_at s p).modifiers.repeat ≡ o → not (eqb m.repeat 1) ≡ is_some o
    unfolding is_some repeats
    repeat_said_lem none e = let k : m.repeat ≡ 1 = says.repeat ∙ ap (λ (o : Option ℕ). get_or o 1) e in rw (eq-eqb m.repeat 1 k)
    repeat_said_lem (some k) e =
        let two = repeat_least k e in
        let same : m.repeat ≡ k = says.repeat ∙ ap (λ (o : Option ℕ). get_or o 1) e in
        rw (ne_eqb m.repeat 1 (λ z. omega arith))

    pub modified_is : is_modified r.modifiers ≡ any_said (section_at s p).modifiers
    unfolding any_said modifier_place
    modified_is =
        let x = (section_at s p).modifiers in
        rw (
          repeat_said_lem x.repeat refl,
          side_said_lem of_before before_said before_tells m.before w.before x.before says.before,
          side_said_lem of_after after_said after_tells m.after w.after x.after says.after,
          cut_said_lem x.cut_start says.front,
          cut_said_lem x.cut_end says.back,
        )
        (reordered (is_some x.repeat) (is_some x.cut_start) (is_some x.cut_end) (is_some x.before) (is_some x.after))
