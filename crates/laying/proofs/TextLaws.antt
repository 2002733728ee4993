-- When a stretch of the buffer carries the items of a text: where their words stand there, or no words.
use Prim.Native.Nat.{ℕ, ◌+◌, ◌<◌, ◌≤◌}
use mathlib.Core.Path.{◌≡◌, refl, sym, ap, ◌∙◌, subst}
use mathlib.Core.List.{List, []}
use mathlib.Core.Bool.{◌&&◌}
use mathlib.Core.Option.{Option, none, some, bind}
use native.Mathlib.Omega.{arith}
use borrow.Author.Tests.{leb-true}
use lib.Dec.{leb}
use lib.ListN.{length, take, drop}
use Rattle.songcode.specs.Lists.{provided◌then◌else◌}
use Rattle.songcode.specs.Song.{Items, Pattern, items, Definition, Side}
use Rattle.songcode.specs.Answer.Tokens.{Token, tokens}
use Rattle.songcode.specs.Answer.PatternText.{depth, loops_deep, references, side_text}
use Rattle.songcode.specs.Answer.References.{pattern_items}
use Rattle.songcode.specs.Answer.Playing.{measures_of}
use Rattle.songcode.proofs.WrittenBefore.{write_items, appended}
use Rattle.songcode.proofs.ListLaws.{by_cases, Each, and_false}
use Rattle.songcode.proofs.PatternLaws.{none_some}
use Rattle.songcode.proofs.SideAgree.{side_references, side_sound}
use Rattle.songcode.proofs.TokensAgree.{text_complete}
use Rattle.tokens.specs.TokenWords.{token_words}
use Rattle.score.specs.declared.stretches.Stretch.{Stretch}
use Rattle.score.specs.Even.{even_measures}
use Rattle.score.proofs.StandingLaws.{written_stands}
use Rattle.player.specs.Texts.{row_words}
use Rattle.player.proofs.Meaning.{row_meaning}
use Rattle.songcode.proofs.GlueLaws.{put_in_same}
use Rattle.player.proofs.Walkables.{plain_walkable, empty_row}
use Rattle.outlines.specs.declared.readings.Outline.{Outline}
use Rattle.outlines.specs.Sizes.{divides}
use Rattle.outlines.specs.Readings.{outlined}
use Rattle.outlines.specs.Words.{vacant}
use Rattle.outlines.specs.Even.{even_in}
use Rattle.outlines.specs.Told.{KnowsItems}
use Rattle.outlines.proofs.WholeLaws.{tells_even}
use Rattle.outlines.proofs.KnownLaws.{items_known, empty_known}
use Rattle.sections.specs.Slots.{Setting}
use Rattle.sections.specs.SectionSays.{side_on, side_said}
use Rattle.laying.specs.declared.texts.Text.{Text}
use Rattle.laying.specs.Laying.{said_tokens, Names}
use Rattle.laying.specs.Scores.{Carries, side_items}
use Rattle.laying.proofs.FitLaws.{Good, items_fit}
use Rattle.laying.proofs.NamedLaws.{Shape, named_nothing}

-- A text read where it stands.
abbrev pub read_text : (ℕ → Outline) → List ℕ → Stretch → Text
read_text find ws t = record { at = t; outline = outlined find (drop t.from (take t.to ws)) }

module _ (ws : List ℕ) (find : ℕ → Outline) (t : Stretch) where
  -- Items without a reference.
  pub plain_carries : (r : Items) (ts : List Token) → ts ≡ write_items r [] → Each Good ts → depth r ≤ loops_deep → references r ≡ []
      → drop t.from (take t.to ws) ≡ token_words ts → Carries ws (read_text find ws t) (some r)
  unfolding Carries KnowsItems loops_deep
  plain_carries r ts e good deep plain stands =
      let f : ℕ → Option Items = λ n. none in
      let fit = items_fit r ts e good in
      let there = written_stands ws t r (stands ∙ ap token_words e) in
      let known : KnowsItems (some r) (outlined find (drop t.from (take t.to ws))) = items_known find ws t r there fit deep in
      let walkable = plain_walkable ws f r fit plain (omega arith) in (
        known.0.filled,
        known.1 plain,
        λ n. row_meaning ws f n r t walkable there ∙ ap (λ (q : Items). row_words (measures_of n none q)) (put_in_same f r plain),
      )

  -- No items.
  pub empty_carries : t.to ≤ t.from → drop t.from (take t.to ws) ≡ [] → Carries ws (read_text find ws t) none
  unfolding Carries KnowsItems
  empty_carries h e = (empty_known find ws t e, λ n. empty_row n ws t h)

  -- A lead-in or tail.
  pub side_carries : (o : Option Setting) (y : Option Side) → bind o side_said ≡ y → (bind o side_said ≡ none → o ≡ none) → Each Good (said_tokens o)
      → t.to ≡ t.from + length (token_words (said_tokens o)) → drop t.from (take t.to ws) ≡ token_words (said_tokens o) → Carries ws
      (read_text find ws t) (side_items y)
  unfolding said_tokens token_words bind side_said side_on side_items
  side_carries none y e clean good size stands = rw (← e) (empty_carries (omega arith) stands)
  side_carries (some x) y e clean good size stands = go (side_text x.text) refl
    where
      go : (q : Option Items) → side_text x.text ≡ q → Carries ws (read_text find ws t) (side_items y)
      go none f = none_some (clean (rw f refl)) refl
      go (some r) f =
          let w = side_sound x.text r f in
          let z : y ≡ some (record { line = x.line; items = r }) = sym e ∙ rw f refl in
          let written = text_complete w.text ∙ sym (appended r) in
          rw z (plain_carries r (tokens x.text) written good w.shallow (side_references r w.text w.unbarred) stands)

  -- A pattern that names nothing.
  pub items_carries : (ds : List Definition) (p : Pattern) (ts : List Token) → Names p 0 → Shape ts p → Each Good ts
      → drop t.from (take t.to ws) ≡ token_words ts → Carries ws (read_text find ws t) (pattern_items ds p)
  unfolding Shape pattern_items
  items_carries ds p ts n h good stands =
      let r = named_nothing p n in
      let e = r.1 in
      let g : Shape ts (items r.0) = subst (Shape ts) e h in
      rw e (plain_carries r.0 ts g.0 good g.1 g.2 stands)

-- What a text says may be known from another row.
pub carries_either : (vs ws : List ℕ) (i : Option Items) (t u : Text) → Carries vs t i → Carries ws u i
    → Carries ws (record { at = u.at; outline = t.outline }) i
unfolding Carries
carries_either vs ws none t u a b = (a.0, b.1)
carries_either vs ws (some r) t u a b = (a.0, a.1, b.2)

-- How many measures it has, if each has N beats.
pub carries_even : (ws : List ℕ) (t : Text) (i : Option Items) (n : ℕ) → Carries ws t i → 1 ≤ n → n ≤ 32 → even_in t.outline n ≡ even_measures n i
unfolding Carries even_measures even_in vacant provided◌then◌else◌
carries_even ws t none n c low high = rw c.0 (by_cases (divides 1 n) (λ e. rw e) (λ e. rw e))
carries_even ws t (some r) n c low high = tells_even t.outline r n c.1 low high

pub even_few : (o : Outline) (n : ℕ) → even_in o n < 65536
unfolding even_in provided◌then◌else◌
even_few o n =
    by_cases (leb o.measures 65535)
    (λ e.
    let h = leb-true o.measures 65535 e in
    by_cases (o.whole && (divides o.sizes n && leb o.measures 65535)) (λ f. rw f (omega arith)) (λ f. rw f (omega arith)))
    (λ e. rw (e, and_false (divides o.sizes n), and_false o.whole) (omega arith))
