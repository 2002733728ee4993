-- The words of a section's texts as the code lays them are those of its lead-in, pattern and tail, and can be played.
use mathlib.Core.Path.{◌≡◌, refl, sym, ap, ◌∙◌, subst}
use mathlib.Core.List.{List, [], ◌∷◌}
use mathlib.Core.Option.{Option, none, some, bind}
use Rattle.songcode.specs.Song as song
use Rattle.songcode.specs.Song.{Items, Pattern, items, named, Side}
use Rattle.songcode.specs.Answer.Tokens.{Token, tokens, reference}
use Rattle.songcode.specs.Answer.PatternText.{side_text}
use Rattle.songcode.proofs.ListLaws.{Each}
use Rattle.songcode.proofs.PatternLaws.{none_some}
use Rattle.songcode.proofs.SideAgree.{side_references, side_sound}
use Rattle.songcode.proofs.TokensAgree.{text_complete}
use Rattle.songcode.proofs.WrittenBefore.{appended}
use Rattle.tokens.specs.TokenWords.{token_words}
use Rattle.tokens.specs.Fitting.{Fit}
use Rattle.settings.specs.Cuts.{cut_is, CutFits}
use Rattle.sections.specs.Slots.{Setting}
use Rattle.sections.specs.SectionSays.{side_on, side_said}
use Rattle.score.specs.Sections.{items_row, side_row, pattern_row, cut_word}
use Rattle.score.specs.Fitting.{SideFits, PatternFits, CutSmall}
use Rattle.laying.specs.Laying.{said_tokens}
use Rattle.laying.specs.Rows.{read_word}
use Rattle.laying.proofs.FitLaws.{Counted, Good, items_fit}
use Rattle.laying.proofs.NamedLaws.{Shape}

-- A lead-in or tail.
pub side_row_lem : (o : Option Setting) (y : Option Side) → bind o side_said ≡ y → (bind o side_said ≡ none → o ≡ none) → Each Good (said_tokens o)
    → (token_words (said_tokens o) ≡ side_row y) × SideFits y
unfolding said_tokens token_words bind side_said side_on side_row items_row SideFits
side_row_lem none y e clean good = rw (← e) (refl, tt)
side_row_lem (some x) y e clean good = go (side_text x.text) refl
  where
    go : (q : Option Items) → side_text x.text ≡ q → (token_words (tokens x.text) ≡ side_row y) × SideFits y
    go none f = none_some (clean (rw f refl)) refl
    go (some r) f =
        let w = side_sound x.text r f in
        let z : y ≡ some (record { line = x.line; items = r }) = sym e ∙ rw f refl in
        let t = text_complete w.text in
        let plain = side_references r w.text w.unbarred in
        rw z (
          ap token_words t,
          record { words = items_fit r (tokens x.text) (t ∙ sym (appended r)) good; shallow = w.shallow; plain = plain },
        )

-- A pattern.
pub pattern_row_lem : (p : Pattern) (ts : List Token) → Shape ts p → Each Good ts → (token_words ts ≡ pattern_row p) × PatternFits p
unfolding Shape pattern_row items_row PatternFits Each Fit Counted
pattern_row_lem (items r) ts h good = (
  ap token_words (h.0 ∙ appended r),
  record { words = items_fit r ts h.0 good; shallow = h.1; plain = h.2 },
)
pattern_row_lem (named n) ts h good =
    let g : Each Good (reference n ∷ []) = subst (Each Good) h good in
    (ap token_words h, (g.0.1, g.0.0))

-- The cuts.
pub cut_words : (o : Option song.Cut) → read_word (cut_is o) ≡ cut_word o
unfolding cut_is cut_word
cut_words none = refl
cut_words (some c) = refl

pub cut_small : (o : Option song.Cut) → CutFits (cut_is o) → CutSmall o
unfolding CutFits cut_is CutSmall
cut_small none h = tt
cut_small (some c) h = h
