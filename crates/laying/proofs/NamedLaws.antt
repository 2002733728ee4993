-- The number that a section's pattern names, by the first word of its text in the row.
use Prim.Native.Nat.{ℕ, ◌≤◌}
use mathlib.Core.Path.{◌≡◌, refl, sym, ap, ◌∙◌}
use mathlib.Core.List.{List, [], ◌∷◌}
use mathlib.Core.Option.{some}
use native.Mathlib.Omega.{arith}
use borrow.Author.Tests.{eq-eqb, ne_eqb}
use lib.ListN.{take, drop}
use Rattle.songcode.specs.Lists.{provided◌then◌else◌}
use Rattle.songcode.specs.Answer.Lines.{Line}
use Rattle.songcode.specs.Song.{Items, Pattern, items, named}
use Rattle.songcode.specs.Answer.Tokens.{Token, reference}
use Rattle.songcode.specs.Answer.PatternText.{depth, loops_deep, references}
use Rattle.songcode.specs.Answer.Sections.{pattern_in}
use Rattle.songcode.specs.Description.WrittenPattern.{WrittenPattern}
use Rattle.songcode.proofs.WrittenBefore.{write_items, appended}
use Rattle.songcode.proofs.PatternLaws.{none_some}
use Rattle.songcode.proofs.PatternAgree.{pattern_sound}
use Rattle.songcode.proofs.TokensAgree.{text_lines_complete}
use Rattle.score.specs.declared.stretches.Stretch.{Stretch}
use Rattle.score.specs.Places.{stretch_of, played_text}
use Rattle.score.specs.Standing.{Stands}
use Rattle.score.specs.Sections.{items_row, pattern_row}
use Rattle.score.specs.Fitting.{PatternFits}
use Rattle.score.proofs.PlayedLaws.{plain_word, named_word, plain_played, named_played}
use Rattle.laying.specs.Laying.{run_tokens, Names, named_at}

-- What the tokens of a pattern are: those of its items, or the reference alone.
unfoldable pub Shape : List Token → Pattern → Type 0
Shape ts (items r) = (ts ≡ write_items r []) × (depth r ≤ loops_deep) × (references r ≡ [])
Shape ts (named n) = ts ≡ reference n ∷ []

pub pattern_shape : (ls : List Line) (p : Pattern) → pattern_in ls ≡ some p → Shape (run_tokens ls) p
unfolding pattern_in Shape WrittenPattern run_tokens
pattern_shape [] p e = none_some refl e
pattern_shape (l ∷ ls) (items r) e = let w = pattern_sound l ls (items r) e in (text_lines_complete w.0 ∙ sym (appended r), w.1, w.2)
pattern_shape (l ∷ ls) (named n) e = text_lines_complete (pattern_sound l ls (named n) e)

-- Its words stand in the row.
pub name_there : (ws : List ℕ) (t : Stretch) (p : Pattern) → PatternFits p → drop t.from (take t.to ws) ≡ pattern_row p → Names p (named_at ws t)
unfolding PatternFits pattern_row items_row Stands Names named_at provided◌then◌else◌
name_there ws t (items r) f h = rw (ne_eqb _ 55 (plain_word ws t r f h)) refl
name_there ws t (named n) f h = let w = named_word ws t n f.1 h in (rw (eq-eqb _ 55 w.0) w.1, f.0, f.1)

-- What a pattern plays, by the number that it names.
pub named_nothing : (p : Pattern) → Names p 0 → (r : Items) × (p ≡ items r)
unfolding Names
named_nothing (items r) h = (r, refl)
named_nothing (named n) h =
    let a = h.0 in
    let b = h.1 in
    let z : ⊥ = omega arith in
    absurd z

pub named_some : (p : Pattern) (n : ℕ) → Names p n → (n ≡ 0 → ⊥) → p ≡ named n
unfolding Names
named_some (items r) n h k = absurd (k h)
named_some (named m) n h k = ap named (sym h.0)

-- Where the text stands that is played.
module _ (ws : List ℕ) (t : Stretch) (p : Pattern) (f : PatternFits p) (h : drop t.from (take t.to ws) ≡ pattern_row p) where
  pub plays_itself : Names p 0 → played_text ws t ≡ t
  unfolding PatternFits pattern_row items_row Stands Names
  plays_itself n = by p f h n
    where
      by : (y : Pattern) → PatternFits y → drop t.from (take t.to ws) ≡ pattern_row y → Names y 0 → played_text ws t ≡ t
      by (items r) g e k = plain_played ws t r g e
      by (named n) g e k =
          let a = k.0 in
          let b = k.1 in
          let z : ⊥ = omega arith in
          absurd z

  pub plays_named : (n : ℕ) → Names p n → (n ≡ 0 → ⊥) → played_text ws t ≡ stretch_of ws n
  unfolding PatternFits pattern_row
  plays_named n k z =
      let e = named_some p n k z in
      let g : PatternFits (named n) = rw e at f in
      let w : drop t.from (take t.to ws) ≡ pattern_row (named n) = rw e at h in
      named_played ws t n g.1 w
