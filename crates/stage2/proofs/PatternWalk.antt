-- A section's pattern along the walk: what is pending of it says, at each line, what the lines to come make of it.
use Prim.Native.Nat.{ℕ, min}
use mathlib.Core.Path.{◌≡◌, refl, sym, ap, ◌∙◌}
use mathlib.Core.List.{List, [], ◌∷◌}
use mathlib.Core.Bool.{true, false, not}
use native.Mathlib.Omega.{arith}
use Rattle.songcode.specs.Lists.{provided◌then◌else◌, taken, left, is_some}
use Rattle.songcode.specs.Answer.Lines.{Line}
use Rattle.songcode.specs.Answer.PatternText.{section_text}
use Rattle.songcode.specs.Answer.Sections.{Kind, key_line, modifier_line, pattern_line, kind_of_line, is_pattern_line, not_pattern_line, pattern_run}
use Rattle.songcode.specs.Answer.Sections.{pattern_faults}
use Rattle.grammar.specs.Checks.{first, check_text}
use Rattle.grammar.specs.Verdicts.{section_fine}
use Rattle.grammar.proofs.VerdictLaws.{section_fine_lem}
use Rattle.stage2.specs.declared.states.Pending.{Pending}
use Rattle.stage2.specs.declared.states.Part.{Part}
use Rattle.stage2.specs.declared.states.Part.TheVariants.{Keys, Early, Pattern, Behind}
use Rattle.stage2.specs.Places.{part_after}
use Rattle.refusals.specs.Ranks.{ranked, none, least}
use Rattle.stage2.specs.Walk.{pending_after, pattern_pending, unless}
use Rattle.refusals.proofs.RankLaws.{least_if}
use Rattle.stage2.proofs.BlockWalk.{unless_none}
use Rattle.stage2.proofs.SeenLaws.{check_on, check_lines_on}
use Rattle.stage2.proofs.DefinitionWalk.{only_unless}

-- The pattern's run to come, where one is wanted.
unfoldable pub wanted : ℕ → List Line → ℕ
wanted w [] = w
wanted w (l ∷ ls) = unless (section_fine (check_on (check_text first l.text) ls)) (ranked 7 l.number)

-- What the pattern is complained of, with these lines to come.
unfoldable pub pattern_left : Part → Pending → List Line → ℕ
pattern_left Keys q ls = wanted q.want (pattern_run ls)
pattern_left Early q ls = wanted q.want (pattern_run ls)
pattern_left Pattern q ls = unless (section_fine (check_on q.check (taken is_pattern_line ls))) q.bad
pattern_left Behind q ls = unless (section_fine q.check) q.bad

-- Before the pattern nothing is said of its text; from its first line on none is wanted.
unfoldable pub Fits : Part → Pending → Type 0
Fits Keys q = q.bad ≡ none
Fits Early q = q.bad ≡ none
Fits Pattern q = q.want ≡ none
Fits Behind q = q.want ≡ none

not_yet : (q : Pending) → q.bad ≡ none → min q.want (unless (section_fine q.check) q.bad) ≡ min none q.want
not_yet q h = let u = unless_none (section_fine q.check) in rw h (omega arith)

pub at_end : (p : Part) (q : Pending) → Fits p q → min q.want (unless (section_fine q.check) q.bad) ≡ min none (pattern_left p q [])
unfolding Fits pattern_left pattern_run taken left wanted check_on
at_end Keys q h = not_yet q h
at_end Early q h = not_yet q h
at_end Pattern q h = omega arith
at_end Behind q h = omega arith

module _ (l : Line) where
  key_line_lem : kind_of_line l ≡ key_line → is_pattern_line l ≡ false
  unfolding is_pattern_line
  key_line_lem e = rw (e, is_pattern_line)

  modifier_line_lem : kind_of_line l ≡ modifier_line → is_pattern_line l ≡ false
  unfolding is_pattern_line
  modifier_line_lem e = rw (e, is_pattern_line)

  pattern_line_lem : kind_of_line l ≡ pattern_line → is_pattern_line l ≡ true
  unfolding is_pattern_line
  pattern_line_lem e = rw (e, is_pattern_line)

  module _ (ls : List Line) where
    other_run : is_pattern_line l ≡ false → pattern_run (l ∷ ls) ≡ pattern_run ls
    unfolding pattern_run left not_pattern_line provided◌then◌else◌
    other_run e = rw e

    first_run : is_pattern_line l ≡ true → pattern_run (l ∷ ls) ≡ l ∷ taken is_pattern_line ls
    unfolding pattern_run taken left not_pattern_line provided◌then◌else◌
    first_run e = rw (e, e)

    one_more_lem : is_pattern_line l ≡ true → taken is_pattern_line (l ∷ ls) ≡ l ∷ taken is_pattern_line ls
    unfolding taken provided◌then◌else◌
    one_more_lem e = rw e

    no_more : is_pattern_line l ≡ false → taken is_pattern_line (l ∷ ls) ≡ []
    unfolding taken provided◌then◌else◌
    no_more e = rw e

    -- One line more, by its kind.
    pattern_by_lem : (p : Part) (q : Pending) (k : Kind) → kind_of_line l ≡ k
        → pattern_left p q (l ∷ ls) ≡ pattern_left (part_after k p) (pending_after k p l q) ls
    unfolding pattern_left part_after pending_after pattern_pending wanted check_on
    pattern_by_lem Keys q key_line e = rw (other_run (key_line_lem e)) refl
    pattern_by_lem Keys q modifier_line e = rw (other_run (modifier_line_lem e)) refl
    pattern_by_lem Keys q pattern_line e = rw (first_run (pattern_line_lem e)) refl
    pattern_by_lem Early q key_line e = rw (other_run (key_line_lem e)) refl
    pattern_by_lem Early q modifier_line e = rw (other_run (modifier_line_lem e)) refl
    pattern_by_lem Early q pattern_line e = rw (first_run (pattern_line_lem e)) refl
    pattern_by_lem Pattern q key_line e = rw (no_more (key_line_lem e)) refl
    pattern_by_lem Pattern q modifier_line e = rw (no_more (modifier_line_lem e)) refl
    pattern_by_lem Pattern q pattern_line e = rw (one_more_lem (pattern_line_lem e)) refl
    pattern_by_lem Behind q key_line e = refl
    pattern_by_lem Behind q modifier_line e = refl
    pattern_by_lem Behind q pattern_line e = refl

    pub pattern_next : (p : Part) (q : Pending)
        → pattern_left p q (l ∷ ls) ≡ pattern_left (part_after (kind_of_line l) p) (pending_after (kind_of_line l) p l q) ls
    pattern_next p q = pattern_by_lem p q (kind_of_line l) refl

pub fits_next : (l : Line) (p : Part) (k : Kind) (q : Pending) → Fits p q → Fits (part_after k p) (pending_after k p l q)
unfolding Fits part_after pending_after pattern_pending
fits_next l Keys key_line q h = h
fits_next l Keys modifier_line q h = h
fits_next l Keys pattern_line q h = refl
fits_next l Early key_line q h = h
fits_next l Early modifier_line q h = h
fits_next l Early pattern_line q h = refl
fits_next l Pattern key_line q h = h
fits_next l Pattern modifier_line q h = h
fits_next l Pattern pattern_line q h = h
fits_next l Behind key_line q h = h
fits_next l Behind modifier_line q h = h
fits_next l Behind pattern_line q h = h

-- What the run is complained of.
pub run_faults : (header : ℕ) (run : List Line) → least (pattern_faults header run) ≡ min none (wanted (ranked 8 header) run)
unfolding pattern_faults wanted least
run_faults header [] = omega arith
run_faults header (l ∷ ls) =
    let fine : section_fine (check_on (check_text first l.text) ls) ≡ is_some (section_text l ls) = ap section_fine (sym (check_lines_on l ls))
    ∙ section_fine_lem l ls in
    rw fine (least_if (not (is_some (section_text l ls))) 7 l.number ∙ ap (min none) (only_unless (is_some (section_text l ls)) (ranked 7 l.number)))
