-- The verdict on the check of a text is whether the text is read.
use Prim.Native.Nat.{ℕ, suc, ◌+◌, max}
use mathlib.Core.Path.{◌≡◌, refl, sym, ap, ◌∙◌}
use mathlib.Core.List.{List, [], ◌∷◌}
use mathlib.Core.Bool.{Bool, true, false, ◌&&◌, not, and-true}
use mathlib.Core.Option.{Option, none, some, bind}
use native.Mathlib.Omega.{arith}
use borrow.Author.Tests.{le-leb, lt-leb, ne_eqb}
use lib.Dec.{leb}
use lib.ListN.{length}
use Rattle.songcode.specs.Lists.{provided◌then◌else◌, is_empty, is_some}
use Rattle.songcode.specs.Answer.Lines.{Line}
use Rattle.songcode.specs.Song.{Item, Items, items}
use Rattle.songcode.specs.Answer.Tokens.{Token, sound, remover, reference, semicolon, colon, line_end, opens, closes, wrong, tokens_of}
use Rattle.songcode.specs.Answer.PatternText.{Begun, start, State, wants, has, ended, bad, add, run, done, items_in, depth, depth_i, loops_deep, references}
use Rattle.songcode.specs.Answer.PatternText.{no_reference, kept, definition_text, whole_reference, pattern_by, section_text}
use Rattle.songcode.proofs.ListLaws.{by_cases}
use Rattle.grammar.specs.declared.checks.Place.{Place}
use Rattle.grammar.specs.declared.checks.Check.{Check}
use Rattle.grammar.specs.Kinds.{kinds_of}
use Rattle.grammar.specs.Checks.{check, first, check_run, check_lines}
use Rattle.grammar.specs.States.{place_before, place_behind, within, check_rows, check_item, check_of, depth_begun, depth_rows, references_begun}
use Rattle.grammar.specs.States.{references_rows}
use Rattle.grammar.specs.Verdicts.{is_behind, is_alone, definition_fine, unnamed_fine, section_fine}
use Rattle.grammar.proofs.RowLaws.{within_limit, past_limit, by_limit, depth_added, references_added}
use Rattle.grammar.proofs.StepLaws.{before, behind, check_run_lem}
use Rattle.grammar.proofs.LateLaws.{alone_is_whole}

not_not : (b : Bool) → not (not b) ≡ b
not_not true = refl
not_not false = refl

pub and_false : (b : Bool) → (b && false) ≡ false
and_false true = refl
and_false false = refl

-- A verdict that wants an item last, and then what a test says of the references.
abbrev fine : (Bool → Bool) → Check → Bool
fine test c = definition_fine c && test (not c.named)

unfinished : (test : Bool → Bool) (d : ℕ) (c : Check) → definition_fine c ≡ false → fine test (within d c) ≡ false
unfolding definition_fine
unfinished test d c h = by_limit d (λ l. rw (within_limit d c l, h) refl) (λ l. rw (past_limit d c l) refl)

open_loop : (p : Place) (n : ℕ) (b : Bool) → definition_fine (check p (suc n) b) ≡ false
unfolding definition_fine
open_loop p n b = rw (ne_eqb (suc n) 0 (λ z. omega arith)) (and_false (is_behind p))

module _ (test : Bool → Bool) where
  finished : (d : ℕ) (p : Place) (b : Bool) → is_behind p ≡ true → fine test (within d (check p 0 b)) ≡ (leb d loops_deep && test (not b))
  unfolding definition_fine
  finished d p b h =
      by_limit
      d
      (λ l. rw (within_limit d (check p 0 b) l, le-leb d loops_deep l) (simp h))
      (λ l. rw (past_limit d (check p 0 b) l, lt-leb d loops_deep l) refl)

  kept_some : (r : Items) → is_some (kept (λ q. test (is_empty (references q))) r) ≡ (leb (depth r) loops_deep && test (is_empty (references r)))
  unfolding kept provided◌then◌else◌ is_some
  kept_some r = by_cases (leb (depth r) loops_deep && test (is_empty (references r))) (λ t. simp t) (λ t. simp t)

  whole_row : (p : Place) (r : Begun) (i : Item) → is_behind p ≡ true
      → fine test (check_item p r [] i) ≡ (leb (depth (add r i)) loops_deep && test (is_empty (references (add r i))))
  unfolding check_item depth_rows references_rows
  whole_row p r i h =
      let d : max (max (0 + depth_begun r) 0) (0 + depth_i i) ≡ depth (add r i) = omega (arith, depth_added r i) in
      rw
      (d, ← references_added r i)
      (finished (depth (add r i)) p (not (is_empty (references (add r i)))) h
      ∙ ap (λ (b : Bool). leb (depth (add r i)) loops_deep && test b) (not_not (is_empty (references (add r i)))))

  pub fine_state : (s : State) → fine test (check_of s) ≡ is_some (bind (done s) (kept (λ q. test (is_empty (references q)))))
  unfolding check_of done bind is_some check_rows check_item definition_fine
  fine_state (wants r os) = unfinished test _ _ (before (λ p. definition_fine (check p (length os) false) ≡ false) r os refl refl refl)
  fine_state (ended r os i) = unfinished test _ _ refl
  fine_state bad = refl
  fine_state (has r (o ∷ os) i) = unfinished test _ _ (open_loop (place_behind r (o ∷ os) i) (length os) false)
  fine_state (has r [] i) = whole_row (place_behind r [] i) r i (behind (λ p. is_behind p ≡ true) r [] i refl refl refl refl) ∙ sym (kept_some (add r i))

-- The check of a whole text is that of the state behind it.
run_check : (ts : List Token) → check_run first (kinds_of ts) ≡ check_of (run (wants start []) ts)
unfolding check_of check_rows place_before depth_rows depth_begun references_rows references_begun is_empty
run_check ts = sym (check_run_lem (wants start []) ts ∙ ap (λ (c : Check). check_run c (kinds_of ts)) (within_limit 0 first (omega arith)))

pub items_fine : (ts : List Token) → definition_fine (check_run first (kinds_of ts)) ≡ is_some (bind (items_in ts) (kept (λ r. true)))
unfolding items_in
items_fine ts = sym (and-true (definition_fine (check_run first (kinds_of ts))))
    ∙ (ap (fine (λ b. true)) (run_check ts) ∙ fine_state (λ b. true) (run (wants start []) ts))

pub definition_fine_lem : (l : Line) (ls : List Line) → definition_fine (check_lines l ls) ≡ is_some (definition_text l ls)
unfolding definition_text
definition_fine_lem l ls = items_fine (tokens_of l ls)

no_reference_lem : (r : Items) → no_reference r ≡ is_empty (references r)
unfolding no_reference is_empty
no_reference_lem r = of_list (references r) refl
  where
    of_list : (ns : List ℕ) → references r ≡ ns → no_reference r ≡ is_empty (references r)
    of_list [] e = rw (e, no_reference) refl
    of_list (n ∷ ns) e = rw (e, no_reference) refl

kept_unnamed : (o : Option Items) → bind o (kept (λ q. is_empty (references q))) ≡ bind o (kept no_reference)
unfolding bind kept
kept_unnamed none = refl
kept_unnamed (some r) = rw (no_reference_lem r) refl

pub unnamed_fine_lem : (ts : List Token) → unnamed_fine (check_run first (kinds_of ts)) ≡ is_some (bind (items_in ts) (kept no_reference))
unfolding items_in unnamed_fine
unnamed_fine_lem ts = ap (fine (λ b. b)) (run_check ts) ∙ (fine_state (λ b. b) (run (wants start []) ts)
    ∙ ap is_some (kept_unnamed (done (run (wants start []) ts))))

-- A section's text: `$n` alone, or items without one.
items_there : (o : Option Items) → is_some (bind o (λ r. some (items r))) ≡ is_some o
unfolding bind is_some
items_there none = refl
items_there (some r) = refl

-- Where the `$n` is not alone, none may be there.
not_whole : (ts : List Token) → whole_reference ts ≡ none → section_fine (check_run first (kinds_of ts)) ≡ is_some (pattern_by none ts)
unfolding section_fine unnamed_fine pattern_by is_some
not_whole ts e =
    let a : is_alone (check_run first (kinds_of ts)).place ≡ false = alone_is_whole ts ∙ ap is_some e in
    rw a (unnamed_fine_lem ts ∙ sym (items_there (bind (items_in ts) (kept no_reference))))

pub pattern_fine : (ts : List Token) → section_fine (check_run first (kinds_of ts)) ≡ is_some (pattern_by (whole_reference ts) ts)
unfolding whole_reference pattern_by is_some check_run kinds_of section_fine
pattern_fine [] = not_whole [] refl
pattern_fine (reference n ∷ []) = refl
pattern_fine (reference n ∷ t ∷ ts) = not_whole (reference n ∷ t ∷ ts) refl
pattern_fine (sound s ∷ ts) = not_whole (sound s ∷ ts) refl
pattern_fine (remover ∷ ts) = not_whole (remover ∷ ts) refl
pattern_fine (semicolon ∷ ts) = not_whole (semicolon ∷ ts) refl
pattern_fine (colon ∷ ts) = not_whole (colon ∷ ts) refl
pattern_fine (line_end ∷ ts) = not_whole (line_end ∷ ts) refl
pattern_fine (opens ∷ ts) = not_whole (opens ∷ ts) refl
pattern_fine (closes n ∷ ts) = not_whole (closes n ∷ ts) refl
pattern_fine (wrong ∷ ts) = not_whole (wrong ∷ ts) refl

pub section_fine_lem : (l : Line) (ls : List Line) → section_fine (check_lines l ls) ≡ is_some (section_text l ls)
unfolding section_text
section_fine_lem l ls = pattern_fine (tokens_of l ls)
