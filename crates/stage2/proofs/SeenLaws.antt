-- What lines have said, and what is said twice, line by line; the check of a pattern's text, line by line.
use Prim.Native.Nat.{ℕ}
use mathlib.Core.Path.{◌≡◌, refl, sym, ap, ◌∙◌}
use mathlib.Core.List.{List, [], ◌∷◌, ◌++◌, append_assoc, append-nil}
use mathlib.Core.Option.{Option}
use Rattle.songcode.specs.Lists.{prepend}
use Rattle.songcode.specs.Answer.Lines.{Line}
use Rattle.songcode.specs.Answer.Sections.{twice}
use Rattle.grammar.specs.Checks.{first, check_step, check_text, check_lines}
use Rattle.grammar.specs.declared.checks.Check.{Check}
use Rattle.grammar.specs.declared.kinds.Kind.TheVariants.{LineEnd}
use Rattle.grammar.proofs.TextLaws.{check_first_line, check_next_line}

module _ (number : ℕ) (said : Line → Option ℕ) where
  unfoldable pub seen_after : List ℕ → List Line → List ℕ
  seen_after seen [] = seen
  seen_after seen (l ∷ ls) = seen_after (prepend (said l) seen) ls

  pub twice_append : (seen : List ℕ) (xs ys : List Line) → twice number said seen (xs ++ ys) ≡ twice number said seen xs ++ twice number said
      (seen_after seen xs) ys
  unfolding twice seen_after
  twice_append seen [] ys = refl
  twice_append seen (x ∷ xs) ys = rw (twice_append (prepend (said x) seen) xs ys, append_assoc)

-- The check of a text that goes on with these lines.
unfoldable pub check_on : Check → List Line → Check
check_on c [] = c
check_on c (l ∷ ls) = check_on (check_text (check_step c LineEnd) l.text) ls

check_append : (l : Line) (ls ms : List Line) → check_lines l (ls ++ ms) ≡ check_on (check_lines l ls) ms
unfolding check_on
check_append l ls [] = rw append-nil refl
check_append l ls (m ∷ ms) =
    ap (check_lines l) (sym (append_assoc ls (m ∷ []) ms)) ∙ (check_append l (ls ++ (m ∷ [])) ms ∙ ap (λ (c : Check). check_on c ms) (check_next_line l ls m))

pub check_lines_on : (l : Line) (ls : List Line) → check_lines l ls ≡ check_on (check_text first l.text) ls
check_lines_on l ls = check_append l [] ls ∙ ap (λ (c : Check). check_on c ls) (check_first_line l)
