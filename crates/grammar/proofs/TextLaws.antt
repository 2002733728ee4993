-- The check of a text is taken line by line.
use mathlib.Core.Path.{◌≡◌, refl, ap, ◌∙◌}
use mathlib.Core.List.{List, [], ◌∷◌, ◌++◌, append_assoc}
use Rattle.songcode.specs.Answer.Lines.{Line}
use Rattle.songcode.specs.Answer.Tokens.{Token, line_end, tokens, tokens_of}
use Rattle.grammar.specs.declared.kinds.Kind.{Kind}
use Rattle.grammar.specs.declared.kinds.Kind.TheVariants.{LineEnd}
use Rattle.grammar.specs.declared.checks.Check.{Check}
use Rattle.grammar.specs.Kinds.{kind_of, kinds_of}
use Rattle.grammar.specs.Checks.{first, check_step, check_run, check_text, check_lines}

pub kinds_append : (ts us : List Token) → kinds_of (ts ++ us) ≡ kinds_of ts ++ kinds_of us
unfolding kinds_of
kinds_append [] us = refl
kinds_append (t ∷ ts) us = ap (λ (ks : List Kind). kind_of t ∷ ks) (kinds_append ts us)

pub run_append : (c : Check) (ks js : List Kind) → check_run c (ks ++ js) ≡ check_run (check_run c ks) js
unfolding check_run
run_append c [] js = refl
run_append c (k ∷ ks) js = run_append (check_step c k) ks js

pub tokens_snoc : (l : Line) (ls : List Line) (m : Line) → tokens_of l (ls ++ (m ∷ [])) ≡ tokens_of l ls ++ (line_end ∷ tokens m.text)
unfolding tokens_of
tokens_snoc l [] m = refl
tokens_snoc l (k ∷ ls) m = rw (tokens_snoc k ls m, append_assoc) refl

-- The first line; one more.
pub check_first_line : (l : Line) → check_lines l [] ≡ check_text first l.text
unfolding tokens_of
check_first_line l = refl

pub check_next_line : (l : Line) (ls : List Line) (m : Line) → check_lines l (ls ++ (m ∷ [])) ≡ check_text (check_step (check_lines l ls) LineEnd) m.text
unfolding check_run kinds_of kind_of
check_next_line l ls m =
    ap (λ (ts : List Token). check_run first (kinds_of ts)) (tokens_snoc l ls m)
    ∙ (ap (check_run first) (kinds_append (tokens_of l ls) (line_end ∷ tokens m.text))
    ∙ run_append first (kinds_of (tokens_of l ls)) (LineEnd ∷ kinds_of (tokens m.text)))
