-- The measures of a text with references put in: each stands on one line, and the first that does not fit is found.
use Prim.Native.Nat.{ℕ, ◌+◌, ◌≤◌}
use mathlib.Core.Path.{◌≡◌, refl, sym, ap, ◌∙◌, subst}
use mathlib.Core.List.{List, [], ◌∷◌, ◌++◌, append_assoc}
use native.Mathlib.Omega.{arith}
use lib.ListN.{length}
use Rattle.songcode.specs.Answer.Lines as songcode
use Rattle.songcode.proofs.ListLaws.{Each, each_append, by_cases}
use Rattle.text.specs.declared.lines.Line.{Line}
use Rattle.slips.specs.Places.{Whole}
use Rattle.slips.specs.Marks.{Mark, MarksFrom, end_mark, MarkedLines}
use Rattle.slips.specs.PatternText.{PutIn, PatternText, written, named}
use Rattle.slips.specs.Misfits.{is_position, over, measures_from, measures_in, no_measure, fitted}
use Rattle.slips.proofs.PutLaws.{line_put, means_position, means_lines}
use Rattle.slips.proofs.MisfitLaws.{longer, Outcome, nothing, rows_more, rows_over, Judged, judged_none, judged_position, judged_other}
use Rattle.slips.proofs.MisfitLaws.{judged_behind, fresh}
use Rattle.slips.proofs.MeasureLaws.{marked_few, MetIn, met_more, met_over, OnOneLine, each_one, end_parts, line_shut, lines_outcome, lines_rows}

-- No measure goes on behind lines.
lines_part : (s : List ℕ) (ls : List Line) (ms rest : List Mark) → MarkedLines s ls ms → measures_in (ms ++ rest) ≡ measures_in ms ++ measures_in rest
unfolding MarkedLines measures_from over
lines_part s [] ms rest h = rw h refl
lines_part s (l ∷ ls) ms rest h =
    ap (λ (ns : List Mark). measures_in (ns ++ rest)) h.5
    ∙ ap measures_in (append_assoc h.0 (end_mark l.stop ∷ h.1) rest)
    ∙ end_parts h.0 (h.1 ++ rest) l.stop
    ∙ ap (λ (rows : List (List Mark)). measures_in h.0 ++ rows) (lines_part s ls h.1 rest h.4)
    ∙ sym (append_assoc (measures_in h.0) (measures_in h.1) (measures_in rest))
    ∙ ap (λ (rows : List (List Mark)). rows ++ measures_in rest) (sym (end_parts h.0 h.1 l.stop))
    ∙ ap (λ (ns : List Mark). measures_in ns ++ measures_in rest) (sym h.5)

module _ (s : List ℕ) (small : length s ≤ 65536) (n : ℕ) where
  put_judged : (met ms all : List Mark) → PutIn s ms all → length met + length ms ≤ 65536 → Judged n met all
  unfolding PutIn
  put_judged met [] all h l = subst (Judged n met) (sym h) (judged_none n met)
  put_judged met (m ∷ ms) all h l =
      let e = longer met m in
      by_cases (is_position m.token)
      (λ p.
      let alone : all ≡ m ∷ h.1 = h.4 ∙ ap (λ (xs : List Mark). m ∷ (xs ++ h.1)) (means_position s m.token h.0 p h.2) in
      subst (Judged n met) (sym alone) (judged_position n met m h.1 (omega arith) p (put_judged (met ++ (m ∷ [])) ms h.1 h.3 (omega arith))))
      (λ p.
      let text = means_lines s m.token h.0 h.2 in
      subst (Judged n met) (sym h.4)
      (judged_other n met m (h.0 ++ h.1) p
      (judged_behind n h.0 h.1 (lines_part s text.0 h.0 h.1 text.1) (lines_outcome s small n text.0 h.0 text.1)
      (put_judged [] ms h.1 h.3 (omega arith)))))

  put_outcome : (ls : List Line) (ms all : List Mark) → MarkedLines s ls ms → PutIn s ms all → Outcome n (measures_in all) (fitted n no_measure all)
  unfolding MarkedLines PutIn measures_from over fitted
  put_outcome [] ms all h p =
      let none : all ≡ [] = subst (λ (ns : List Mark). PutIn s ns all) h p in
      subst (λ (ns : List Mark). Outcome n (measures_in ns) (fitted n no_measure ns)) (sym none) (nothing n)
  put_outcome (l ∷ ls) ms all h p =
      let r = line_put s h.0 h.1 l.stop all (subst (λ (ns : List Mark). PutIn s ns all) h.5 p) in
      let few = marked_few s l.start l.stop h.0 h.3 in
      let inside = h.2.0 in
      subst (λ (ns : List Mark). Outcome n (measures_in ns) (fitted n no_measure ns)) (sym r.4)
      (line_shut s small n r.0 r.1 l.stop (fresh n r.0 (put_judged [] h.0 r.0 r.2 (omega arith)))
      (put_outcome ls h.1 r.1 h.4 r.3))

  -- The measures of a line's tokens stand on it, the others on lines of what is put in.
  line_put_rows : (l : Line) → Whole s l → (at : ℕ) (met ms all : List Mark) → l.start ≤ at → at ≤ l.stop → MetIn l.start at met
      → MarksFrom s at l.stop ms → PutIn s ms all → Each (OnOneLine s) (measures_from met all)
  unfolding PutIn MarksFrom measures_from Each
  line_put_rows l w at met [] all b i h m p =
      subst (λ (ns : List Mark). Each (OnOneLine s) (measures_from met ns)) (sym p)
      (each_one s l l.start (omega arith) w (over met []) (met_over l.start at l.stop met [] h i tt))
  line_put_rows l w at met (k ∷ ms) all b i h m p =
      let x = m.0 in
      let y = m.1 in
      let z = m.2 in
      by_cases (is_position k.token)
      (λ q.
      let alone : all ≡ k ∷ p.1 = p.4 ∙ ap (λ (xs : List Mark). k ∷ (xs ++ p.1)) (means_position s k.token p.0 q p.2) in
      subst (λ (ns : List Mark). Each (OnOneLine s) (measures_from met ns)) (sym alone)
      (subst (Each (OnOneLine s)) (sym (rows_more met k p.1 q))
      (line_put_rows l w k.to (met ++ (k ∷ [])) ms p.1 (omega arith) z (λ _. met_more l.start at met k b h (omega arith) y) m.4 p.3)))
      (λ q.
      let text = means_lines s k.token p.0 p.2 in
      let parts = rows_over met k (p.0 ++ p.1) q
      ∙ ap (λ (rows : List (List Mark)). over met [] ++ rows) (lines_part s text.0 p.0 p.1 text.1) in
      subst (λ (ns : List Mark). Each (OnOneLine s) (measures_from met ns)) (sym p.4)
      (subst (Each (OnOneLine s)) (sym parts)
      (each_append (OnOneLine s) (over met []) (measures_in p.0 ++ measures_in p.1)
      (each_one s l l.start (omega arith) w (over met []) (met_over l.start at l.stop met [] h i tt))
      (each_append (OnOneLine s) (measures_in p.0) (measures_in p.1) (lines_rows s small n text.0 p.0 text.1)
      (line_put_rows l w k.to [] ms p.1 (omega arith) z (λ u. absurd (u refl)) m.4 p.3)))))

  -- Of a line without tokens nothing is asked.
  fresh_rows : (l : Line) → Whole s l → (ms all : List Mark) → MarksFrom s l.start l.stop ms → PutIn s ms all → Each (OnOneLine s) (measures_in all)
  unfolding PutIn MarksFrom measures_from over Each
  fresh_rows l w [] all m p = subst (λ (ns : List Mark). Each (OnOneLine s) (measures_in ns)) (sym p) tt
  fresh_rows l w (k ∷ ms) all m p =
      let x = m.0 in
      let y = m.1 in
      let z = m.2 in
      line_put_rows l w l.start [] (k ∷ ms) all (omega arith) (omega arith) (λ u. absurd (u refl)) m p

  put_rows : (ls : List Line) (ms all : List Mark) → MarkedLines s ls ms → PutIn s ms all → Each (OnOneLine s) (measures_in all)
  unfolding MarkedLines PutIn measures_from over Each
  put_rows [] ms all h p =
      let none : all ≡ [] = subst (λ (ns : List Mark). PutIn s ns all) h p in
      subst (λ (ns : List Mark). Each (OnOneLine s) (measures_in ns)) (sym none) tt
  put_rows (l ∷ ls) ms all h p =
      let r = line_put s h.0 h.1 l.stop all (subst (λ (ns : List Mark). PutIn s ns all) h.5 p) in
      subst (λ (ns : List Mark). Each (OnOneLine s) (measures_in ns)) (sym r.4)
      (subst (Each (OnOneLine s)) (sym (end_parts r.0 r.1 l.stop))
      (each_append (OnOneLine s) (measures_in r.0) (measures_in r.1) (fresh_rows l h.2 h.0 r.0 h.3 r.2)
      (put_rows ls h.1 r.1 h.4 r.3)))

  -- Both of a section's pattern.
  pub pattern_outcome : (ls : List songcode.Line) (ms : List Mark) → PatternText s ls ms → Outcome n (measures_in ms) (fitted n no_measure ms)
  pattern_outcome ls ms (written e t) = lines_outcome s small n t.lines ms t.marked
  pattern_outcome ls ms (named e own t p) = put_outcome t.lines own ms t.marked p

  pub pattern_rows : (ls : List songcode.Line) (ms : List Mark) → PatternText s ls ms → Each (OnOneLine s) (measures_in ms)
  pattern_rows ls ms (written e t) = lines_rows s small n t.lines ms t.marked
  pattern_rows ls ms (named e own t p) = put_rows t.lines own ms t.marked p
