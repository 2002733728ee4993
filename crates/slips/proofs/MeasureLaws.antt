-- The measures of a line, and of lines one behind the other: each stands on one line, and the first that does not fit is found.
use Prim.Native.Nat.{ℕ, ◌-◌, ◌<◌, ◌≤◌}
use mathlib.Core.Path.{◌≡◌, refl, sym, subst}
use mathlib.Core.List.{List, [], ◌∷◌, ◌++◌}
use native.Mathlib.Omega.{arith}
use lib.ListN.{length}
use Rattle.songcode.specs.Lists.{provided◌then◌else◌}
use Rattle.songcode.proofs.ListLaws.{Each, each_append, by_cases, nil_is_not_cons}
use Rattle.text.specs.declared.lines.Line.{Line}
use Rattle.slips.specs.declared.readings.Misfit.{Misfit}
use Rattle.slips.specs.Places.{Whole, OneLine}
use Rattle.slips.specs.Marks.{Mark, MarksFrom, end_mark, MarkedLines}
use Rattle.slips.specs.Misfits.{is_position, over, measures_from, measures_in, first_from, last_to, no_measure}
use Rattle.slips.specs.Misfits.{fitting_if, fitted}
use Rattle.slips.proofs.MisfitLaws.{fitted_behind, kept, last_one, Outcome, both, nothing, line_ended, of_fresh, parted}

-- A token takes a byte at least.
pub marked_few : (s : List ℕ) (at stop : ℕ) (ms : List Mark) → MarksFrom s at stop ms → length ms ≤ stop - at
unfolding MarksFrom
marked_few s at stop [] h = omega arith
marked_few s at stop (m ∷ ms) h =
    let a = h.0 in
    let b = h.1 in
    let c = h.2 in
    let r = marked_few s m.to stop ms h.4 in
    omega arith

-- A measure stands between two places.
abbrev Spanned : ℕ → ℕ → List Mark → Type 0
Spanned a b row = (a ≤ first_from row) × (first_from row < last_to row) × (last_to row ≤ b)

abbrev pub MetIn : ℕ → ℕ → List Mark → Type 0
MetIn a at met = (met ≡ [] → ⊥) → Spanned a at met

pub met_more : (a at : ℕ) (met : List Mark) (m : Mark) → a ≤ at → MetIn a at met → at ≤ m.from → m.from < m.to → Spanned a m.to (met ++ (m ∷ []))
unfolding first_from last_to
met_more a at [] m l h i j = (omega arith, omega arith, omega arith)
met_more a at (k ∷ met) m l h i j =
    let p = h (λ e. nil_is_not_cons (sym e)) in
    let x = p.0 in
    let y = p.1 in
    let z = p.2 in
    let e = last_one (k ∷ met) m in
    (omega arith, omega arith, omega arith)

pub met_over : (a at stop : ℕ) (met : List Mark) (rows : List (List Mark)) → MetIn a at met → at ≤ stop → Each (Spanned a stop) rows
    → Each (Spanned a stop) (over met rows)
unfolding over Each
met_over a at stop [] rows h l e = e
met_over a at stop (m ∷ met) rows h l e =
    let p = h (λ e. nil_is_not_cons (sym e)) in
    let z = p.2 in
    ((p.0, p.1, omega arith), e)

-- So do all measures of a line.
rows_spanned : (s : List ℕ) (a at stop : ℕ) (met ms : List Mark) → a ≤ at → at ≤ stop → MetIn a at met → MarksFrom s at stop ms
    → Each (Spanned a stop) (measures_from met ms)
unfolding MarksFrom measures_from provided◌then◌else◌ Each
rows_spanned s a at stop met [] i j h m = met_over a at stop met [] h j tt
rows_spanned s a at stop met (k ∷ ms) i j h m =
    let x = m.0 in
    let y = m.1 in
    let z = m.2 in
    by_cases (is_position k.token)
    (λ p.
    rw p
    (rows_spanned s a k.to stop (met ++ (k ∷ [])) ms (omega arith) z (λ _. met_more a at met k i h (omega arith) y) m.4))
    (λ p.
    rw p
    (met_over a at stop met (measures_from [] ms) h j
    (rows_spanned s a k.to stop [] ms (omega arith) z (λ n. absurd (n refl)) m.4)))

abbrev pub OnOneLine : List ℕ → List Mark → Type 0
OnOneLine s row = OneLine s (first_from row) (last_to row)

pub each_one : (s : List ℕ) (l : Line) (a : ℕ) → l.start ≤ a → Whole s l → (rows : List (List Mark)) → Each (Spanned a l.stop) rows
    → Each (OnOneLine s) rows
unfolding Each
each_one s l a b w [] e = tt
each_one s l a b w (r ∷ rows) e =
    let p = e.0 in
    let x = p.0 in
    let y = p.1 in
    let z = p.2 in
    let u = w.0 in
    (record { onward = omega arith; inside = omega arith; unended = λ k i j. w.1 k (omega arith) (omega arith) }, each_one s l a b w rows e.1)

pub line_rows : (s : List ℕ) (l : Line) (a : ℕ) (ms : List Mark) → l.start ≤ a → Whole s l → MarksFrom s a l.stop ms → Each (OnOneLine s) (measures_in ms)
unfolding MarksFrom measures_from over Each
line_rows s l a [] b w m = tt
line_rows s l a (k ∷ ms) b w m =
    let x = m.0 in
    let y = m.1 in
    let z = m.2 in
    each_one s l a b w (measures_in (k ∷ ms)) (rows_spanned s a a l.stop [] (k ∷ ms) (omega arith) (omega arith) (λ n. absurd (n refl)) m)

-- What is fitted of a line, and of lines one behind the other.
end_shuts : (n : ℕ) (x : Misfit) (ms rest : List Mark) (stop : ℕ) → fitted n x (ms ++ (end_mark stop ∷ rest)) ≡ fitted n (line_ended n (fitted n x ms)) rest
unfolding fitted fitting_if provided◌then◌else◌ is_position
end_shuts n x ms rest stop = fitted_behind n x ms (end_mark stop ∷ rest)

pub end_parts : (ms rest : List Mark) (stop : ℕ) → measures_in (ms ++ (end_mark stop ∷ rest)) ≡ measures_in ms ++ measures_in rest
unfolding is_position
end_parts ms rest stop = parted [] ms rest (end_mark stop) refl

module _ (s : List ℕ) (small : length s ≤ 65536) (n : ℕ) where
  -- Tokens of a line, its end, and others of which it is known.
  pub line_shut : (here rest : List Mark) (stop : ℕ) → Outcome n (measures_in here) (line_ended n (fitted n no_measure here))
      → Outcome n (measures_in rest) (fitted n no_measure rest)
      → Outcome n (measures_in (here ++ (end_mark stop ∷ rest))) (fitted n no_measure (here ++ (end_mark stop ∷ rest)))
  line_shut here rest stop first o =
      let y = line_ended n (fitted n no_measure here) in
      rw (end_parts here rest stop, end_shuts n no_measure here rest stop)
      (both first (λ t. kept n y rest t)
      (λ t. subst (λ (x : Misfit). Outcome n (measures_in rest) (fitted n x rest)) (sym (first.none t).1) o))

  pub line_and : (at stop : ℕ) → stop ≤ length s → (here rest : List Mark) → MarksFrom s at stop here → Outcome n (measures_in rest) (fitted n no_measure rest)
      → Outcome n (measures_in (here ++ (end_mark stop ∷ rest))) (fitted n no_measure (here ++ (end_mark stop ∷ rest)))
  line_and at stop l here rest m o =
      let few = marked_few s at stop here m in line_shut here rest stop (of_fresh n here (omega arith)) o

  pub lines_outcome : (ls : List Line) (ms : List Mark) → MarkedLines s ls ms → Outcome n (measures_in ms) (fitted n no_measure ms)
  unfolding MarkedLines measures_from over fitted
  lines_outcome [] ms h = subst (λ (ns : List Mark). Outcome n (measures_in ns) (fitted n no_measure ns)) (sym h) (nothing n)
  lines_outcome (l ∷ ls) ms h =
      subst (λ (ns : List Mark). Outcome n (measures_in ns) (fitted n no_measure ns)) (sym h.5)
      (line_and l.start l.stop h.2.0 h.0 h.1 h.3 (lines_outcome ls h.1 h.4))

  pub lines_rows : (ls : List Line) (ms : List Mark) → MarkedLines s ls ms → Each (OnOneLine s) (measures_in ms)
  unfolding MarkedLines measures_from over Each
  lines_rows [] ms h = subst (λ (ns : List Mark). Each (OnOneLine s) (measures_in ns)) (sym h) tt
  lines_rows (l ∷ ls) ms h =
      subst (λ (ns : List Mark). Each (OnOneLine s) (measures_in ns)) (sym h.5)
      (subst (Each (OnOneLine s)) (sym (end_parts h.0 h.1 l.stop))
      (each_append (OnOneLine s) (measures_in h.0) (measures_in h.1) (line_rows s l l.start h.0 (omega arith) h.2 h.3)
      (lines_rows ls h.1 h.4)))
