-- What is fitted of a text is its first measure whose positions do not divide N.
use Prim.Native.Nat.{ℕ, ◌+◌, ◌%◌, ◌<◌, ◌≤◌}
use mathlib.Core.Path.{◌≡◌, refl, sym, ap, ◌∙◌, subst}
use mathlib.Core.List.{List, [], ◌∷◌, ◌++◌, append_assoc}
use mathlib.Core.Bool.{Bool, true, false}
use native.Mathlib.Omega.{arith}
use lib.Dec.{eqb}
use lib.ListN.{length, length-append}
use borrow.Author.Tests.{lt-ltb, eqb-true, eqb-false, eq-eqb, ne_eqb}
use Rattle.songcode.specs.Lists.{provided◌then◌else◌}
use Rattle.songcode.specs.Song.{chord, again, silence}
use Rattle.songcode.specs.Answer.Tokens.{Token, sound, remover, reference, semicolon, colon, line_end, opens, closes, wrong}
use Rattle.songcode.proofs.ListLaws.{by_cases, true_is_not_false}
use Rattle.tokens.specs.Fitting.{Fit, kind}
use Rattle.slips.specs.declared.readings.Misfit.{Misfit}
use Rattle.slips.specs.Marks.{Mark}
use Rattle.slips.specs.Misfits.{is_position, over, measures_from, measures_in, first_from, last_to, AllFit, FirstMisfit, no_measure, one_more}
use Rattle.slips.specs.Misfits.{closing, beginning, fitting_if, fitting, is_position_sign, fitting_sign, fitted}

-- Case by case, as the code tells them apart.
module _ (n : ℕ) (x : Misfit) where
  pub closing_none : x.positions ≡ 0 → x ≡ closing n x
  unfolding closing provided◌then◌else◌
  closing_none e = rw (eq-eqb x.positions 0 e) refl

  module _ (some : x.positions ≡ 0 → ⊥) where
    pub closing_fits : n % x.positions ≡ 0 → no_measure ≡ closing n x
    unfolding closing provided◌then◌else◌
    closing_fits e = rw (ne_eqb x.positions 0 some, eq-eqb (n % x.positions) 0 e) refl

    pub closing_misfit : (n % x.positions ≡ 0 → ⊥) → record { positions = x.positions; from = x.from; to = x.to; found = true } ≡ closing n x
    unfolding closing provided◌then◌else◌
    closing_misfit e = rw (ne_eqb x.positions 0 some, ne_eqb (n % x.positions) 0 e) refl

  module _ (from to : ℕ) where
    pub begun_first : {k : ℕ} → k ≡ one_more x.positions → x.positions ≡ 0
        → record { positions = k; from = from; to = to; found = false } ≡ beginning x from to
    unfolding beginning provided◌then◌else◌
    begun_first e z = rw (e, eq-eqb x.positions 0 z) refl

    pub begun_more : {k : ℕ} → k ≡ one_more x.positions → (x.positions ≡ 0 → ⊥)
        → record { positions = k; from = x.from; to = to; found = false } ≡ beginning x from to
    unfolding beginning provided◌then◌else◌
    begun_more e z = rw (e, ne_eqb x.positions 0 z) refl

    module _ (b : Bool) where
      pub fit_found : x.found ≡ true → x ≡ fitting_if b n x from to
      unfolding fitting_if provided◌then◌else◌
      fit_found h = rw h refl

      pub fit_position : x.found ≡ false → b ≡ true → beginning x from to ≡ fitting_if b n x from to
      unfolding fitting_if provided◌then◌else◌
      fit_position h p = rw (h, p) refl

      pub fit_other : x.found ≡ false → b ≡ false → closing n x ≡ fitting_if b n x from to
      unfolding fitting_if provided◌then◌else◌
      fit_other h p = rw (h, p) refl

-- A token's kind says as much as the token.
position_sign : (t : Token) → Fit t → is_position_sign (kind t) ≡ is_position t
unfolding is_position kind Fit
position_sign (sound (chord c)) f = rw (lt-ltb c.base 34 (omega (arith, f.0)))
position_sign (sound again) f = refl
position_sign (sound silence) f = refl
position_sign remover f = refl
position_sign (reference n) f = refl
position_sign semicolon f = refl
position_sign colon f = refl
position_sign line_end f = refl
position_sign opens f = refl
position_sign (closes n) f = refl
position_sign wrong f = refl

pub fitting_sign_lem : (n : ℕ) (x : Misfit) (t : Token) (from to : ℕ) → Fit t → fitting_sign n x (kind t) from to ≡ fitting n x t from to
fitting_sign_lem n x t from to f = ap (λ (b : Bool). fitting_if b n x from to) (position_sign t f)

pub fitted_behind : (n : ℕ) (x : Misfit) (ms ns : List Mark) → fitted n x (ms ++ ns) ≡ fitted n (fitted n x ms) ns
unfolding fitted
fitted_behind n x [] ns = refl
fitted_behind n x (m ∷ ms) ns = fitted_behind n (fitting n x m.token m.from m.to) ms ns

-- Once one is found nothing changes.
pub kept : (n : ℕ) (x : Misfit) (ms : List Mark) → x.found ≡ true → fitted n x ms ≡ x
unfolding fitted
kept n x [] h = refl
kept n x (m ∷ ms) h = ap (λ (y : Misfit). fitted n y ms) (sym (fit_found n x m.from m.to (is_position m.token) h)) ∙ kept n x ms h

-- The measure that is met so far.
abbrev pub state : List Mark → Misfit
state met = record { positions = length met; from = first_from met; to = last_to met; found = false }

pub last_one : (met : List Mark) (m : Mark) → last_to (met ++ (m ∷ [])) ≡ m.to
unfolding last_to
last_one [] m = refl
last_one (k ∷ []) m = refl
last_one (k ∷ j ∷ met) m = last_one (j ∷ met) m

one_more_lem : (k : ℕ) → k < 65536 → one_more k ≡ k + 1
unfolding one_more provided◌then◌else◌
one_more_lem k h = rw (lt-ltb k 65536 h)

pub longer : (met : List Mark) (m : Mark) → length (met ++ (m ∷ [])) ≡ length met + 1
longer met m = simp length-append

only_one : (m : Mark) → record { positions = 0 + 1; from = m.from; to = m.to; found = false } ≡ state (m ∷ [])
unfolding first_from last_to
only_one m = refl

same_state : (k : Mark) (met : List Mark) (m : Mark)
    → record { positions = length ((k ∷ met) ++ (m ∷ [])); from = first_from (k ∷ met); to = m.to; found = false } ≡ state ((k ∷ met) ++ (m ∷ []))
unfolding first_from
same_state k met m = rw (last_one (k ∷ met) m)

more : (n : ℕ) (met : List Mark) (m : Mark) → length met < 65536 → is_position m.token ≡ true
    → fitting n (state met) m.token m.from m.to ≡ state (met ++ (m ∷ []))
more n met m h p = sym (fit_position n (state met) m.from m.to (is_position m.token) refl p) ∙ by_met met h
  where
    by_met : (met : List Mark) → length met < 65536 → beginning (state met) m.from m.to ≡ state (met ++ (m ∷ []))
    by_met [] h = sym (begun_first n (state []) m.from m.to (sym (one_more_lem 0 h)) refl) ∙ only_one m
    by_met (k ∷ met) h =
        sym (begun_more n (state (k ∷ met)) m.from m.to (longer (k ∷ met) m ∙ sym (one_more_lem (length (k ∷ met)) h))
        (λ z. let y : ⊥ = omega arith in y))
        ∙ same_state k met m

-- What is found among measures.
pub record Outcome (n : ℕ) (rows : List (List Mark)) (y : Misfit) : Type 0 where
  pub told : y.found ≡ true → FirstMisfit n rows y.from y.to y.positions
  pub none : y.found ≡ false → AllFit n rows × (y ≡ no_measure)

all_fit : (n : ℕ) (rows more : List (List Mark)) → AllFit n rows → AllFit n more → AllFit n (rows ++ more)
unfolding AllFit
all_fit n [] more f g = g
all_fit n (r ∷ rows) more f g = (f.0, all_fit n rows more f.1 g)

-- Among measures and others behind them.
pub both : {n : ℕ} {rows more : List (List Mark)} {y z : Misfit} → Outcome n rows y → (y.found ≡ true → z ≡ y)
    → (y.found ≡ false → Outcome n more z) → Outcome n (rows ++ more) z
both {n} {rows} {more} {y} {z} o kept fresh = by_cases y.found (λ t. at_once t (kept t)) (λ t. later t (fresh t))
  where
    at_once : y.found ≡ true → z ≡ y → Outcome n (rows ++ more) z
    at_once t e =
        let f = o.told t in
        subst (Outcome n (rows ++ more)) (sym e) (record {
          told = λ _.
              record {
                front = f.front;
                here = f.here;
                behind = f.behind ++ more;
                measures = ap (λ (r : List (List Mark)). r ++ more) f.measures ∙ append_assoc f.front (f.here ∷ f.behind) more;
                fit = f.fit;
                undivided = f.undivided;
                begins = f.begins;
                ends = f.ends;
                counted = f.counted;
              };
          none = λ u. true_is_not_false t u;
        })

    later : y.found ≡ false → Outcome n more z → Outcome n (rows ++ more) z
    later t p =
        let fits = (o.none t).0 in
        record {
          told = λ u.
              let f = p.told u in
              record {
                front = rows ++ f.front;
                here = f.here;
                behind = f.behind;
                measures = ap (λ (r : List (List Mark)). rows ++ r) f.measures ∙ sym (append_assoc rows f.front (f.here ∷ f.behind));
                fit = all_fit n rows f.front fits f.fit;
                undivided = f.undivided;
                begins = f.begins;
                ends = f.ends;
                counted = f.counted;
              };
          none = λ u. let g = p.none u in (all_fit n rows more fits g.0, g.1);
        }

pub nothing : (n : ℕ) → Outcome n [] no_measure
unfolding AllFit
nothing n = record { told = λ t. true_is_not_false t refl; none = λ _. (tt, refl) }

fresh_is : state [] ≡ no_measure
unfolding first_from last_to
fresh_is = refl

none_met : (n : ℕ) → Outcome n [] (state [])
unfolding first_from last_to
none_met n = nothing n

-- A measure is over.
ended : (n : ℕ) (met : List Mark) → Outcome n (over met []) (closing n (state met))
unfolding over AllFit
ended n [] = subst (Outcome n []) (closing_none n (state []) refl) (none_met n)
ended n (m ∷ met) =
    let some : length (m ∷ met) ≡ 0 → ⊥ = λ z. omega arith in
    by_cases (eqb (n % length (m ∷ met)) 0)
    (λ e.
    subst (Outcome n ((m ∷ met) ∷ [])) (closing_fits n (state (m ∷ met)) some (eqb-true _ 0 e))
    (record { told = λ t. true_is_not_false t refl; none = λ _. ((eqb-true _ 0 e, tt), refl) }))
    (λ e.
    subst (Outcome n ((m ∷ met) ∷ [])) (closing_misfit n (state (m ∷ met)) some (eqb-false _ 0 e))
    (record {
      told = λ _.
          record {
            front = [];
            here = m ∷ met;
            behind = [];
            measures = refl;
            fit = tt;
            undivided = eqb-false _ 0 e;
            begins = refl;
            ends = refl;
            counted = refl;
          };
      none = λ t. true_is_not_false refl t;
    }))

over_both : (met : List Mark) (rows : List (List Mark)) → over met rows ≡ over met [] ++ rows
unfolding over
over_both [] rows = refl
over_both (m ∷ met) rows = refl

-- A line's end ends a measure.
abbrev pub line_ended : ℕ → Misfit → Misfit
line_ended n y = fitting_if false n y 0 0

shut_found : (n : ℕ) (y : Misfit) → y.found ≡ true → line_ended n y ≡ y
unfolding fitting_if provided◌then◌else◌
shut_found n y h = rw h

by_sign : (n : ℕ) (met : List Mark) (m : Mark) → is_position m.token ≡ false
    → fitting n (state met) m.token m.from m.to ≡ closing n (state met)
unfolding fitting_if provided◌then◌else◌
by_sign n met m p = rw p

pub rows_more : (met : List Mark) (m : Mark) (ms : List Mark) → is_position m.token ≡ true → measures_from met (m ∷ ms) ≡ measures_from (met ++ (m ∷ [])) ms
unfolding measures_from provided◌then◌else◌
rows_more met m ms p = rw p

pub rows_over : (met : List Mark) (m : Mark) (ms : List Mark) → is_position m.token ≡ false → measures_from met (m ∷ ms) ≡ over met [] ++ measures_in ms
unfolding measures_from provided◌then◌else◌
rows_over met m ms p = rw p (over_both met (measures_from [] ms))

-- What is found in some tokens behind those of a measure that was begun, if a line ends there.
abbrev pub Judged : ℕ → List Mark → List Mark → Type 0
Judged n met ms = Outcome n (measures_from met ms) (line_ended n (fitted n (state met) ms))

pub judged_none : (n : ℕ) (met : List Mark) → Judged n met []
unfolding fitted measures_from
judged_none n met = ended n met

pub judged_position : (n : ℕ) (met : List Mark) (m : Mark) (ms : List Mark) → length met < 65536 → is_position m.token ≡ true
    → Judged n (met ++ (m ∷ [])) ms → Judged n met (m ∷ ms)
unfolding fitted
judged_position n met m ms h p next =
    subst (λ (r : List (List Mark)). Outcome n r (line_ended n (fitted n (state met) (m ∷ ms)))) (sym (rows_more met m ms p))
    (subst (λ (x : Misfit). Outcome n (measures_from (met ++ (m ∷ [])) ms) (line_ended n (fitted n x ms))) (sym (more n met m h p)) next)

pub judged_other : (n : ℕ) (met : List Mark) (m : Mark) (ms : List Mark) → is_position m.token ≡ false → Judged n [] ms → Judged n met (m ∷ ms)
unfolding fitted
judged_other n met m ms p rest =
    let y = closing n (state met) in
    let all = both (ended n met)
    (λ t. ap (line_ended n) (kept n y ms t) ∙ shut_found n y t)
    (λ t. subst (λ (x : Misfit). Outcome n (measures_from [] ms) (line_ended n (fitted n x ms))) (fresh_is ∙ sym ((ended n met).none t).1) rest) in
    subst (λ (r : List (List Mark)). Outcome n r (line_ended n (fitted n (state met) (m ∷ ms)))) (sym (rows_over met m ms p))
    (subst (λ (x : Misfit). Outcome n (over met [] ++ measures_from [] ms) (line_ended n (fitted n x ms))) (sym (by_sign n met m p)) all)

-- Behind a text whose measures are over.
pub judged_behind : (n : ℕ) (here rest : List Mark) → measures_in (here ++ rest) ≡ measures_in here ++ measures_in rest
    → Outcome n (measures_in here) (fitted n no_measure here) → Judged n [] rest → Judged n [] (here ++ rest)
unfolding first_from last_to
judged_behind n here rest e o r =
    let y = fitted n no_measure here in
    rw (e, fitted_behind n no_measure here rest)
    (both o
    (λ t. ap (line_ended n) (kept n y rest t) ∙ shut_found n y t)
    (λ t. subst (λ (x : Misfit). Outcome n (measures_in rest) (line_ended n (fitted n x rest))) (sym (o.none t).1) r))

-- Of the tokens of a line, and its end.
of_line : (n : ℕ) (met ms : List Mark) → length met + length ms ≤ 65536 → Judged n met ms
of_line n met [] h = judged_none n met
of_line n met (m ∷ ms) h =
    let e = longer met m in
    by_cases (is_position m.token)
    (λ p. judged_position n met m ms (omega arith) p (of_line n (met ++ (m ∷ [])) ms (omega arith)))
    (λ p. judged_other n met m ms p (of_line n [] ms (omega arith)))

-- Of tokens behind which nothing was begun.
pub fresh : (n : ℕ) (ms : List Mark) → Judged n [] ms → Outcome n (measures_in ms) (line_ended n (fitted n no_measure ms))
unfolding first_from last_to
fresh n ms h = h

pub of_fresh : (n : ℕ) (ms : List Mark) → length ms ≤ 65536 → Outcome n (measures_in ms) (line_ended n (fitted n no_measure ms))
of_fresh n ms h = fresh n ms (of_line n [] ms (omega arith))

-- The measures of two texts with a line's end between them.
pub parted : (met ms ns : List Mark) (m : Mark) → is_position m.token ≡ false
    → measures_from met (ms ++ (m ∷ ns)) ≡ measures_from met ms ++ measures_in ns
unfolding measures_from provided◌then◌else◌
parted met [] ns m p = rw p (over_both met (measures_from [] ns))
parted met (k ∷ ms) ns m p =
    by_cases (is_position k.token)
    (λ q. rw q (parted (met ++ (k ∷ [])) ms ns m p))
    (λ q.
    rw q
    (over_both met (measures_from [] (ms ++ (m ∷ ns)))
    ∙ ap (λ (r : List (List Mark)). over met [] ++ r) (parted [] ms ns m p)
    ∙ sym (append_assoc (over met []) (measures_from [] ms) (measures_in ns))
    ∙ ap (λ (r : List (List Mark)). r ++ measures_in ns) (sym (over_both met (measures_from [] ms)))))
