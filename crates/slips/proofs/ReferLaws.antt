-- A text read with references put in: what is remembered of a definition stays so, and read again it changes nothing.
use Rattle.std.specs.Prelude.{Option, Some, None}
use Rattle.std.proofs.lemmas.Option.{none-some}
use Prim.Native.Nat.{ℕ, zero, suc, ◌+◌, ◌%◌, ◌≤◌}
use mathlib.Core.Path.{◌≡◌, refl, sym, ap, ◌∙◌, subst}
use mathlib.Core.Logic.{◌⊎◌, inl, inr, ⊎_elim}
use mathlib.Core.List.{List, [], ◌∷◌}
use mathlib.Core.Bool.{Bool, true, false}
use native.Mathlib.Omega.{arith}
use lib.Dec.{eqb, ltb}
use lib.ListN.{length, get_or, set, replicate, length-set}
use lib.Seq.{get_or-set_same, get_or-set_other}
use borrow.Author.Tests.{eqb-true, eqb-false, ltb-true, ltb-false}
use Rattle.songcode.specs.Lists.{provided◌then◌else◌}
use Rattle.songcode.specs.Answer.Answer.{blocks_of}
use Rattle.songcode.proofs.ListLaws.{by_cases}
use Rattle.text.specs.declared.lines.Line.{Line}
use Rattle.slips.specs.declared.readings.Misfit.{Misfit}
use Rattle.slips.specs.declared.readings.Reading.{Reading}
use Rattle.slips.specs.declared.referring.Referring.{Referring}
use Rattle.slips.specs.declared.referring.Meant.{Meant}
use Rattle.slips.specs.Marks.{Mark, MarkedLines, PlainText}
use Rattle.slips.specs.PatternText.{definition_lines}
use Rattle.slips.specs.Misfits.{is_position, no_measure, one_more, closing, beginning, fitting_if, fitted}
use Rattle.slips.specs.Readings.{Follows}
use Rattle.slips.specs.Referring.{Remembers, Closed, Passed, Known}
use Rattle.slips.proofs.StrayLaws.{settled, all_still, Settled, settled_or_silent}
use Rattle.slips.proofs.MisfitLaws.{closing_none, closing_fits, closing_misfit, fit_found, fit_position, fit_other, kept}
use Rattle.slips.proofs.MeasureLaws.{lines_outcome}

-- A measure without positions is none.
abbrev Fresh : Misfit → Type 0
Fresh x = x.positions ≡ 0 → x ≡ no_measure

some_more : (k : ℕ) → one_more k ≡ 0 → ⊥
unfolding one_more provided◌then◌else◌
some_more k e =
    by_cases (ltb k 65536)
    (λ h. let z : k + 1 ≡ 0 = rw h at e in omega arith)
    (λ h. let z : k ≡ 0 = rw h at e in
    let l = ltb-false k 65536 h in omega arith)

module _ (n : ℕ) (x : Misfit) (f : Fresh x) where
  -- Behind a measure that is over.
  closed_over : Closed (closing n x)
  closed_over =
      by_cases (eqb x.positions 0)
      (λ e. let z = eqb-true x.positions 0 e in inr (sym (closing_none n x z) ∙ f z))
      (λ e.
      let z = eqb-false x.positions 0 e in
      by_cases (eqb (n % x.positions) 0)
      (λ d. inr (sym (closing_fits n x z (eqb-true (n % x.positions) 0 d))))
      (λ d. inl (ap (λ (y : Misfit). y.found) (sym (closing_misfit n x z (eqb-false (n % x.positions) 0 d))))))

  fresh_over : Fresh (closing n x)
  fresh_over k =
      by_cases (eqb x.positions 0)
      (λ e. let z = eqb-true x.positions 0 e in sym (closing_none n x z) ∙ f z)
      (λ e.
      let z = eqb-false x.positions 0 e in
      by_cases (eqb (n % x.positions) 0)
      (λ d. sym (closing_fits n x z (eqb-true (n % x.positions) 0 d)))
      (λ d. absurd (z (ap (λ (y : Misfit). y.positions) (closing_misfit n x z (eqb-false (n % x.positions) 0 d)) ∙ k))))

  fresh_begun : (from to : ℕ) → Fresh (beginning x from to)
  unfolding beginning
  fresh_begun from to k = absurd (some_more x.positions k)

  fresh_one : (b : Bool) (from to : ℕ) → Fresh (fitting_if b n x from to)
  fresh_one b from to =
      by_cases x.found
      (λ h. subst Fresh (fit_found n x from to b h) f)
      (λ h.
      by_cases b
      (λ p. subst Fresh (fit_position n x from to b h p) (fresh_begun from to))
      (λ p. subst Fresh (fit_other n x from to b h p) fresh_over))

  pub closed_by : (from to : ℕ) → Closed (fitting_if false n x from to)
  closed_by from to =
      by_cases x.found
      (λ h. inl (ap (λ (y : Misfit). y.found) (sym (fit_found n x from to false h)) ∙ h))
      (λ h. subst Closed (fit_other n x from to false h refl) closed_over)

fresh_all : (n : ℕ) (x : Misfit) (ms : List Mark) → Fresh x → Fresh (fitted n x ms)
unfolding fitted
fresh_all n x [] f = f
fresh_all n x (m ∷ ms) f = fresh_all n (fitting_if (is_position m.token) n x m.from m.to) ms (fresh_one n x f (is_position m.token) m.from m.to)

-- Nothing more is found in a text that was read.
pub passed_read : (s : List ℕ) → length s ≤ 65536 → (ls : List Line) (ms : List Mark) → MarkedLines s ls ms → (x r : Reading) → Closed x.misfit
    → Follows x ms r → Passed ms r
passed_read s small ls ms m x r c f = record { stray = rw f.stray (settled_or_silent x.stray ms); misfit = ⊎_elim found fresh c }
  where
    found : x.misfit.found ≡ true → (r.misfit.found ≡ true) ⊎ (fitted r.time no_measure ms ≡ no_measure)
    found h = inl (ap (λ (y : Misfit). y.found) (f.misfit ∙ kept x.time x.misfit ms h) ∙ h)

    fresh : x.misfit ≡ no_measure → (r.misfit.found ≡ true) ⊎ (fitted r.time no_measure ms ≡ no_measure)
    fresh h =
        let o = lines_outcome s small x.time ls ms m in
        let is : r.misfit ≡ fitted x.time no_measure ms = f.misfit ∙ ap (λ (y : Misfit). fitted x.time y ms) h in
        by_cases (fitted x.time no_measure ms).found
        (λ t. inl (ap (λ (y : Misfit). y.found) is ∙ t))
        (λ t. inr (ap (λ (k : ℕ). fitted k no_measure ms) f.time ∙ (o.none t).1))

passed_on : {x r : Reading} {ms ns : List Mark} → Follows x ns r → Passed ms x → Passed ms r
passed_on {x} {r} {ms} {ns} f p =
    record {
      stray = ⊎_elim (λ h. inl (subst Settled (sym (f.stray ∙ settled x.stray ns h)) h)) (λ h. inr h) p.stray;
      misfit =
          ⊎_elim
          (λ h. inl (ap (λ (y : Misfit). y.found) (f.misfit ∙ kept x.time x.misfit ns h) ∙ h))
          (λ h. inr (ap (λ (k : ℕ). fitted k no_measure ms) f.time ∙ h))
          p.misfit;
    }

pub passed_again : {x r : Reading} {ms : List Mark} → (r.stray ≡ x.stray) × (r.time ≡ x.time) × (r.misfit ≡ x.misfit) → Closed x.misfit
    → Passed ms x → Follows x ms r
passed_again {x} {r} {ms} e c p =
    record {
      stray = e.0 ∙ ⊎_elim (λ h. sym (settled x.stray ms h)) (λ h. sym (all_still x.stray ms h)) p.stray;
      within = λ h. rw e.0 h;
      time = e.1;
      misfit = e.2 ∙ ⊎_elim found (λ h. ⊎_elim found (λ k. k ∙ sym (ap (λ (y : Misfit). fitted x.time y ms) k ∙ h)) c) p.misfit;
    }
  where
    found : x.misfit.found ≡ true → x.misfit ≡ fitted x.time x.misfit ms
    found h = sym (kept x.time x.misfit ms h)

-- What is remembered stays so, and more may be.
abbrev Held : List ℕ → Referring → ℕ → Type 0
Held s r n = (ms : List Mark) × PlainText s (definition_lines n (blocks_of s)) ms × Passed ms r.reading

pub known_more : {s : List ℕ} {x r : Referring} {ms : List Mark} → Known s x → Follows x.reading ms r.reading
    → ((n : ℕ) → Remembers r.meant n → Remembers x.meant n ⊎ Held s r n) → Known s r
known_more {s} {x} {r} {ms} k f more =
    record {
      fresh = subst Fresh (sym f.misfit) (fresh_all x.reading.time x.reading.misfit ms k.fresh);
      passed = λ n i.
          ⊎_elim (λ j. let p = k.passed n j in (p.0, p.1, passed_on f p.2)) (λ h. h) (more n i);
    }

pub known_on : {s : List ℕ} {x r : Referring} {ms : List Mark} → Known s x → Follows x.reading ms r.reading → r.meant ≡ x.meant → Known s r
known_on {s} {x} {r} k f e = known_more k f (λ n i. inl (subst (λ (ns : List (Option Meant)). Remembers ns n) e i))

pub known_none : (s : List ℕ) (r : Referring) → r.reading.misfit ≡ no_measure → ((n : ℕ) → Remembers r.meant n → ⊥) → Known s r
known_none s r e none = record { fresh = λ _. e; passed = λ n i. absurd (none n i) }

-- The definitions: none at first, and one more.
all_none : (k i : ℕ) → ◌≡◌ {A = Option Meant} (get_or (replicate k None) i None) None
all_none zero i = refl
all_none (suc k) zero = refl
all_none (suc k) (suc i) = all_none k i

pub none_remembered : (k n : ℕ) → Remembers (replicate k None) n → ⊥
none_remembered k n (i, m, e, f) = none-some m (sym (all_none k i) ∙ e)

past_end : (xs : List (Option Meant)) (i : ℕ) → length xs ≤ i → ◌≡◌ {A = Option Meant} (get_or xs i None) None
past_end [] i h = refl
past_end (x ∷ xs) zero h = let z : ⊥ = omega arith in absurd z
past_end (x ∷ xs) (suc i) h = past_end xs i (omega arith)

abbrev number_in : Option Meant → ℕ → ℕ
number_in None n = n
number_in (Some m) n = m.number

pub one_remembered : (xs : List (Option Meant)) (i : ℕ) (v : Meant) (n : ℕ) → Remembers (set xs i (Some v)) n → (n ≡ v.number → ⊥) → Remembers xs n
one_remembered xs i v n (j, m, e, f) a =
    by_cases (eqb j i)
    (λ h.
    let same = eqb-true j i h in
    by_cases (ltb i (length xs))
    (λ l.
    let is : Some v ≡ Some m =
    sym (get_or-set_same xs i (Some v) None (ltb-true i (length xs) l)) ∙ ap (λ (k : ℕ). get_or (set xs i (Some v)) k None) (sym same) ∙ e in
    absurd (a (sym f ∙ sym (ap (λ (o : Option Meant). number_in o n) is))))
    (λ l. absurd (none-some m (sym (past_end (set xs i (Some v)) j (let g = ltb-false i (length xs) l in simp length-set (omega arith))) ∙ e))))
    (λ h. (j, m, sym (get_or-set_other xs i j (Some v) None (eqb-false j i h)) ∙ e, f))
