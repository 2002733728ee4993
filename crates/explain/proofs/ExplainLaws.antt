-- What is found keeps the promise: where the verdict names no line, and where it names one.
use Prim.Native.Nat.{ℕ, ◌≤◌}
use mathlib.Core.Path.{◌≡◌, refl, sym, ap, ◌∙◌}
use mathlib.Core.List.{List}
use Rattle.songcode.specs.Answer.Answer as songcode
use Rattle.songcode.specs.Answer.Answer.{refused, accepted, song_answer}
use Rattle.songcode.proofs.RefusalNumbers.{song_numbers}
use Rattle.reader.specs.declared.answers.Answer.{Answer}
use Rattle.reader.specs.Answers.{answer_of}
use Rattle.slips.specs.declared.places.Place.{Place}
use lib.ListN.{length, get_or}
use Rattle.slips.specs.declared.slip.Slip.{Slip}
use Rattle.slips.specs.Places.{OnLine, Covers}
use Rattle.text.specs.declared.lines.Line.{Line}
use Rattle.slips.specs.Finds.{LineOf, Finds}
use Rattle.explain.specs.declared.Explained.{Explained}
use Rattle.explain.specs.Causes.{Belongs, clauses, clause_of_cause}
use Rattle.explain.specs.Times.{TimeAt}
use Rattle.explain.specs.Sums.{SumsAt}
use Rattle.explain.specs.Explained.{Explains}
use Rattle.explain.proofs.FirstLaws.{not_line_0, Said, as_refused, stray_named, uncounted_first, summed_first, sum_named}
use Rattle.explain.proofs.StrayThere.{stray_listed}
use Rattle.explain.proofs.StoppedLaws.{text_named, first_line_lem, stopped_first}
use Rattle.explain.proofs.MisfitThere.{misfit_listed}
use Rattle.explain.proofs.MisfitFirst.{misfit_named}
use Rattle.explain.proofs.VerdictLines.{lyric_listed, header_listed}
use native.Mathlib.Omega.{arith}

-- Where no tables are lent a refusal is 1 to 17.
at_most_17 : (text : List ℕ) → (answer_of (song_answer text)).refusal ≤ 17
unfolding answer_of
at_most_17 text = go (song_answer text) refl
  where
    go : (q : songcode.Answer) → song_answer text ≡ q → (answer_of q).refusal ≤ 17
    go (refused n l) e = (song_numbers text n l e).1
    go (accepted t) e = omega arith

module _ (text : List ℕ) (a : Answer) (h : a ≡ answer_of (song_answer text)) (cause : ℕ) (b : a.refusal ≤ 17 → Belongs a.refusal cause) (r : Explained) where
  same : r.refusal ≡ a.refusal → r.cause ≡ cause → Belongs r.refusal r.cause
  same e f = let l : a.refusal ≤ 17 = rw h (at_most_17 text) in rw (e, f) (b l)

  -- A verdict of lines names one.
  unlined : (n : ℕ) → (song_answer text ≡ refused n 0 → (l : Line) × LineOf text 0 l) → (n ≡ 0 → ⊥) → a.refusal ≡ n → a.line ≡ 0 → ⊥
  unlined n listed nz f z =
      let v = listed (as_refused text a h n f nz ∙ ap (λ (i : ℕ). refused n i) z) in
      not_line_0 text v.0 v.1

  pub found_nowhere : a.line ≡ 0
      → (r.refusal ≡ a.refusal) × (r.line ≡ 0) × (r.cause ≡ cause) × (r.place.line ≡ 0) × (r.place.offset ≡ 0) × (r.place.length ≡ 0)
      → Explains text r
  found_nowhere z e =
      record {
        refusal = e.0 ∙ ap (λ (x : Answer). x.refusal) h;
        line = e.1 ∙ (sym z ∙ ap (λ (x : Answer). x.line) h);
        belongs = same e.0 e.2;
        nowhere = λ _. (e.3, e.4, e.5);
        placed = λ n. absurd (n e.1);
        stopped = λ f. absurd (unlined 7 (λ w. first_line_lem text (text_named text 0 w)) (λ y. let x : ⊥ = omega arith in x) (sym e.0 ∙ f) z);
        misfit = λ f. absurd (unlined 12 (λ w. misfit_listed text w) (λ y. let x : ⊥ = omega arith in x) (sym e.0 ∙ f) z);
        stray = λ f. absurd (unlined 13 (λ w. stray_listed text w) (λ y. let x : ⊥ = omega arith in x) (sym e.0 ∙ f) z);
        uncounted = λ f. absurd (unlined 16 (λ w. (lyric_listed text 0 w).1) (λ y. let x : ⊥ = omega arith in x) (sym e.0 ∙ f) z);
        sums = λ f. absurd (unlined 17 (λ w. (header_listed text 0 w).1) (λ y. let x : ⊥ = omega arith in x) (sym e.0 ∙ f) z);
        summed = λ f. absurd (unlined 17 (λ w. (header_listed text 0 w).1) (λ y. let x : ⊥ = omega arith in x) (sym e.0 ∙ f) z);
      }

  pub found_at : (time : ℕ) → (a.refusal ≡ 12 → TimeAt text a.line time) → (x : Slip)
      → (a.refusal ≡ 17 → SumsAt text a.line (record { sum = x.first; measures = x.second }))
      → (length text ≤ 65536 → Finds text a.refusal a.line time x) → (p : Place) → OnLine text p → Covers text x.from x.to p
      → (x.from ≤ length text → p.offset ≡ x.from)
      → (a.refusal ≤ 17 → x.clause ≤ 99 → x.clause ≤ get_or clauses a.refusal 0 → clause_of_cause cause ≡ x.clause) → (a.line ≡ 0 → ⊥)
      → Said a x p cause r → Explains text r
  found_at time timed x summed finds p o covers begins told n e =
      record {
        refusal = e.0 ∙ ap (λ (x : Answer). x.refusal) h;
        line = e.1 ∙ ap (λ (x : Answer). x.line) h;
        belongs = same e.0 e.2;
        nowhere = λ z. absurd (n (sym e.1 ∙ z));
        placed = λ _. rw e.3 o;
        stopped = λ f. stopped_first text a h x (λ s. (finds s).ruled) p begins cause told r e.1 e.2 e.3 (sym e.0 ∙ f);
        misfit = λ f. misfit_named text a h time timed x finds p covers cause told r e (sym e.0 ∙ f);
        stray = λ f. stray_named text a h time x finds p o covers cause told r e (sym e.0 ∙ f);
        uncounted = λ f. uncounted_first text a h time x finds p o covers cause told r e (sym e.0 ∙ f);
        sums = λ f. sum_named text a h x summed r e.1 e.4 e.5 (sym e.0 ∙ f);
        summed = λ f. summed_first text a h time x finds p o covers cause told r e (sym e.0 ∙ f);
      }
