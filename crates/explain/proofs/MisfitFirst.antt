-- The measure that is found for refusal 12 is the place that is named, and its numbers are told.
use Prim.Native.Nat.{ℕ, ◌+◌, ◌≤◌}
use mathlib.Core.Path.{◌≡◌, refl, sym, ap, ◌∙◌, subst}
use mathlib.Core.List.Memᴰ
use mathlib.Core.List.{List}
use native.Mathlib.Omega.{arith}
use lib.ListN.{length, get_or}
use Rattle.songcode.specs.Answer.Sections.{pattern_run, body}
use Rattle.songcode.specs.Answer.Answer.{refused, song_answer}
use Rattle.text.specs.Spans.{line_text}
use Rattle.reader.specs.declared.answers.Answer.{Answer}
use Rattle.reader.specs.Answers.{answer_of}
use Rattle.slips.specs.declared.places.Place.{Place}
use Rattle.slips.specs.declared.slip.Slip.{Slip}
use Rattle.slips.specs.Places.{Covers}
use Rattle.slips.specs.Marks.{Mark, SideText}
use Rattle.slips.specs.PatternText.{PatternText}
use Rattle.slips.specs.Misfits.{measures_in, FirstMisfit, MisfitTold}
use Rattle.slips.specs.Finds.{LineOf, Finds}
use Rattle.explain.specs.declared.Explained.{Explained}
use Rattle.explain.specs.Causes.{clauses, clause_of_cause}
use Rattle.explain.specs.Times.{TimeAt}
use Rattle.explain.specs.MisfitNamed.{MeasureNamed, MisfitNamed, in_pattern, in_side}
use Rattle.explain.proofs.StageLaws.{short_text}
use Rattle.explain.proofs.FirstLaws.{Said, as_refused}
use Rattle.explain.proofs.MisfitThere.{MisfitAbout, about_pattern, about_side, misfit_about}

module _ (text : List ℕ) (a : Answer) (h : a ≡ answer_of (song_answer text)) (time : ℕ) (timed : a.refusal ≡ 12 → TimeAt text a.line time)
    (x : Slip) (finds : length text ≤ 65536 → Finds text a.refusal a.line time x) (p : Place) (covers : Covers text x.from x.to p)
    (cause : ℕ) (told : a.refusal ≤ 17 → x.clause ≤ 99 → x.clause ≤ get_or clauses a.refusal 0 → clause_of_cause cause ≡ x.clause)
    (r : Explained) (e : Said a x p cause r) where
  carried : a.refusal ≡ 12 → {Text : List Mark → Type 0} {n : ℕ} → time ≡ n → MisfitTold text Text time x.clause x.from x.to x.first
      → x.clause ≡ 1 → x.second ≡ time → MeasureNamed Text n r
  carried f {Text} {n} is t one second =
      let w = t.told one in
      let c = covers w.1.onward w.1.inside w.1.unended in
      let few : x.clause ≤ get_or clauses a.refusal 0 = rw f t.few in
      let from : r.place.offset ≡ x.from = ap (λ (q : Place). q.offset) e.3 ∙ c.0 in
      let to : r.place.offset + r.place.length ≡ x.to = ap (λ (q : Place). q.offset + q.length) e.3 ∙ c.1 in
      let first : FirstMisfit n (measures_in t.marks) x.from x.to x.first =
      subst (λ (k : ℕ). FirstMisfit k (measures_in t.marks) x.from x.to x.first) is w.0 in
      record {
        marks = t.marks;
        text = t.text;
        clause = ap clause_of_cause e.2 ∙ told (rw f (omega arith)) (omega arith) few ∙ one;
        first = rw (to, from, e.4) first;
        meter = e.5 ∙ second ∙ is;
      }

  pub misfit_named : a.refusal ≡ 12 → MisfitNamed text r
  misfit_named f = go (misfit_about text a.line is_refused)
    where
      is_refused : song_answer text ≡ refused 12 a.line
      is_refused = as_refused text a h 12 f (λ z. let y : ⊥ = omega arith in y)

      short : length text ≤ 65536
      short = short_text text a.line 12 is_refused (omega arith)

      go : MisfitAbout text a.line → MisfitNamed text r
      go (about_pattern b i j n l k one) =
          let m = (finds short).misfit f l k in
          let t = m.header_misfit b j n in
          let is = (timed f).is b i (b.first, Memᴰ.head refl, n) in
          let c = one _ _ _ _ (subst (λ (d : ℕ). MisfitTold text (PatternText text (pattern_run (body b))) d x.clause x.from x.to x.first) is t) in
          in_pattern b i (n ∙ sym e.1) (carried f is t c (m.meter c))
      go (about_side l k b i j m one) =
          let found = (finds short).misfit f l k in
          let t = found.side_misfit k.listed k.number b j m in
          let is = (timed f).is b i (line_text text l, Memᴰ.tail m, k.number) in
          let c = one _ _ _ _ (subst (λ (d : ℕ). MisfitTold text (SideText text l) d x.clause x.from x.to x.first) is t) in
          in_side l (subst (λ (d : ℕ). LineOf text d l) (sym e.1) k) b i m (carried f is t c (found.meter c))
