-- A place that is found stands there: refusals 13, 16 and 17.
use Prim.Native.Nat.{ℕ, ◌+◌, ◌≤◌}
use mathlib.Core.Path.{◌≡◌, refl, sym, ap, ◌∙◌, subst}
use mathlib.Core.List.{List, Memᴰ}
use native.Mathlib.Omega.{arith}
use lib.ListN.{length, get_or}
use Rattle.songcode.specs.Answer.Answer as songcode
use Rattle.songcode.specs.Answer.Answer.{refused, accepted, line_of_place, song_answer}
use Rattle.songcode.specs.Lists.{provided◌then◌else◌}
use Rattle.songcode.specs.Song.{Song}
use Rattle.songcode.proofs.AnswerAgree.{of_chart, song_read}
use Rattle.songcode.specs.Answer.Lines.{inside, ending}
use Rattle.text.specs.declared.lines.Line.{Line}
use Rattle.text.specs.Spans.{end}
use Rattle.reader.specs.declared.answers.Answer.{Answer}
use Rattle.reader.specs.Answers.{answer_of}
use Rattle.slips.specs.declared.places.Place.{Place}
use Rattle.slips.specs.declared.slip.Slip.{Slip}
use Rattle.slips.specs.Places.{OnLine, Covers}
use Rattle.slips.specs.Marks.{Mark}
use Rattle.slips.specs.Strays.{StrayAt, StrayTold}
use Rattle.slips.specs.MeterTold.{MeterTold}
use Rattle.slips.specs.Finds.{LineOf, NameOn, BareOn, Finds}
use Rattle.slips.proofs.StartLaws.{line_whole, line_begins, line_holds}
use Rattle.explain.specs.declared.Explained.{Explained}
use Rattle.explain.specs.Causes.{clauses, clause_of_cause}
use Rattle.explain.specs.Sums.{SumsAt, SumNamed}
use Rattle.explain.specs.Explained.{OnVerdict}
use Rattle.explain.specs.StrayNamed.{AgainNamed, StrayNamed, in_pattern, in_side}
use Rattle.explain.proofs.StageLaws.{short_text, header_refused}
use Rattle.explain.proofs.StrayThere.{StrayAbout, about_pattern, about_side, stray_about}
use Rattle.explain.proofs.VerdictLines.{lyric_listed, header_listed}

-- Lines count from 1.
pub not_line_0 : (text : List ℕ) (l : Line) → LineOf text 0 l → ⊥
unfolding line_of_place
not_line_0 text l k =
    let e = line_begins text l k.listed ∙ k.number in
    let z : ⊥ = omega arith in
    z

-- A `%` ends no line.
plain : (text : List ℕ) (n : ℕ) → get_or text n 0 ≡ 37 → end (get_or text n 0) ≡ inside
unfolding ending provided◌then◌else◌
plain text n e = rw e refl

-- What is told of a verdict and a slip at its place.
abbrev pub Said : Answer → Slip → Place → ℕ → Explained → Type 0
Said a x p cause r =
    (r.refusal ≡ a.refusal) × (r.line ≡ a.line) × (r.cause ≡ cause) × (r.place ≡ p) × (r.first ≡ x.first) × (r.second ≡ x.second)

module _ (text : List ℕ) (a : Answer) (h : a ≡ answer_of (song_answer text)) where
  pub as_refused : (n : ℕ) → a.refusal ≡ n → (n ≡ 0 → ⊥) → song_answer text ≡ refused n a.line
  unfolding answer_of
  as_refused n e nz = go (song_answer text) (sym h)
    where
      go : (q : songcode.Answer) → answer_of q ≡ a → q ≡ refused n a.line
      go (refused k l) f =
          let x : k ≡ n = ap (λ (y : Answer). y.refusal) f ∙ e in
          let y : l ≡ a.line = ap (λ (y : Answer). y.line) f in
          ap (λ (i : ℕ). refused i l) x ∙ ap (λ (i : ℕ). refused n i) y
      go (accepted t) f = let x : 0 ≡ n = ap (λ (y : Answer). y.refusal) f ∙ e in absurd (nz (sym x))

  -- The section whose header the verdict names is one of the song's.
  pub sum_named : (x : Slip) → (a.refusal ≡ 17 → SumsAt text a.line (record { sum = x.first; measures = x.second })) → (r : Explained)
      → r.line ≡ a.line → r.first ≡ x.first → r.second ≡ x.second → a.refusal ≡ 17 → SumNamed text r
  sum_named x summed r line first second f =
      let v = header_refused text a.line (as_refused 17 f (λ z. let y : ⊥ = omega arith in y)) in
      let y = v.2.0 in
      let same = song_read text v.0 (of_chart text v.0 v.1) in
      let there = subst (λ (q : Song). Memᴰ y q.sections) (sym same) v.2.1 in
      let sums = (summed f).is y there v.2.2 in
      record { section = y; listed = there; header = v.2.2 ∙ sym line; sum = first ∙ sums.0; measures = second ∙ sums.1 }

  module _ (time : ℕ) (x : Slip) (finds : length text ≤ 65536 → Finds text a.refusal a.line time x)
      (p : Place) (on : OnLine text p) (covers : Covers text x.from x.to p)
      (cause : ℕ) (told : a.refusal ≤ 17 → x.clause ≤ 99 → x.clause ≤ get_or clauses a.refusal 0 → clause_of_cause cause ≡ x.clause)
      (r : Explained) (e : Said a x p cause r) where
    -- What is found in the text of the verdict's line is the place, and this names the line.
    here : (l : Line) → LineOf text a.line l → l.start ≤ x.from → x.from ≤ x.to → x.to ≤ l.stop
        → (r.place.offset ≡ x.from) × (r.place.offset + r.place.length ≡ x.to) × (r.place.line ≡ r.line)
    here l k i j m =
        let w = line_whole text l k.listed in
        let v = w.0 in
        let c = covers j (omega arith) (λ n s t. w.1 n (omega arith) (omega arith)) in
        let o = c.0 in
        let s = sym on.begins ∙ line_holds text l k.listed p.offset (omega arith) (omega arith) ∙ k.number in
        let d = e.3 in
        (ap (λ (q : Place). q.offset) d ∙ c.0, ap (λ (q : Place). q.offset + q.length) d ∙ c.1, ap (λ (q : Place). q.line) d ∙ s ∙ sym e.1)

    -- A single `%` ends no line, so it is the place.
    carried : {Text : List Mark → Type 0} → a.refusal ≡ 13 → StrayTold text Text x.clause x.from x.to → x.clause ≡ 1 → AgainNamed text Text r
    carried {Text} f t one =
        let b = t.byte one in
        let w = b.0 in
        let u = t.tells.told one in
        let to = u.1 in
        let v = covers (omega arith) (omega arith) (λ n i j. let z : n ≡ x.from = omega arith in plain text n (ap (λ (m : ℕ). get_or text m 0) z ∙ b.1)) in
        let begins = v.0 in
        let ends = v.1 in
        let few : x.clause ≤ get_or clauses a.refusal 0 = rw f t.tells.few in
        let from : r.place.offset ≡ x.from = ap (λ (q : Place). q.offset) e.3 ∙ begins in
        let length : p.length ≡ 1 = omega arith in
        record {
          marks = t.marks;
          said = t.text;
          clause = ap clause_of_cause e.2 ∙ told (rw f (omega arith)) (omega arith) few ∙ one;
          first = subst (StrayAt t.marks) (sym from) u.0;
          single = ap (λ (q : Place). q.length) e.3 ∙ length;
          byte = ap (λ (m : ℕ). get_or text m 0) from ∙ b.1;
        }

    pub stray_named : a.refusal ≡ 13 → StrayNamed text r
    stray_named f = go (stray_about text a.line is_refused)
      where
        is_refused : song_answer text ≡ refused 13 a.line
        is_refused = as_refused 13 f (λ z. let y : ⊥ = omega arith in y)

        found : (l : Line) → LineOf text a.line l → MeterTold text a.line l x.clause x.from x.to
        found l k = (finds (short_text text a.line 13 is_refused (omega arith))).stray f l k

        go : StrayAbout text a.line → StrayNamed text r
        go (about_pattern b i n l k h) =
            let t = (found l k).header_stray b i n in in_pattern b i (n ∙ sym e.1) (carried f t (h _ _ _ t))
        go (about_side l k b i j h) =
            let t = (found l k).side_stray k.number b i j in
            in_side l (subst (λ (n : ℕ). LineOf text n l) (sym e.1) k) b i j (carried f t (h _ _ _ t))

    pub uncounted_first : a.refusal ≡ 16 → OnVerdict text r (λ l clause from to. BareOn text l clause from to)
    uncounted_first f =
        let v = lyric_listed text a.line (as_refused 16 f (λ z. let y : ⊥ = omega arith in y)) in
        let l = v.1.0 in
        let k = v.1.1 in
        let b = (finds v.0).uncounted f l k in
        let q = here l k b.begins b.onward (rw b.ends (omega arith)) in
        let few : x.clause ≤ get_or clauses a.refusal 0 = rw f b.named.1 in
        let c : clause_of_cause r.cause ≡ x.clause = rw e.2 (told (rw f (omega arith)) (omega (arith, b.named.1)) few) in
        record { verdict = l; listed = rw e.1 k; same = q.2; found = rw (q.1, q.0, c) b }

    pub summed_first : a.refusal ≡ 17 → OnVerdict text r (λ l clause from to. (clause ≡ 1) × NameOn text l from to)
    summed_first f =
        let v = header_listed text a.line (as_refused 17 f (λ z. let y : ⊥ = omega arith in y)) in
        let l = v.1.0 in
        let k = v.1.1 in
        let b = (finds v.0).summed f l k in
        let one = b.0 in
        let n = b.1 in
        let q = here l k (rw n.begins (omega arith)) n.onward n.inside in
        let few : x.clause ≤ get_or clauses a.refusal 0 = rw (f, one) (omega arith) in
        let c : clause_of_cause r.cause ≡ x.clause = rw e.2 (told (rw f (omega arith)) (omega arith) few) in
        record { verdict = l; listed = rw e.1 k; same = q.2; found = (c ∙ one, rw (q.1, q.0) n) }
