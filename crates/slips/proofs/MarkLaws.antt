-- A text read token by token, and line by line.
use Prim.Native.Nat.{ℕ, zero, suc, ◌+◌, ◌-◌, ◌/◌, ◌<◌, ◌≤◌}
use mathlib.Core.Path.{◌≡◌, refl, sym, ap, ◌∙◌, subst}
use mathlib.Core.List.{List, [], ◌∷◌, ◌++◌, append-nil, append_assoc}
use native.Mathlib.Omega.{arith}
use lib.ListN.{length, take}
use Rattle.songcode.specs.Answer.Tokens.{Token, line_end}
use Rattle.text.specs.declared.lines.Line.{Line}
use Rattle.text.specs.Spans.{Found}
use Rattle.text.proofs.WalkLaws.{spans_found, spans_over}
use Rattle.tokens.specs.Fitting.{Fit, kind}
use Rattle.tokens.specs.Lexing.{tokens_from}
use Rattle.tokens.proofs.KindLaws.{word_kind_lem}
use Rattle.slips.specs.declared.readings.Stray.{Stray}
use Rattle.slips.specs.declared.readings.Misfit.{Misfit}
use Rattle.slips.specs.declared.readings.Reading.{Reading}
use Rattle.slips.specs.declared.signs.Token as slips
use Rattle.slips.specs.Marks.{Mark, MarksFrom, end_mark, MarkedLines}
use Rattle.slips.specs.Taken.{TokenAt}
use Rattle.slips.specs.Places.{Whole}
use Rattle.slips.specs.Strays.{heard, hearing_sign}
use Rattle.slips.specs.Misfits.{fitting_sign, fitted}
use Rattle.slips.specs.Readings.{Follows}
use Rattle.sections.proofs.LineLaws.{From}
use Rattle.slips.proofs.StartLaws.{whole_line}
use Rattle.slips.proofs.StrayLaws.{hearing_sign_lem, sign_within, heard_behind}
use Rattle.slips.proofs.MisfitLaws.{fitting_sign_lem, fitted_behind}

pub follows_none : (x : Reading) → Follows x [] x
unfolding heard fitted
follows_none x = record { stray = refl; within = λ h. h; time = refl; misfit = refl }

pub follows_both : {x y z : Reading} {ms ns : List Mark} → Follows x ms y → Follows y ns z → Follows x (ms ++ ns) z
follows_both {x} {y} {z} {ms} {ns} f g =
    record {
      stray = g.stray ∙ ap (λ (v : Stray). heard v ns) f.stray ∙ sym (heard_behind x.stray ms ns);
      within = λ h. g.within (f.within h);
      time = g.time ∙ f.time;
      misfit =
          g.misfit ∙ ap (λ (n : ℕ). fitted n y.misfit ns) f.time ∙ ap (λ (v : Misfit). fitted x.time v ns) f.misfit
          ∙ sym (fitted_behind x.time x.misfit ms ns);
    }

-- What is promised of one more token, by its sign.
abbrev pub Taken : Reading → ℕ → ℕ → ℕ → Reading → Type 0
Taken x sign from to r =
    (r.stray ≡ hearing_sign x.stray sign from) × (r.time ≡ x.time) × (r.misfit ≡ fitting_sign x.time x.misfit sign from to)

pub follows_one : {x r : Reading} (t : Token) (from to : ℕ) → from ≤ 65536 → Fit t → Taken x (kind t) from to r
    → Follows x (record { token = t; from = from; to = to } ∷ []) r
unfolding heard fitted
follows_one {x} t from to a f h =
    record {
      stray = h.0 ∙ hearing_sign_lem x.stray t from f;
      within = λ b. rw h.0 (sign_within x.stray (kind t) from a b);
      time = h.1;
      misfit = h.2 ∙ fitting_sign_lem x.time x.misfit t from to f;
    }

pub follows_end : {x r : Reading} (to : ℕ) → to ≤ 65536 → Taken x 58 to to r → Follows x (end_mark to ∷ []) r
unfolding kind Fit
follows_end to a h = follows_one line_end to to a tt h

-- The token that was found, and those behind it.
module _ (s : List ℕ) (at to : ℕ) (u : to ≤ 65536) (t : slips.Token) (h : TokenAt s at to t) (b : t.next ≤ to) where
  abbrev pub mark : Mark
  mark = record { token = h.token; from = t.from; to = t.next }

  pub follows_token : {x r : Reading} {sign : ℕ} → sign ≡ t.word / 67108864 → Taken x sign t.from t.next r → Follows x (mark ∷ []) r
  follows_token {x} {r} e k =
      let i : t.word / 67108864 ≡ kind h.token = ap (λ (w : ℕ). w / 67108864) h.word ∙ word_kind_lem h.token h.fits in
      let j = h.solid in
      follows_one h.token t.from t.next (omega arith) h.fits (subst (λ (n : ℕ). Taken x n t.from t.next r) (e ∙ i) k)

  pub marked_more : (ms : List Mark) → MarksFrom s t.next to ms → MarksFrom s at to (mark ∷ ms)
  unfolding MarksFrom
  marked_more ms m = (h.begins, h.solid, b, h.first to b (omega arith), m)

pub marked_none : (s : List ℕ) (at to : ℕ) → tokens_from at to s ≡ [] → MarksFrom s at to []
unfolding MarksFrom
marked_none s at to h = h

-- No line is left.
lines_none : (s : List ℕ) (n at left : ℕ) → left ≡ 0 → MarkedLines s (take left (From s n at)) []
unfolding MarkedLines
lines_none s n at left h = subst (λ (k : ℕ). MarkedLines s (take k (From s n at)) []) (sym h) refl

lines_past_lem : (s : List ℕ) (n at left : ℕ) → length s ≤ at → MarkedLines s (take left (From s n at)) []
unfolding MarkedLines
lines_past_lem s n at left h = subst (λ (ls : List Line). MarkedLines s ls []) (sym (ap (take left) (spans_over s n at h) ∙ take_nothing left)) refl
  where
    take_nothing : (k : ℕ) → ◌≡◌ {A = List Line} (take k []) []
    take_nothing zero = refl
    take_nothing (suc k) = refl

-- One more line.
lines_more : (s : List ℕ) (n at left k : ℕ) {l : Line} → Found s n at l → at < length s → left ≡ suc k → (here rest : List Mark)
    → MarksFrom s l.start l.stop here → MarkedLines s (take k (From s (n + 1) l.next)) rest
    → MarkedLines s (take left (From s n at)) (here ++ (end_mark l.stop ∷ rest))
unfolding MarkedLines
lines_more s n at left k {l} f h e here rest m r =
    let whole = subst (Whole s) (sym f.is) (whole_line s n at h) in
    let all : take left (From s n at) ≡ l ∷ take k (From s (n + 1) l.next) =
    ap (take left) (spans_found f h) ∙ ap (λ (k : ℕ). take k (l ∷ From s (n + 1) l.next)) e in
    subst (λ (ls : List Line). MarkedLines s ls (here ++ (end_mark l.stop ∷ rest))) (sym all) (here, rest, whole, m, r, refl)

-- Some marks, others and one between, behind marks that were read before.
regroup : (done here ms : List Mark) (m : Mark) → (done ++ (here ++ (m ∷ []))) ++ ms ≡ done ++ (here ++ (m ∷ ms))
regroup done here ms m = append_assoc done (here ++ (m ∷ [])) ms ∙ ap (λ (ns : List Mark). done ++ ns) (append_assoc here (m ∷ []) ms)

-- Lines are read one behind the other: of what was read so far a claim holds, and its marks with those of the lines that are left are those of all.
abbrev pub Within : (List Mark → Type 0) → List ℕ → List Line → ℕ → ℕ → ℕ → Type 0
Within F s all n at left = (done : List Mark) × F done × ((ms : List Mark) → MarkedLines s (take left (From s n at)) ms → MarkedLines s all (done ++ ms))

-- Nothing is read yet.
pub within_first : (F : List Mark → Type 0) (s : List ℕ) (n at k : ℕ) → F [] → Within F s (take k (From s n at)) (n + 0) at (k - 0)
within_first F s n at k h =
    let e : n + 0 ≡ n = omega arith in
    let f : k - 0 ≡ k = omega arith in
    rw (e, f) ([], h, λ ms m. m)

module _ (F : List Mark → Type 0) (s : List ℕ) (all : List Line) (n at left : ℕ) (w : Within F s all n at left) where
  ended : MarkedLines s (take left (From s n at)) [] → (marks : List Mark) × MarkedLines s all marks × F marks
  ended m = (w.0, subst (MarkedLines s all) (append-nil w.0) (w.2 [] m), w.1)

  pub within_none : left ≡ 0 → (marks : List Mark) × MarkedLines s all marks × F marks
  within_none h = ended (lines_none s n at left h)

  pub within_past : length s ≤ at → (marks : List Mark) × MarkedLines s all marks × F marks
  within_past h = ended (lines_past_lem s n at left h)

  pub within_next : (G : List Mark → Type 0) {l : Line} → Found s n at l → at < length s → (m k : ℕ) → m ≡ n + 1 → left ≡ suc k → (here : List Mark)
      → MarksFrom s l.start l.stop here → ((done : List Mark) → F done → G (done ++ (here ++ (end_mark l.stop ∷ []))))
      → Within G s all m l.next k
  within_next G {l} f h m k d e here i g = (
    w.0 ++ (here ++ (end_mark l.stop ∷ [])),
    g w.0 w.1,
    λ ms r.
        let r' = subst (λ (j : ℕ). MarkedLines s (take k (From s j l.next)) ms) d r in
        subst (MarkedLines s all) (sym (regroup w.0 here ms (end_mark l.stop)))
        (w.2 (here ++ (end_mark l.stop ∷ ms)) (lines_more s n at left k f h e here ms i r')),
  )
