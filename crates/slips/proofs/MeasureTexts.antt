-- From what was read of measures to what is told: the texts of a section.
use Prim.Native.Nat.{ℕ, ◌≤◌}
use mathlib.Core.Path.{◌≡◌, refl, sym, ap, ◌∙◌, subst}
use mathlib.Core.List.Memᴰ
use mathlib.Core.List.{List, [], append-nil, Memᴰ}
use mathlib.Core.Bool.{Bool, true, false}
use native.Mathlib.Omega.{arith}
use lib.ListN.{length}
use Rattle.songcode.specs.Answer.Lines as songcode
use Rattle.songcode.specs.Answer.Lines.{Block}
use Rattle.songcode.specs.Answer.Sections.{pattern_run, body}
use Rattle.songcode.proofs.ListLaws.{Each, each_at}
use Rattle.text.specs.declared.lines.Line.{Line}
use Rattle.text.specs.Spans.{line_of, line_text, spans}
use Rattle.sections.specs.declared.runs.Run.{Run}
use Rattle.sections.specs.declared.blocks.Place.{Place}
use Rattle.sections.specs.Runs.{lines_of}
use Rattle.sections.specs.BlockParts.{block_at}
use Rattle.slips.specs.declared.readings.Misfit.{Misfit}
use Rattle.slips.specs.declared.readings.Reading.{Reading}
use Rattle.slips.specs.declared.slip.Slip.{Slip}
use Rattle.slips.specs.Places.{OneLine}
use Rattle.slips.specs.Marks.{Mark, SideText}
use Rattle.slips.specs.Misfits.{over, measures_from, measures_in, last_to, FirstMisfit, MisfitTold, no_measure}
use Rattle.slips.specs.Misfits.{fitted}
use Rattle.slips.specs.Readings.{Follows, ReadsPattern, ReadsSide, ToldMisfit}
use Rattle.slips.specs.BlocksMet.{BlockOf}
use Rattle.slips.specs.MeterTold.{MisfitsTold}
use Rattle.slips.proofs.BlockLaws.{others_later}
use Rattle.slips.proofs.StartLaws.{line_whole}
use Rattle.slips.proofs.MisfitLaws.{Outcome, nothing}
use Rattle.slips.proofs.TextLaws.{block_first, block_other}
use Rattle.slips.specs.PatternText.{PatternText}
use Rattle.slips.proofs.MeasureLaws.{OnOneLine, end_parts, line_rows, line_and}
use Rattle.slips.proofs.PutMeasures.{pattern_outcome, pattern_rows}

-- The one that is found is among them.
first_line_lem : (s : List ℕ) {n from to positions : ℕ} {rows : List (List Mark)} → Each (OnOneLine s) rows → FirstMisfit n rows from to positions
    → OneLine s from to
first_line_lem s {n} {from} {to} e f =
    let o = each_at (OnOneLine s) (subst (Each (OnOneLine s)) f.measures e) (Memᴰ.append_right f.front (Memᴰ.head refl)) in
    subst (λ (k : ℕ). OneLine s from k) f.ends (subst (λ (k : ℕ). OneLine s k (last_to f.here)) f.begins o)

module _ (s : List ℕ) (small : length s ≤ 65536) (x r : Reading) (e : x.misfit ≡ no_measure) (time : ℕ) (et : x.time ≡ time) (y : Slip)
    (t : ToldMisfit r time y) where
  tells : {Text : List Mark → Type 0} (ms : List Mark) → Text ms → Follows x ms r → Outcome time (measures_in ms) (fitted time no_measure ms)
      → Each (OnOneLine s) (measures_in ms) → MisfitTold s Text time y.clause y.from y.to y.first
  tells {Text} ms text f o lines = go r.misfit.found refl
    where
      is : r.misfit ≡ fitted time no_measure ms
      is = f.misfit ∙ ap (λ (k : ℕ). fitted k x.misfit ms) et ∙ ap (λ (v : Misfit). fitted time v ms) e

      out : Outcome time (measures_in ms) r.misfit
      out = subst (Outcome time (measures_in ms)) (sym is) o

      go : (b : Bool) → r.misfit.found ≡ b → MisfitTold s Text time y.clause y.from y.to y.first
      go true h =
          let k = t.told h in
          let first : FirstMisfit time (measures_in ms) y.from y.to y.first = rw (t.from, t.to, t.positions) (out.told h) in
          record { marks = ms; text = text; few = omega arith; told = λ _. (first, first_line_lem s lines first); none = λ n. absurd (n k) }
      go false h =
          let k = t.none h in
          record { marks = ms; text = text; few = omega arith; told = λ c. let z : ⊥ = omega arith in absurd z; none = λ _. (out.none h).0 }

  pattern_misfit : (ls : List songcode.Line) (ms : List Mark) → PatternText s ls ms → Follows x ms r
      → MisfitTold s (PatternText s ls) time y.clause y.from y.to y.first
  pattern_misfit ls ms text f = tells ms text f (pattern_outcome s small time ls ms text) (pattern_rows s small time ls ms text)

  side_misfit : (l : Line) → Memᴰ l (spans s) → ReadsSide s l x r → MisfitTold s (SideText s l) time y.clause y.from y.to y.first
  unfolding measures_from over fitted
  side_misfit l m h =
      let w = line_whole s l m in
      let ms = h.reads.marks in
      tells _ (record { from = h.from; setting = h.setting; marks = ms; marked = h.reads.marked; all = refl }) h.reads.follows
      (line_and s small time h.from l.stop h.inside ms [] h.reads.marked (nothing time))
      (rw (end_parts ms [] l.stop, append-nil (measures_in ms)) (line_rows s l h.from ms h.begins w h.reads.marked))

-- What is told of a text is told of the block that holds the verdict's line.
module _ (s : List ℕ) (small : length s ≤ 65536) (line : ℕ) (l : Line) (time : ℕ) {p : Place} (o : BlockOf s line p) where
  pub misfits_past : length s ≤ p.at → (y : Slip) → y.clause ≡ 0 → MisfitsTold s line l time y
  misfits_past h y c =
      record {
        header_misfit = λ b i e. let k = (block_first s line l o b i e).0 in
            let z : ⊥ = omega arith in absurd z;
        side_misfit = λ w e b i m. let k = (block_other s line l o e b i m).0 in
            let z : ⊥ = omega arith in absurd z;
        meter = λ e. let z : ⊥ = omega arith in absurd z;
      }

  module _ (x r : Reading) (e : x.misfit ≡ no_measure) (et : x.time ≡ time) (y : Slip) (t : ToldMisfit r time y) where
    pub misfits_header : p.number ≡ line → (run : Run) → lines_of s run ≡ pattern_run (body (block_at s p.number p.at))
        → ReadsPattern s run x r → MisfitsTold s line l time y
    misfits_header n run q h =
        record {
          header_misfit = λ b i k.
              let same = q ∙ ap (λ (c : Block). pattern_run (body c)) (sym (block_first s line l o b i k).1) in
              pattern_misfit s small x r e time et y t (pattern_run (body b)) h.marks
              (subst (λ (ls : List songcode.Line). PatternText s ls h.marks) same h.text) h.follows;
          side_misfit = λ v k b i m.
              let w = others_later s p.number p.at (line_text s l)
              (subst (λ (c : Block). Memᴰ (line_text s l) c.others) (block_other s line l o k b i m).1 m) in
              let z : ⊥ = omega arith in
              absurd z;
          meter = λ _. t.meter;
        }

    pub misfits_side : (p.number ≡ line → ⊥) → ReadsSide s l x r → MisfitsTold s line l time y
    unfolding block_at line_of
    misfits_side n h =
        record {
          header_misfit = λ b i k. absurd (n (sym (ap (λ (c : Block). c.first.number) (block_first s line l o b i k).1) ∙ k));
          side_misfit = λ v k b i m. side_misfit s small x r e time et y t l v h;
          meter = λ _. t.meter;
        }
