-- Where the verdict is 7 the place is the one at which the text of its line stops being right.
use Prim.Native.Nat.{ℕ, ◌≤◌}
use mathlib.Core.Path.{◌≡◌, sym, ap, ◌∙◌, subst}
use mathlib.Core.List.{List}
use native.Mathlib.Omega.{arith}
use lib.ListN.{length, get_or}
use Rattle.songcode.specs.Answer.Answer.{refused, song_answer}
use Rattle.songcode.specs.Answer.Lines as songcode
use Rattle.text.specs.declared.lines.Line.{Line}
use Rattle.reader.specs.declared.answers.Answer.{Answer}
use Rattle.reader.specs.Answers.{answer_of}
use Rattle.slips.specs.declared.places.Place.{Place}
use Rattle.slips.specs.declared.slip.Slip.{Slip}
use Rattle.slips.specs.declared.patterns.Whose.{Whose}
use Rattle.slips.specs.Rules.{Ruled}
use Rattle.slips.specs.Finds.{LineOf, TextOf, of_definition, of_pattern_lem, of_side}
use Rattle.slips.specs.WrongText.{WrongText}
use Rattle.slips.proofs.BlockLaws.{line_in_block}
use Rattle.slips.proofs.WrongTexts.{wrong_text}
use Rattle.explain.specs.declared.Explained.{Explained}
use Rattle.explain.specs.Causes.{clauses, clause_of_cause}
use Rattle.explain.specs.Stopped.{Stopped}
use Rattle.explain.proofs.FirstLaws.{as_refused}
use Rattle.explain.proofs.StageLaws.{short_text}
use Rattle.explain.proofs.PatternStage.{pattern_refused}

pub text_named : (text : List ℕ) (line : ℕ) → song_answer text ≡ refused 7 line → WrongText text line
text_named text line e = wrong_text text line (pattern_refused text line e)

-- The verdict's line is a line of the text.
pub first_line_lem : (text : List ℕ) {line : ℕ} → WrongText text line → (l : Line) × LineOf text line l
first_line_lem text {line} w = go w.named
  where
    go : {whose : Whose} {ls : List songcode.Line} → TextOf text line whose ls → (l : Line) × LineOf text line l
    go (of_definition {b} {m} i k o) = let v = line_in_block text line b m i in (v.0, v.1)
    go (of_pattern_lem {b} {m} i k q o) = let v = line_in_block text line b m i in (v.0, v.1)
    go (of_side {b} {m} i k q) = let v = line_in_block text line b m i in (v.0, v.1)

module _ (text : List ℕ) (a : Answer) (h : a ≡ answer_of (song_answer text)) (x : Slip)
    (finds : length text ≤ 65536 → a.refusal ≡ 7 → (w : Whose) (ls : List songcode.Line) → TextOf text a.line w ls → Ruled text w ls x.clause x.from)
    (p : Place) (begins : x.from ≤ length text → p.offset ≡ x.from) (cause : ℕ)
    (told : a.refusal ≤ 17 → x.clause ≤ 99 → x.clause ≤ get_or clauses a.refusal 0 → clause_of_cause cause ≡ x.clause)
    (r : Explained) (line : r.line ≡ a.line) (caused : r.cause ≡ cause) (placed : r.place ≡ p) where
  pub stopped_first : a.refusal ≡ 7 → Stopped text r
  stopped_first f =
      let n = as_refused text a h 7 f (λ z. let y : ⊥ = omega arith in y) in
      let w = text_named text a.line n in
      let m = finds (short_text text a.line 7 n (omega arith)) f w.whose w.lines w.named w.wrong in
      let most = m.told.named.1 in
      let few : x.clause ≤ get_or clauses a.refusal 0 = rw f most in
      let c : clause_of_cause r.cause ≡ x.clause = rw caused (told (rw f (omega arith)) (omega arith) few) in
      let o : r.place.offset ≡ x.from = ap (λ (q : Place). q.offset) placed ∙ begins m.inside in
      record {
        about =
            record {
              whose = w.whose;
              lines = w.lines;
              named = subst (λ (i : ℕ). TextOf text i w.whose w.lines) (sym line) w.named;
              wrong = w.wrong;
            };
        ruled = rw (c, o) m;
      }
