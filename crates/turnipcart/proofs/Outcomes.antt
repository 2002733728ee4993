-- The outcomes of the exported calls: the text and the lent memory fix the refusal that is returned, the six numbers and every lent word.
use Prim.Native.Nat.{ℕ}
use mathlib.Core.Path.{◌≡◌, refl, sym, ap, ◌∙◌}
use mathlib.Core.List.{List, [], ◌∷◌}
use lib.IntN.{ℤ}
use Rattle.reader.specs.declared.answers.Answer.{Answer}
use Rattle.reader.specs.Answers.{Lent, Promised, Counted}
use Rattle.reader.proofs.AnswerLaws.{one_outcome, one_count}
use Rattle.turnipcart.specs.Answers.{
  answer_in,
  FoundNumbers,
  found_in,
  explained_in,
  ReadsChart,
  CountsChart,
  FindsBeat,
  LightsCues,
  Moves,
  ExplainsChart,
}
use Rattle.turnipcart.specs.OneOutcome.{OneOutcome}
use Rattle.turnipcart.proofs.PaperLaws.{one_copy}

-- What the code lays down is promised.
abbrev pub laid : Answer → List ℕ
laid a = a.refusal ∷ a.line ∷ a.sections ∷ a.measures ∷ a.beats ∷ a.items ∷ []

pub read_laid : (text : List ℕ) (before : Lent) (a : Answer) (after : Lent) → Promised text before a after → ReadsChart text before a.refusal (laid a) after
unfolding answer_in
read_laid text before a after p = record { returned = refl; promised = p }

pub count_laid : (text : List ℕ) (a : Answer) → Counted text a → CountsChart text a.refusal (laid a)
unfolding answer_in
count_laid text a c = record { given = refl; counted = c }

-- And nothing else is.
pub one_read : (text : List ℕ) (before : Lent) (r q : ℕ) (x y : List ℕ) (a b : Lent) → ReadsChart text before r x a → ReadsChart text before q y b
    → (r ≡ q) × (answer_in x ≡ answer_in y) × (a ≡ b)
one_read text before r q x y a b f g =
    let same = one_outcome text before (answer_in x) (answer_in y) a b f.promised g.promised in
    (f.returned ∙ ap (λ (z : Answer). z.refusal) same.0 ∙ sym g.returned, same.0, same.1)

pub one_counted : (text : List ℕ) (r q : ℕ) (x y : List ℕ) → CountsChart text r x → CountsChart text q y → (r ≡ q) × (answer_in x ≡ answer_in y)
one_counted text r q x y f g =
    let same = one_count text (answer_in x) (answer_in y) f.counted g.counted in
    (f.given ∙ ap (λ (z : Answer). z.refusal) same ∙ sym g.given, same)

one_found : (measures : List ℕ) (beat r q : ℕ) (x y : List ℕ) → FindsBeat measures beat r x → FindsBeat measures beat q y
    → (r ≡ q) × (found_in x ≡ found_in y)
one_found measures beat r q x y f g =
    let same = f.halved ∙ sym g.halved in (f.refused ∙ ap (λ (z : FoundNumbers). z.refusal) same ∙ sym g.refused, same)

one_lit : (sections measures before : List ℕ) (r q d e : ℕ) (x y : List ℕ) → LightsCues sections measures before r d x
    → LightsCues sections measures before q e y → (r ≡ q) × (d ≡ e) × (x ≡ y)
one_lit sections measures before r q d e x y f g = (f.refused ∙ sym g.refused, f.lit ∙ sym g.lit, f.cues ∙ sym g.cues)

one_moved : (z : ℤ) (beats before : List ℕ) (r q : ℕ) (x y : List ℕ) → Moves z beats before r x → Moves z beats before q y → (r ≡ q) × (x ≡ y)
one_moved z beats before r q x y m n = (m.refused ∙ sym n.refused, m.second ∙ sym n.second)

one_explained : (text : List ℕ) (r q : ℕ) (x y : List ℕ) → ExplainsChart text r x → ExplainsChart text q y
    → (r ≡ q) × ((explained_in x).refusal ≡ (explained_in y).refusal) × ((explained_in x).line ≡ (explained_in y).line)
one_explained text r q x y f g =
    let same = f.explained.refusal ∙ sym g.explained.refusal in
    (f.told ∙ same ∙ sym g.told, same, f.explained.line ∙ sym g.explained.line)

pub outcomes : OneOutcome
outcomes =
    record {
      read = one_read;
      counted = one_counted;
      found = one_found;
      lit = one_lit;
      moved = one_moved;
      copied = one_copy;
      explained = one_explained;
    }
