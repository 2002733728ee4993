-- A text read with references put in: token by token, and what each of them means.
use Rattle.std.specs.Prelude.{Option}
use Prim.Native.Nat.{ℕ, ◌/◌, ◌%◌, ◌≤◌}
use mathlib.Core.Path.{◌≡◌, refl, sym, ap, ◌∙◌, subst}
use mathlib.Core.Logic.{inl, inr}
use mathlib.Core.List.{List, [], ◌∷◌, ◌++◌}
use native.Mathlib.Omega.{arith}
use lib.Dec.{eqb}
use lib.ListN.{length}
use borrow.Author.Tests.{eqb-true, eqb-false}
use Rattle.songcode.specs.Answer.Lines.{Line}
use Rattle.songcode.specs.Answer.Tokens.{reference}
use Rattle.songcode.specs.Answer.Answer.{blocks_of}
use Rattle.songcode.proofs.ListLaws.{by_cases}
use Rattle.text.specs.Spans.{line_text}
use Rattle.tokens.specs.Fitting.{Fit, kind, amount}
use Rattle.tokens.proofs.KindLaws.{word_kind_lem, word_amount}
use Rattle.sections.specs.declared.runs.Run.{Run}
use Rattle.sections.specs.Runs.{text_lines, lines_of}
use Rattle.slips.specs.declared.readings.Reading.{Reading}
use Rattle.slips.specs.declared.referring.Referring.{Referring}
use Rattle.slips.specs.declared.referring.Meant.{Meant}
use Rattle.slips.specs.declared.signs.Token as slips
use Rattle.slips.specs.Taken.{TokenAt}
use Rattle.slips.specs.Marks.{Mark, end_mark, MarkedLines, named_in, PlainText}
use Rattle.slips.specs.PatternText.{definition_lines, Means, written, named}
use Rattle.slips.specs.Readings.{Follows, lines_in, ReadsRun, ReadsPattern}
use Rattle.slips.specs.Referring.{Remembers, Closed, Known, MeansRead, PutRead, TokenRead, RunRead}
use Rattle.slips.proofs.MarkLaws.{follows_none, follows_both, Taken, follows_one, follows_end, mark, follows_token}
use Rattle.slips.proofs.TextLaws.{map_take}
use Rattle.slips.proofs.PutLaws.{put_none, put_one, put_both, means_nothing, means_text}
use Rattle.slips.proofs.ReferLaws.{closed_by, passed_read, passed_again, known_more, known_on}

-- The text of a run.
pub run_text : (s : List ℕ) (run : Run) (ls : List Line) → lines_of s run ≡ ls → (ms : List Mark) → MarkedLines s (lines_in s run) ms → PlainText s ls ms
unfolding lines_of text_lines
run_text s run ls e ms m = record { lines = _; same = map_take (line_text s) run.lines _ ∙ e; marked = m }

-- A definition is read: for the first time, or again.
module _ (s : List ℕ) (n : ℕ) (x r : Referring) (k : Known s x) (c : Closed x.reading.misfit) where
  pub means_new : length s ≤ 65536 → (run : Run) → lines_of s run ≡ definition_lines n (blocks_of s) → (y : Reading) → ReadsRun s run x.reading y
      → (w : Referring) → (w.reading ≡ y) × (w.meant ≡ x.meant)
      → (r.reading ≡ w.reading) × ((j : ℕ) → Remembers r.meant j → (j ≡ n → ⊥) → Remembers w.meant j) → MeansRead s n x r
  means_new small run e y h w f g =
      let text = run_text s run (definition_lines n (blocks_of s)) e h.marks h.marked in
      let follows = subst (Follows x.reading h.marks) (sym (g.0 ∙ f.0)) h.follows in
      let passed = passed_read s small text.lines h.marks text.marked x.reading r.reading c follows in
      record {
        marks = h.marks;
        text = text;
        follows = follows;
        known = known_more k follows (λ j i.
            by_cases (eqb j n)
            (λ t. inr (h.marks, subst (λ (m : ℕ). PlainText s (definition_lines m (blocks_of s)) h.marks) (sym (eqb-true j n t)) text, passed))
            (λ t. inl (subst (λ (ns : List (Option Meant)). Remembers ns j) f.1 (g.1 j i (eqb-false j n t)))));
      }

  pub means_again : Remembers x.meant n → (y : Reading)
      → (y.stray ≡ x.reading.stray) × (y.time ≡ x.reading.time) × (y.misfit ≡ x.reading.misfit)
      → (r.reading ≡ y) × (r.meant ≡ x.meant) → MeansRead s n x r
  means_again i y same f =
      let p = k.passed n i in
      let follows = subst (Follows x.reading p.0) (sym f.0) (passed_again same c p.2) in
      record { marks = p.0; text = p.1; follows = follows; known = known_on k follows f.1 }

-- Tokens one behind the other.
pub read_none : (s : List ℕ) (x : Referring) → Known s x → PutRead s [] x x
read_none s x k = record { all = []; put = put_none s; follows = follows_none x.reading; known = k }

pub read_both : {s : List ℕ} {ms ns : List Mark} {x y z : Referring} → PutRead s ms x y → PutRead s ns y z → PutRead s (ms ++ ns) x z
read_both {s} {ms} {ns} p q =
    record {
      all = p.all ++ q.all;
      put = put_both s ms ns p.all q.all p.put q.put;
      follows = follows_both p.follows q.follows;
      known = q.known;
    }

module _ (s : List ℕ) (x y : Referring) (k : Known s x) (z : Reading) (w : (y.reading ≡ z) × (y.meant ≡ x.meant)) where
  -- A token is read that means nothing beside itself.
  alone : (m : Mark) → Means s m.token [] → Follows x.reading (m ∷ []) z → PutRead s (m ∷ []) x y
  alone m h f =
      let g = subst (Follows x.reading (m ∷ [])) (sym w.0) f in
      record { all = m ∷ []; put = put_one s m [] h; follows = g; known = known_on k g w.1 }

  pub read_end : (to : ℕ) → to ≤ 65536 → Taken x.reading 58 to to z → PutRead s (end_mark to ∷ []) x y
  unfolding Means
  read_end to a t = alone (end_mark to) refl (follows_end to a t)

  module _ (small : length s ≤ 65536) (t : slips.Token) {sign : ℕ} (is : sign ≡ t.word / 67108864)
      (taken : Taken x.reading sign t.from t.next z) where
    kind_is_lem : {at to : ℕ} (h : TokenAt s at to t) → sign ≡ kind h.token
    kind_is_lem h = is ∙ ap (λ (v : ℕ). v / 67108864) h.word ∙ word_kind_lem h.token h.fits

    pub token_alone : (sign ≡ 55 → ⊥) → TokenRead s t x y
    token_alone o =
        record {
          reads = λ at to l h b.
              alone (mark s at to (omega arith) t h b) (means_nothing s h.token (λ e. o (kind_is_lem h ∙ e)))
              (follows_token s at to (omega arith) t h b is taken);
        }

    module _ (refers : sign ≡ 55) where
      -- A reference ends a measure.
      pub before_reference : t.from ≤ 65536 → Known s y × Closed y.reading.misfit
      unfolding kind Fit
      before_reference a =
          let h : Taken x.reading 55 t.from t.next z = subst (λ (n : ℕ). Taken x.reading n t.from t.next z) refers taken in
          let f = subst (Follows x.reading _) (sym w.0) (follows_one (reference 0) t.from t.next a (omega arith) h) in
          let shut : y.reading.misfit ≡ _ = ap (λ (v : Reading). v.misfit) w.0 ∙ h.2 in
          (known_on k f w.1, subst Closed (sym shut) (closed_by x.reading.time x.reading.misfit k.fresh t.from t.next))

      pub token_means : (n : ℕ) → n ≡ t.word % 67108864 → (r : Referring) → MeansRead s n y r → TokenRead s t x r
      token_means n e r m =
          record {
            reads = λ at to l h b.
                let here = mark s at to (omega arith) t h b in
                let f = subst (Follows x.reading (here ∷ [])) (sym w.0) (follows_token s at to (omega arith) t h b is taken) in
                let amounts : n ≡ amount h.token = e ∙ ap (λ (v : ℕ). v % 67108864) h.word ∙ word_amount h.token h.fits in
                let text = subst (λ (j : ℕ). PlainText s (definition_lines j (blocks_of s)) m.marks) amounts m.text in
                record {
                  all = here ∷ m.marks;
                  put = put_one s here m.marks (means_text s h.token m.marks h.fits (sym (kind_is_lem h) ∙ refers) text);
                  follows = follows_both f m.follows;
                  known = m.known;
                };
          }

-- A pattern's own lines, or the definition that it names.
pub reads_written : (s : List ℕ) (run : Run) (x r : Reading) → named_in (lines_of s run) ≡ 0 → ReadsRun s run x r → ReadsPattern s run x r
reads_written s run x r e h =
    record { marks = h.marks; text = written e (run_text s run (lines_of s run) refl h.marks h.marked); follows = h.follows }

pub reads_named : (s : List ℕ) (run : Run) (x : Reading) (n : ℕ) → n ≡ named_in (lines_of s run) → (n ≡ 0 → ⊥) → (own : Run)
    → lines_of s own ≡ definition_lines n (blocks_of s) → (y z : Referring) → y.reading ≡ x → RunRead s own y z → ReadsPattern s run x z.reading
reads_named s run x n e o own l y z f h =
    let lines = l ∙ ap (λ (j : ℕ). definition_lines j (blocks_of s)) e in
    record {
      marks = h.read.all;
      text = named (λ g. o (e ∙ g)) h.marks (run_text s own _ lines h.marks h.marked) h.read.put;
      follows = subst (λ (v : Reading). Follows v h.read.all z.reading) f h.read.follows;
    }
