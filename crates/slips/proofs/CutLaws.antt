-- A text cut at a place on one of its lines: what stands before the place, and where it stops there.
use Prim.Native.Nat.{ℕ, ◌<◌, ◌≤◌}
use mathlib.Core.Path.{◌≡◌, refl, sym, ap, subst, ◌∙◌}
use mathlib.Core.List.{List, [], ◌∷◌, ◌++◌, append-nil, append_assoc}
use native.Mathlib.Omega.{arith}
use lib.ListN.{length}
use Rattle.songcode.specs.Answer.Lines.{Line}
use Rattle.songcode.specs.Answer.Tokens.{Token, line_end, tokens, tokens_of}
use Rattle.tokens.specs.Lexing.{tokens_from}
use Rattle.tokens.proofs.LexLaws.{tokens_over}
use Rattle.slips.specs.declared.patterns.Whose.{Whose}
use Rattle.slips.specs.declared.patterns.Stop.{Stop}
use Rattle.slips.specs.Clauses.{number_of}
use Rattle.slips.specs.Rules.{Right, text_tokens, piece, CutAt, before, onward, Back, Latest, Stuck, StopsAt, Told, RuledIn}
use Rattle.slips.specs.RulesRead.{up_to, Refuses}
use Rattle.slips.proofs.ReadingLaws.{told_near}

-- The tokens of lines, from one line on.
tokens_more : (l : Line) (ls : List Line) (m : Line) (rest : List Line)
    → tokens_of l (ls ++ (m ∷ rest)) ≡ (tokens_of l ls ++ (line_end ∷ [])) ++ tokens_of m rest
unfolding tokens_of
tokens_more l [] m rest = sym (append_assoc (tokens l.text) (line_end ∷ []) (tokens_of m rest))
tokens_more l (k ∷ ls) m rest =
    ap (λ (ts : List Token). tokens l.text ++ (line_end ∷ ts)) (tokens_more k ls m rest)
    ∙ (sym (append_assoc (tokens l.text) (line_end ∷ (tokens_of k ls ++ (line_end ∷ []))) (tokens_of m rest))
    ∙ ap (λ (ts : List Token). ts ++ tokens_of m rest) (sym (append_assoc (tokens l.text) (line_end ∷ tokens_of k ls) (line_end ∷ []))))

pub text_more : (passed : List Line) (m : Line) (rest : List Line) → text_tokens (passed ++ (m ∷ rest)) ≡ up_to passed ++ tokens_of m rest
unfolding text_tokens up_to
text_more [] m rest = refl
text_more (l ∷ ls) m rest = tokens_more l ls m rest

-- In front of the next line stand the tokens of all lines before it and a line end.
pub up_to_more : (passed : List Line) (m : Line) → up_to (passed ++ (m ∷ [])) ≡ (up_to passed ++ tokens m.text) ++ (line_end ∷ [])
unfolding up_to tokens_of
up_to_more [] m = refl
up_to_more (l ∷ ls) m = ap (λ (ts : List Token). ts ++ (line_end ∷ [])) (tokens_more l ls m [])

module _ (s : List ℕ) (n from to : ℕ) where
  -- A line cut where no word is cut.
  piece_cut : (at : ℕ) (rest : List Line) → tokens_from from to s ≡ tokens_from from at s ++ tokens_from at to s
      → tokens_of (piece s n from to) rest ≡ tokens_from from at s ++ tokens_of (piece s n at to) rest
  unfolding tokens_of
  piece_cut at [] h = h
  piece_cut at (m ∷ ms) h =
      ap (λ (ts : List Token). ts ++ (line_end ∷ tokens_of m ms)) h ∙ append_assoc (tokens_from from at s) (tokens_from at to s) (line_end ∷ tokens_of m ms)

  first_of : (rest : List Line) (t : Token) (us : List Token) → tokens_from from to s ≡ t ∷ us → (vs : List Token)
      × (tokens_of (piece s n from to) rest ≡ t ∷ vs)
  unfolding tokens_of
  first_of [] t us h = (us, h)
  first_of (m ∷ ms) t us h = (us ++ (line_end ∷ tokens_of m ms), ap (λ (ts : List Token). ts ++ (line_end ∷ tokens_of m ms)) h)

module _ (s : List ℕ) (w : Whose) (passed rest : List Line) (n from to : ℕ) where
  abbrev pub lines : List Line
  lines = passed ++ (piece s n from to ∷ rest)

  module _ (at : ℕ) (a : from ≤ at) (b : at ≤ to) (split : tokens_from from to s ≡ tokens_from from at s ++ tokens_from at to s) where
    abbrev pub cut : CutAt s lines at
    cut = record { passed = passed; rest = rest; number = n; start = from; stop = to; written = refl; begins = a; ends = b }

    pub front : before cut ≡ up_to passed ++ tokens_from from at s
    unfolding text_tokens tokens_of
    front = text_more passed (piece s n from at) []

    apart : text_tokens lines ≡ before cut ++ onward cut
    unfolding text_tokens
    apart =
        text_more passed (piece s n from to) rest
        ∙ (ap (λ (ts : List Token). up_to passed ++ ts) (piece_cut s n from to at rest split)
        ∙ (sym (append_assoc (up_to passed) (tokens_from from at s) (tokens_of (piece s n at to) rest))
        ∙ ap (λ (ts : List Token). ts ++ tokens_of (piece s n at to) rest) (sym front)))

    -- It stops in front of a token.
    stops_token : (ts : List Token) → ts ≡ up_to passed ++ tokens_from from at s → (t : Token) (vs : List Token) → onward cut ≡ t ∷ vs
        → ((more : List Token) × Right w (ts ++ more)) → ((more : List Token) → Right w (ts ++ (t ∷ more)) → ⊥)
        → {b : Back} → Latest s lines ts b → StopsAt s w lines at b
    unfolding Stuck
    stops_token ts e t vs o y z {b} l =
        let same : ts ≡ before cut = e ∙ sym front in
        record {
          cut = cut;
          apart = apart;
          begun = (y.0, subst (λ (us : List Token). Right w (us ++ y.0)) same y.1);
          stuck =
              subst (λ (os : List Token). Stuck w (before cut) os) (sym o)
              (subst (λ (us : List Token). (more : List Token) → Right w (us ++ (t ∷ more)) → ⊥) same z);
          latest = subst (λ (us : List Token). Latest s lines us b) same l;
        }

    pub refuses_token : (ts : List Token) → ts ≡ up_to passed ++ tokens_from from at s → (t : Token) (us : List Token) → tokens_from at to s ≡ t ∷ us
        → at < length s → (x : Stop) (back : Back) → Latest s lines ts back → Refuses w ts t at back x → RuledIn s w lines (number_of x.clause) x.from
    unfolding text_tokens
    refuses_token ts e t us h i x back l r =
        let f = first_of s n at to rest t us h in
        let k = told_near r.told in
        record { at = at; back = back; stops = stops_token ts e t f.0 f.1 r.begun r.never l; told = r.told; inside = omega arith }

  -- At the end of the line.
  at_end : from ≤ to → tokens_from from to s ≡ tokens_from from to s ++ tokens_from to to s
  at_end a = sym (append-nil (tokens_from from to s)) ∙ ap (λ (ts : List Token). tokens_from from to s ++ ts) (sym (tokens_over s to to (omega arith)))

module _ (s : List ℕ) (w : Whose) (passed : List Line) (n from to : ℕ) (a : from ≤ to) (ts : List Token) (e : ts ≡ up_to passed ++ tokens_from from to s) where
  -- Another line follows, and may not.
  pub refuses_line_end : (m : Line) (ms : List Line) → to < length s → (x : Stop) (back : Back)
      → Latest s (passed ++ (piece s n from to ∷ (m ∷ ms))) ts back → Refuses w ts line_end to back x
      → RuledIn s w (passed ++ (piece s n from to ∷ (m ∷ ms))) (number_of x.clause) x.from
  unfolding text_tokens tokens_of
  refuses_line_end m ms i x back l r =
      let o : tokens_from to to s ++ (line_end ∷ tokens_of m ms) ≡ line_end ∷ tokens_of m ms =
      ap (λ (us : List Token). us ++ (line_end ∷ tokens_of m ms)) (tokens_over s to to (omega arith)) in
      let k = told_near r.told in
      record {
        at = to;
        back = back;
        stops = stops_token s w passed (m ∷ ms) n from to to a (omega arith) (at_end s w passed (m ∷ ms) n from to a) ts e line_end (tokens_of m ms) o
            r.begun r.never l;
        told = r.told;
        inside = omega arith;
      }

  -- The text ends, and is not right.
  pub refuses_end : (x : Stop) → ((more : List Token) × Right w (ts ++ more)) → (Right w (text_tokens (passed ++ (piece s n from to ∷ []))) → ⊥)
      → (back : Back) → Latest s (passed ++ (piece s n from to ∷ [])) ts back → Told to back (number_of x.clause) x.from → x.from ≤ length s
      → RuledIn s w (passed ++ (piece s n from to ∷ [])) (number_of x.clause) x.from
  unfolding text_tokens tokens_of Stuck
  refuses_end x y z back l k i =
      let split = at_end s w passed [] n from to a in
      let c = cut s w passed [] n from to to a (omega arith) split in
      let same : ts ≡ before c = e ∙ sym (front s w passed [] n from to to a (omega arith) split) in
      record {
        at = to;
        back = back;
        stops =
            record {
              cut = c;
              apart = apart s w passed [] n from to to a (omega arith) split;
              begun = (y.0, subst (λ (us : List Token). Right w (us ++ y.0)) same y.1);
              stuck = subst (λ (os : List Token). Stuck w (before c) os) (sym (tokens_over s to to (omega arith))) z;
              latest = subst (λ (us : List Token). Latest s (passed ++ (piece s n from to ∷ [])) us back) same l;
            };
        told = k;
        inside = i;
      }
