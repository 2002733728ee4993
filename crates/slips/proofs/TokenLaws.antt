-- A token that was found: where it begins and ends, and that nothing stands before it.
use Prim.Native.Nat.{ℕ, zero, suc, ◌+◌, ◌-◌, ◌<◌, ◌≤◌, ◌^◌}
use Rattle.std.specs.Prelude.{Some, None}
use mathlib.Core.Path.{◌≡◌, refl, sym, ap, ◌∙◌}
use mathlib.Core.List.{List, [], ◌∷◌}
use native.Mathlib.Omega.{arith}
use borrow.Author.Tests.{ltb-true, ltb-false}
use lib.Dec.{ltb}
use lib.ListN.{length, take, drop}
use lib.Seq.{take-take}
use Rattle.songcode.specs.Lists.{provided◌then◌else◌}
use Rattle.songcode.specs.Answer.Tokens as songcode
use Rattle.songcode.proofs.ListLaws.{by_cases}
use Rattle.text.specs.Spans.{part, front_blanks, blank}
use Rattle.tokens.specs.Fitting.{AllFit}
use Rattle.tokens.specs.Lexing.{tokens_from, Reads}
use Rattle.tokens.specs.declared.lexing.Lexed.{Lexed}
use Rattle.tokens.proofs.LexLaws.{blanks_passed, blanks_all}
use Rattle.grammar.proofs.LineLaws.{part_fits}
use Rattle.slips.specs.Taken.{TokenAt}

pub token_ends : (s : List ℕ) (at to : ℕ) (l : Lexed) → Reads s at to (Some l) → (at < l.next) × (l.next ≤ to)
unfolding Reads
token_ends s at to l h = (h.1, h.2)

-- Blanks that end before a part does are all there are in a longer one.
blanks_longer : (m : ℕ) (bs : List ℕ) → front_blanks (take m bs) < m → front_blanks (take m bs) ≡ front_blanks bs
unfolding front_blanks provided◌then◌else◌
blanks_longer zero bs h = absurd (omega arith)
blanks_longer (suc m) [] h = refl
blanks_longer (suc m) (b ∷ bs) h =
    by_cases
    (blank b)
    (λ e. let g : suc (front_blanks (take m bs)) < suc m = rw e at h in rw e (ap suc (blanks_longer m bs (omega arith))))
    (λ e. rw e refl)

some_token : {A : Type 0} {x : A} {xs : List A} {X : Type 0} → x ∷ xs ≡ [] → X
some_token {x = x} {xs = xs} e = let z : suc (length xs) ≡ 0 = ap length e in absurd (omega arith)

-- No token is left.
pub takes_none : (s : List ℕ) (at to : ℕ) → Reads s at to None → tokens_from at to s ≡ []
unfolding Reads
takes_none s at to h = h

module _ (s : List ℕ) (at to : ℕ) (p : at ≤ to) (q : to ≤ length s) (i : to ≤ 2 ^ 16) (l : Lexed) (h : Reads s at to (Some l)) where
  abbrev n : ℕ
  n = l.next

  module _ (f : ℕ) (b : f ≡ front_blanks (part at n s)) where
    tight : (t : songcode.Token) → tokens_from at n s ≡ t ∷ tokens_from n n s → at + f < n
    tight t g =
        by_cases (ltb (at + f) n)
        (λ y. ltb-true (at + f) n y)
        (λ y. some_token (sym g ∙ blanks_all s at n f b (ltb-false (at + f) n y)))

    pub takes_one : TokenAt s at to (record { word = l.word; from = at + f; next = n })
    unfolding Reads AllFit
    takes_one =
        let t = h in
        let a = t.1 in
        let k = t.2 in
        let g = tight t.0 (t.4 n (omega arith) k) in
        let shorter : part at n s ≡ take (n - at) (part at to s) = sym (take-take (n - at) (to - at) (drop at s) (omega arith)) in
        let c : f ≡ front_blanks (take (n - at) (part at to s)) = b ∙ ap front_blanks shorter in
        let d : f ≡ front_blanks (part at to s) = c ∙ blanks_longer (n - at) (part at to s) (omega arith) in
        let fit : AllFit (t.0 ∷ tokens_from n to s) = rw (t.4 to k (omega arith)) at (part_fits s at to p q i) in
        record {
          token = t.0;
          fits = fit.0;
          word = t.3;
          begins = ap (λ (k : ℕ). at + k) d;
          solid = g;
          blanks = λ m u v. blanks_passed s at to f d m u v;
          first = λ m u v. t.4 m u v;
        }
