-- The check of a line taken token by token, by the words of the tokens; and the verdict on a lead-in or tail.
use Prim.Native.Nat.{ℕ, ◌^◌, ◌<◌, ◌≤◌}
use mathlib.Core.Path.{◌≡◌, refl, sym, ap, ◌∙◌}
use mathlib.Core.List.{List, [], ◌∷◌}
use mathlib.Core.Bool.{true, false}
use native.Mathlib.Omega.{arith}
use lib.ListN.{length}
use Rattle.songcode.specs.Lists.{provided◌then◌else◌, is_some, any}
use Rattle.songcode.specs.Bytes.{Byte, placed}
use Rattle.songcode.specs.Answer.Tokens.{tokens}
use Rattle.songcode.specs.Answer.Tokens as songcode
use Rattle.songcode.specs.Answer.PatternText.{barred, side_text}
use Rattle.tokens.specs.TokenWords.{token_word}
use Rattle.tokens.specs.Lexing.{Reads}
use Rattle.tokens.specs.declared.lexing.Lexed.{Lexed}
use Rattle.std.specs.Prelude as std
use Rattle.std.specs.Prelude.{Some, None}
use Rattle.text.specs.Spans.{part}
use Rattle.text.proofs.WalkLaws.{part_length}
use Rattle.grammar.specs.declared.kinds.Kind.{Kind}
use Rattle.grammar.specs.declared.checks.Check.{Check}
use Rattle.grammar.specs.Kinds.{kinds_of, word_kind}
use Rattle.grammar.specs.Checks.{first, check_step, check_run, check_text}
use Rattle.grammar.specs.Verdicts.{unnamed_fine}
use Rattle.tokens.specs.Fitting.{AllFit}
use Rattle.tokens.proofs.TokensFit.{tokens_fit}
use Rattle.grammar.proofs.VerdictLaws.{unnamed_fine_lem}
use Rattle.grammar.proofs.WordLaws.{word_kind_lem}

-- A part of a good text: its tokens fit their words.
pub part_fits : (s : List ℕ) (a e : ℕ) → a ≤ e → e ≤ length s → e ≤ 2 ^ 16 → AllFit (tokens (placed a (part a e s)))
part_fits s a e p q r = let n = part_length s a e q in tokens_fit a (part a e s) (omega arith)

-- The first token of a text, and what follows; a text without tokens.
pub text_next : (c : Check) (bs rest : List Byte) (t : songcode.Token) (w : ℕ) → AllFit (tokens bs) → tokens bs ≡ t ∷ tokens rest → w ≡ token_word t
    → check_text c bs ≡ check_text (check_step c (word_kind w)) rest
unfolding check_run kinds_of AllFit
text_next c bs rest t w f e h =
    let g : AllFit (t ∷ tokens rest) = rw e at f in
    ap (λ (ts : List songcode.Token). check_run c (kinds_of ts)) e
    ∙ ap (λ (k : Kind). check_run (check_step c k) (kinds_of (tokens rest))) (sym (ap word_kind h ∙ word_kind_lem t g.0))

pub text_over : (c : Check) (bs : List Byte) → tokens bs ≡ [] → check_text c bs ≡ c
unfolding check_run kinds_of
text_over c bs e = ap (λ (ts : List songcode.Token). check_run c (kinds_of ts)) e

-- What the code finds at a place of a line: a token, or the end.
module _ (c : Check) (s : List ℕ) (at to : ℕ) (p : at ≤ to) (q : to ≤ length s) (r : to ≤ 2 ^ 16) where
  pub line_token : {o : std.Option Lexed} {l : Lexed} → Reads s at to o → o ≡ Some l
      → (at < l.next) × (l.next ≤ to)
      × (check_text c (placed at (part at to s)) ≡ check_text (check_step c (word_kind l.word)) (placed l.next (part l.next to s)))
  unfolding Reads
  line_token {o} {l} h e =
      let t : Reads s at to (Some l) = rw e at h in
      (t.1, t.2, text_next c (placed at (part at to s)) (placed l.next (part l.next to s)) t.0 l.word (part_fits s at to p q r) (t.4 to t.2 (omega arith)) t.3)

  pub line_over : {o : std.Option Lexed} → Reads s at to o → o ≡ None → check_text c (placed at (part at to s)) ≡ c
  unfolding Reads
  line_over {o} h e = let t : Reads s at to None = rw e at h in text_over c (placed at (part at to s)) t

-- Lead-ins and tails.
pub side_barred : (bs : List Byte) → any barred bs ≡ true → is_some (side_text bs) ≡ false
unfolding side_text is_some provided◌then◌else◌
side_barred bs h = rw h refl

pub side_fine : (bs : List Byte) → any barred bs ≡ false → is_some (side_text bs) ≡ unnamed_fine (check_text first bs)
unfolding side_text provided◌then◌else◌
side_fine bs h = rw h (sym (unnamed_fine_lem (tokens bs)))
