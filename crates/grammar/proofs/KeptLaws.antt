-- The check of words that stand in a row: word by word, and of the words that are kept of a line.
use Prim.Native.Nat.{ℕ, ◌+◌, ◌-◌, ◌^◌, ◌≤◌, ◌<◌}
use mathlib.Core.Path.{◌≡◌, refl, ap, ◌∙◌}
use mathlib.Core.List.{List, [], ◌∷◌}
use native.Mathlib.Omega.{arith}
use native.Mathlib.Numerals.{add-one}
use lib.ListN.{length, get_or, drop, drop_of_length-le}
use lib.Seq.{drop-cons}
use Rattle.songcode.specs.Bytes.{placed}
use Rattle.songcode.specs.Answer.Tokens.{Token}
use Rattle.songcode.proofs.MemoryLaws.{sets_rest}
use Rattle.text.specs.Spans.{part}
use Rattle.tokens.specs.TokenWords.{token_words}
use Rattle.tokens.specs.Fitting.{AllFit}
use Rattle.tokens.specs.Lexing.{tokens_from}
use Rattle.tokens.specs.Kept.{mark_word, kept}
use Rattle.tokens.proofs.FewLaws.{part_words_few}
use Rattle.grammar.specs.declared.kinds.Kind.{Kind}
use Rattle.grammar.specs.declared.checks.Check.{Check}
use Rattle.grammar.specs.Kinds.{kind_of, kinds_of, word_kind}
use Rattle.grammar.specs.Checks.{check_step, check_run, check_text, check_words}
use Rattle.grammar.proofs.WordLaws.{word_kind_lem}
use Rattle.grammar.proofs.LineLaws.{part_fits}

-- One more word, and none.
module _ (c : Check) (ws : List ℕ) (i : ℕ) where
  pub words_more : i < length ws → check_words c (drop i ws) ≡ check_words (check_step c (word_kind (get_or ws i 0))) (drop (i + 1) ws)
  unfolding check_words
  words_more h = rw (add-one i, drop-cons ws i 0 h) refl

  pub words_over : length ws ≤ i → check_words c (drop i ws) ≡ c
  unfolding check_words
  words_over h = rw (drop_of_length-le ws h) refl

-- The words of tokens are checked as the tokens are.
words_tokens : (c : Check) (ts : List Token) → AllFit ts → check_words c (token_words ts) ≡ check_run c (kinds_of ts)
unfolding check_words check_run kinds_of token_words AllFit
words_tokens c [] f = refl
words_tokens c (t ∷ ts) f =
    ap (λ (k : Kind). check_words (check_step c k) (token_words ts)) (word_kind_lem t f.0) ∙ words_tokens (check_step c (kind_of t)) ts f.1

-- The words that are kept stand behind their mark.
kept_words : (a : ℕ) (new held : List ℕ) → a + 9 + length new ≤ length held → part (a + 9) (a + 9 + length new) (kept a new held) ≡ new
kept_words a new held h =
    let n : a + 9 + length new - (a + 9) ≡ length new = omega arith in
    let m : a + 8 + 1 ≡ a + 9 = omega arith in
    rw n (rw m at (sets_rest (a + 8) (mark_word (length new)) new held (omega arith)))

-- So the check of the words that are kept of a line is the check of its text.
pub kept_text : (c : Check) (s held : List ℕ) (a e : ℕ) → a ≤ e → e ≤ length s → e ≤ 2 ^ 16 → e + 9 ≤ length held
    → check_words c (part (a + 9) (a + 9 + length (token_words (tokens_from a e s))) (kept a (token_words (tokens_from a e s)) held))
    ≡ check_text c (placed a (part a e s))
kept_text c s held a e p q r h =
    let few = part_words_few s a e q in
    ap (check_words c) (kept_words a (token_words (tokens_from a e s)) held (omega arith)) ∙ words_tokens c (tokens_from a e s) (part_fits s a e p q r)
