-- The first byte tells the token: a letter a chord, and a case for each sign and for any other word.
use Rattle.tokens.proofs.LexLaws.{at_semicolon, at_colon, at_bracket, at_closing, at_word, plain_byte, plain_sooner}
use Rattle.tokens.specs.Lexing.{plain_length, Reads}
use Rattle.tokens.specs.TokenWords.{token_word}
use Rattle.songcode.specs.Bytes.{placed}
use Rattle.songcode.specs.Answer.Numbers.{repeat_in}
use Rattle.songcode.specs.Answer.Tokens.{semicolon, colon, opens, closing_token, word_token}
use Rattle.text.specs.Spans.{part}
use lib.ListN.{get_or}
use native.Mathlib.Omega.{arith}
use mathlib.Core.Path.{refl, sym, ◌∙◌}
use Prim.Native.Nat.{◌+◌}
use borrow.Author.Rules.{rules}
use Rattle.tokens.proofs.lexing.token_at.Goals as goal

pub chord_at-requires : goal.chord_at-requires
chord_at-requires c = (search rules, search rules, search rules, sym c.is_letter.ensures ∙ c.if-is_letter.true)

pub returns-then-b-eq59 : goal.returns-then-b-eq59
unfolding Reads token_word
returns-then-b-eq59 c =
    let i = c.args in
    let s = i.s.now in
    (semicolon, omega arith, omega arith, refl, λ to g h. at_semicolon s i.a to (omega arith) (omega arith) c.if-b-eq59.true)

pub returns-then-b-eq58 : goal.returns-then-b-eq58
unfolding Reads token_word
returns-then-b-eq58 c =
    let i = c.args in
    let s = i.s.now in
    (colon, omega arith, omega arith, refl, λ to g h. at_colon s i.a to (omega arith) (omega arith) c.if-b-eq58.true)

pub returns-then-b-eq91 : goal.returns-then-b-eq91
unfolding Reads token_word
returns-then-b-eq91 c =
    let i = c.args in
    let s = i.s.now in
    (opens, omega arith, omega arith, refl, λ to g h. at_bracket s i.a to (omega arith) (omega arith) c.if-b-eq91.true)

pub returns-then-b-eq93 : goal.returns-then-b-eq93
unfolding Reads
returns-then-b-eq93 c =
    let i = c.args in
    let s = i.s.now in
    let a = i.a in
    let k = plain_length (part (a + 1) i.stop s) in
    let e = c.plain_end-e.ensures in
    rw e.0 (
      closing_token (repeat_in (placed 0 (part (a + 1) (a + 1 + k) s))),
      omega arith,
      omega arith,
      rw (← e.0) c.closing_token.ensures,
      λ to g h. at_closing s a to (omega arith) (omega arith) k (plain_sooner s (a + 1) i.stop to h k g refl) c.if-b-eq93.true,
    )

pub word_token-requires : goal.word_token-requires
word_token-requires c = (
  search rules,
  search rules,
  sym c.is_letter.ensures ∙ c.if-is_letter.false,
)

pub returns : goal.returns
unfolding Reads
returns c =
    let i = c.args in
    let s = i.s.now in
    let a = i.a in
    let k = plain_length (part (a + 1) i.stop s) in
    let e = c.plain_end-e.ensures in
    let b = plain_byte (get_or s a 0) c.requires.3 c.if-b-eq59.false
    c.if-b-eq58.false c.if-b-eq91.false c.if-b-eq93.false in
    rw e.0 (
      word_token (placed a (part a (a + 1 + k) s)),
      omega arith,
      omega arith,
      rw (← e.0) c.word_token.ensures,
      λ to g h. at_word s a to (omega arith) (omega arith) k (plain_sooner s (a + 1) i.stop to h k g refl) b,
    )
