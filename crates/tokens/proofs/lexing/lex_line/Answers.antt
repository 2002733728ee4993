-- Token by token: the words laid so far and those of the tokens that are left are the words of the line.
use Rattle.songcode.proofs.MemoryLaws.{sets_next}
use Rattle.tokens.proofs.ReadLaws.{read_next, read_end}
use Rattle.tokens.specs.Lexing.{tokens_from}
use Rattle.tokens.specs.TokenWords.{token_words}
use lib.ListN.{length, set, length-set}
use mathlib.Core.List.{[], ◌∷◌, ◌++◌, append_assoc, append-nil}
use native.Mathlib.Omega.{arith}
use mathlib.Core.Path.{◌≡◌, refl, sym, ap, ◌∙◌}
use Prim.Native.Nat.{◌<◌, ◌≤◌}
use Rattle.tokens.proofs.lexing.lex_line.Goals as goal
use Rattle.tokens.proofs.lexing.lex_line.Goals.{In-Some}

-- The token found.
found : (c : In-Some)
    → (c.loop-token.at < c.in-Some.token.next)
    × (c.in-Some.token.next ≤ c.args.stop)
    × (token_words (tokens_from c.loop-token.at
    c.args.stop
    c.args.s.now) ≡ c.in-Some.token.word
    ∷ token_words (tokens_from c.in-Some.token.next c.args.stop
    c.args.s.now))
found c =
    read_next c.args.s.now c.loop-token.at
    c.args.stop c.in-Some.is
    c.next_token.ensures

pub loop-token-init : goal.loop-token-init
loop-token-init c =
    (omega arith, omega arith, omega arith, refl, ([], refl, omega arith, refl))

pub returns : goal.returns
returns c =
    let i = c.args in
    let l = c.loop-token in
    let o = l.invariant.4 in
    let e = read_end i.s.now l.at i.stop c.in_default.is c.next_token.ensures in
    let d : o.0 ≡ token_words (tokens_from i.start i.stop i.s.now) = sym (append-nil o.0) ∙ ap (λ ws. o.0 ++ ws) (sym e) ∙ o.3 in
    record {
      held = rw (← d) o.1;
      fill = (rw (← d) o.2, omega arith);
    }

pub offset_bounds-words-fill : goal.offset_bounds-words-fill
offset_bounds-words-fill c =
    let g = found c in omega arith

pub bounds-words-fill : goal.bounds-words-fill
bounds-words-fill c =
    let g = found c in omega arith

pub overflow_add-fill : goal.overflow_add-fill
overflow_add-fill c =
    let g = found c in omega arith

pub loop-token-smaller : goal.loop-token-smaller
loop-token-smaller c =
    let g = found c in omega arith

pub loop-token-preserved : goal.loop-token-preserved
loop-token-preserved c =
    let i = c.args in
    let l = c.loop-token in
    let o = l.invariant.4 in
    let w = c.in-Some.token.word in
    let g = found c in
    let m = sets_next i.n l.fill w l.words i.words.now o.0 o.1 o.2 in
    let k : length (set l.words l.fill w) ≡ length i.words.now = length-set l.words l.fill w ∙ l.invariant.3 in
    (omega arith, omega arith, omega arith, k, (o.0 ++ (w ∷ []), m.0, m.1, append_assoc o.0 (w ∷ []) _ ∙ ap (λ ws. o.0 ++ ws) (sym g.2) ∙ o.3))
