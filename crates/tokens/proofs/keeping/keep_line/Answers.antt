-- The words behind the mark, then the mark in front of them.
use Rattle.songcode.proofs.MemoryLaws.{sets_front}
use Rattle.tokens.specs.TokenWords.{token_words}
use Rattle.tokens.specs.Lexing.{tokens_from}
use Rattle.tokens.specs.Kept.{kept}
use lib.ListN.{length, set}
use lib.Seq.{sets}
use native.Mathlib.Omega.{arith}
use mathlib.Core.Path.{◌≡◌}
use Prim.Native.Nat.{◌+◌, ◌-◌}
use Rattle.tokens.proofs.keeping.keep_line.Goals as goal

pub returns : goal.returns
returns c =
    let i = c.args in
    let new = token_words (tokens_from i.start i.stop i.s.now) in
    let n : c.lex_line-end.result - (i.start + 8 + 1) ≡ length new = omega arith in
    let w : set (sets i.words.now (i.start + 8 + 1) new) (i.start + 8) (3556769792 + length new) ≡ kept i.start new i.words.now =
    sets_front (i.start + 8) (3556769792 + length new) new i.words.now in record {
      held = rw (n, c.lex_line-end.ensures.held) w;
      count = (n, omega arith);
    }
