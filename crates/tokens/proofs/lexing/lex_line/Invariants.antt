-- Token by token: the words laid so far and those of the tokens that are left are the words of the line.
use Rattle.tokens.specs.Lexing.{tokens_from}
use Rattle.tokens.specs.TokenWords.{token_words}
use lib.ListN.{length}
use lib.Seq.{sets}
use mathlib.Core.List.{List, ◌++◌}
use mathlib.Core.Path.{◌≡◌}
use Prim.Native.Nat.{ℕ, ◌≤◌, ◌+◌, ◌-◌}
use Rattle.tokens.proofs.lexing.lex_line.Given as goal

abbrev pub invariant-loop-token : goal.invariant-loop-token
invariant-loop-token l =
    (l.start ≤ l.at)
    × (l.at ≤ l.stop)
    × (l.fill + (l.stop - l.at) ≤ l.n + (l.stop - l.start))
    × (length l.words ≡ length l.initial.words)
    × ((done : List ℕ)
    × (l.words ≡ sets l.initial.words l.n done)
    × (l.fill ≡ l.n + length done)
    × (done ++ token_words (tokens_from l.at l.stop l.s) ≡ token_words (tokens_from l.start l.stop l.s)))

abbrev pub decreases-loop-token : goal.decreases-loop-token
decreases-loop-token l =
    l.stop - l.at
