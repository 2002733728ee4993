-- A place behind the part has no byte; one in it has the first byte of what is left.
use mathlib.Core.Path.{sym, ap, ◌∙◌}
use borrow.Author.Tests.{le-ltb}
use lib.Dec.{ltb}
use Rattle.tokens.proofs.LexLaws.{plain_over, plain_first}
use Rattle.tokens.proofs.lexing.plain_at.Goals as goal

pub returns-then-i-stop : goal.returns-then-i-stop
returns-then-i-stop c = let q = c.args in c.is_plain.ensures ∙ plain_first q.s.now q.i q.stop c.if-i-stop.true c.requires

pub returns-else-i-stop : goal.returns-else-i-stop
returns-else-i-stop c = let q = c.args in le-ltb q.i q.stop c.if-i-stop.false ∙ sym (ap (ltb 0) (plain_over q.s.now q.i q.stop c.if-i-stop.false))
