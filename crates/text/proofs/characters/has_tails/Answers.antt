-- All of so many bytes in front are tails, if so many are there.
use mathlib.Core.Path.{◌∙◌}
use borrow.Author.Tests.{tests, lt-leb}
use Rattle.std.proofs.Common.{rules}
use Rattle.std.proofs.lemmas.Iterator.{YieldsList-from_slice}
use Rattle.std.proofs.lemmas.Iterator.Search.{all_from_yields_List}
use Rattle.songcode.specs.Answer.Characters.{is_tail}
use Rattle.text.proofs.LeadLaws.{tails_short, tails_all}
use Rattle.text.proofs.characters.has_tails.Goals as goal

pub returns-then-n-bs : goal.returns-then-n-bs
returns-then-n-bs c = all_from_yields_List is_tail _ _ _ c.all.ensures.ran (YieldsList-from_slice _ cc) (λ x b q k. search (rules, tests))
    ∙ tails_all c.args.n c.args.bs.now c.if-n-bs.true

pub returns-else-n-bs : goal.returns-else-n-bs
returns-else-n-bs c = lt-leb _ _ c.if-n-bs.false ∙ tails_short c.args.n c.args.bs.now c.if-n-bs.false
