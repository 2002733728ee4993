-- From 1 to 100 characters.
use borrow.Author.Tests.{le-leb, lt-leb}
use Rattle.songcode.specs.Answer.Keys.{is_phrase}
use Rattle.settings.proofs.phrases.is_phrase.Goals as goal

pub returns-then-n-ge1 : goal.returns-then-n-ge1
unfolding is_phrase
returns-then-n-ge1 c = rw (← c.characters-n.ensures.0, le-leb 1 c.characters-n.result c.if-n-ge1.true)

pub returns-else-n-ge1 : goal.returns-else-n-ge1
unfolding is_phrase
returns-else-n-ge1 c = rw (← c.characters-n.ensures.0, lt-leb 1 c.characters-n.result c.if-n-ge1.false)
