-- No items is the model's first case; any other number is one more than some number, which is its second.
use Rattle.writing.specs.Prompts.{lyrics_taken}
use Rattle.writing.proofs.PromptLaws.{taken_some}
use Rattle.writing.proofs.items.lyrics_taken.Goals as goal

pub returns-then-items-eq0 : goal.returns-then-items-eq0
unfolding lyrics_taken
returns-then-items-eq0 c = rw c.if-items-eq0.true

pub returns : goal.returns
returns c = taken_some c.args.items c.args.lyrics c.if-items-eq0.false
