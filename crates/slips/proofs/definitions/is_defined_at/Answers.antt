-- By the kind of the block: only a definition defines, and it does so by the number of its head.
use Rattle.slips.proofs.DefinitionLaws.{of_another, of_definition}
use Rattle.slips.proofs.definitions.is_defined_at.Goals as goal

pub returns-then-eq : goal.returns-then-eq
returns-then-eq c = of_definition _ _ c.kind_at.ensures c.eq.ensures c.if-eq.true c.read_definition.ensures.id

pub returns-else-eq : goal.returns-else-eq
returns-else-eq c = of_another _ _ c.kind_at.ensures c.eq.ensures c.if-eq.false
