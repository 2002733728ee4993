-- The kind of a block depends on the bytes of its first line alone, and each kind is opened as its function tells.
use Rattle.stage2.proofs.BlockReturns.{by_metadata, by_definition, by_section}
use Rattle.stage2.proofs.blocks.open_block.Goals as goal

pub returns-in-Metadata : goal.returns-in-Metadata
returns-in-Metadata c = let q = c.args in
    by_metadata q.k q.l.number q.s.now q.l.start q.l.stop c.block_kind-kind.result
    c.open_metadata.result c.block_kind-kind.ensures c.in-Metadata.is c.open_metadata.ensures

pub returns-in-Definition : goal.returns-in-Definition
returns-in-Definition c = let q = c.args in
    by_definition q.k q.l.number q.s.now q.l.start q.l.stop c.block_kind-kind.result
    c.open_definition.result c.block_kind-kind.ensures c.in-Definition.is c.open_definition.ensures

pub returns-in-Section : goal.returns-in-Section
returns-in-Section c = let q = c.args in
    by_section q.k q.l.number q.s.now q.l.start q.l.stop c.block_kind-kind.result c.open_section.result
    c.block_kind-kind.ensures c.in-Section.is c.open_section.ensures
