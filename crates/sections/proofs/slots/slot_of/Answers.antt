-- An empty line and one of a pattern have 13; of a key or modifier the name behind the first byte is read, and has its number.
use Rattle.std.proofs.Common.{rules}
use Rattle.sections.proofs.SlotLaws.{slot_blank, slot_pattern, slot_key, slot_modifier}
use Rattle.sections.proofs.TestLaws.{key_read, modifier_read, pattern_kind}
use mathlib.Core.Path.{sym}
use native.Mathlib.Omega.{arith}
use Rattle.sections.proofs.slots.slot_of.Goals as goal

pub returns-then-a-e : goal.returns-then-a-e
returns-then-a-e c = let a = c.args in (sym (slot_blank a.n a.s.now a.a a.e c.if-a-e.true), omega arith)

pub returns-in-Key : goal.returns-in-Key
returns-in-Key c = let a = c.args in
    let h = c.if-a-e.false in (
      slot_key a.n a.s.now a.a a.e c.name_end-q.result c.name_end-q.ensures.0
          (key_read _ c.kind_of.ensures c.in-Key.is) c.key_named.ensures (search rules),
      omega arith,
    )

pub returns-in-Modifier : goal.returns-in-Modifier
returns-in-Modifier c = let a = c.args in
    let h = c.if-a-e.false in (
      slot_modifier a.n a.s.now a.a a.e c.name_end-q.result c.name_end-q.ensures.0
          (modifier_read _ c.kind_of.ensures c.in-Modifier.is) c.modifier_named.ensures
          (search rules),
      omega arith,
    )

pub returns-in-Pattern : goal.returns-in-Pattern
returns-in-Pattern c = let a = c.args in
    (sym (slot_pattern a.n a.s.now a.a a.e (pattern_kind _ c.kind_of.ensures c.in-Pattern.is)), omega arith)
