-- Which text is looked into, by the kind of the block and of the line.
use native.Mathlib.Omega.{arith}
use Rattle.settings.specs.Kinds.{kind_is, block_kind_is}
use Rattle.slips.specs.declared.patterns.Whose.TheVariants.{Definition, Section}
use Rattle.slips.proofs.RuledLaws.{block_clash, line_clash, modifier_long, ruled_lines}
use Rattle.slips.proofs.patterns.pattern_slip.Goals as goal

pub returns-then-s-p : goal.returns-then-s-p
returns-then-s-p c =
    let t = c.if-s-p.true in
    record {
      definition = λ h. let z : ⊥ = omega arith in absurd z;
      pattern = λ h. let z : ⊥ = omega arith in absurd z;
      side = λ h. let z : ⊥ = omega arith in absurd z;
    }

pub returns-in-Metadata : goal.returns-in-Metadata
unfolding block_kind_is
returns-in-Metadata c =
    let e = c.kind_at.ensures in
    let t = c.in-Metadata.is in
    record {
      definition = λ h k. block_clash e t k (λ z. let y : ⊥ = omega arith in y);
      pattern = λ h k. block_clash e t k (λ z. let y : ⊥ = omega arith in y);
      side = λ h k. block_clash e t k (λ z. let y : ⊥ = omega arith in y);
    }

pub returns-in-Definition : goal.returns-in-Definition
unfolding block_kind_is
returns-in-Definition c =
    let s = c.args.s.now in
    let e = c.kind_at.ensures in
    let t = c.in-Definition.is in
    let read = c.read_definition-read in
    record {
      definition = λ h k. ruled_lines s Definition read.result.pattern c.text_slip.result read.ensures.pattern c.text_slip.ensures;
      pattern = λ h k. block_clash e t k (λ z. let y : ⊥ = omega arith in y);
      side = λ h k. block_clash e t k (λ z. let y : ⊥ = omega arith in y);
    }

pub returns-in-Key : goal.returns-in-Key
unfolding block_kind_is kind_is
returns-in-Key c =
    let q = c.args in
    let e = c.kind_at.ensures in
    let t = c.in-Section.is in
    let f = c.kind_of.ensures in
    let u = c.in-Key.is in
    record {
      definition = λ h k. block_clash e t k (λ z. let y : ⊥ = omega arith in y);
      pattern = λ h k j. line_clash q.s.now q.p.line f u j (λ z. let y : ⊥ = omega arith in y);
      side = λ h k j. line_clash q.s.now q.p.line f u j (λ z. let y : ⊥ = omega arith in y);
    }

pub returns-in-Modifier : goal.returns-in-Modifier
unfolding block_kind_is kind_is
returns-in-Modifier c =
    let q = c.args in
    let e = c.kind_at.ensures in
    let t = c.in-Section.is in
    let f = c.kind_of.ensures in
    let u = c.in-Modifier.is in
    record {
      definition = λ h k. block_clash e t k (λ z. let y : ⊥ = omega arith in y);
      pattern = λ h k j. line_clash q.s.now q.p.line f u j (λ z. let y : ⊥ = omega arith in y);
      side = λ h k j. c.side_slip.ensures (modifier_long q.s.now q.p.line j);
    }

pub returns-in-Pattern : goal.returns-in-Pattern
unfolding block_kind_is kind_is
returns-in-Pattern c =
    let q = c.args in
    let e = c.kind_at.ensures in
    let t = c.in-Section.is in
    let f = c.kind_of.ensures in
    let u = c.in-Pattern.is in
    let parts = c.section_parts-parts in
    record {
      definition = λ h k. block_clash e t k (λ z. let y : ⊥ = omega arith in y);
      pattern = λ h k j. ruled_lines q.s.now Section parts.result.pattern c.text_slip-in-Pattern.result parts.ensures.pattern c.text_slip-in-Pattern.ensures;
      side = λ h k j. line_clash q.s.now q.p.line f u j (λ z. let y : ⊥ = omega arith in y);
    }
