-- A key line is judged as a key; a line of another kind says no key, so 8 is its only complaint and no mark is put.
use Rattle.stage2.proofs.MetadataReturns.{metadata_key, metadata_modifier, metadata_pattern}
use Rattle.stage2.proofs.LineReturns.{is_key_lem, is_modifier, is_pattern}
use Rattle.text.specs.Spans.{line_text}
use Rattle.songcode.specs.Answer.Sections.{kind_of_line}
use mathlib.Core.Path.{sym, ◌∙◌}
use Rattle.stage2.proofs.lines.metadata_line.Goals as goal

pub returns-in-Key : goal.returns-in-Key
returns-in-Key c = let q = c.args in
    let l = line_text q.s.now q.l in
    metadata_key l q.marks c.metadata_key.result.note c.metadata_key.result.marks
    (is_key_lem (kind_of_line l) (sym c.in-Key.is ∙ c.line_kind-kind.ensures)) c.metadata_key.ensures.0
    c.metadata_key.ensures.1

pub returns-in-Modifier : goal.returns-in-Modifier
returns-in-Modifier c = let q = c.args in
    let l = line_text q.s.now q.l in
    metadata_modifier l q.marks c.complain_if.result (is_modifier (kind_of_line l)
    (sym c.in-Modifier.is ∙ c.line_kind-kind.ensures)) c.complain_if.ensures

pub returns-in-Pattern : goal.returns-in-Pattern
returns-in-Pattern c = let q = c.args in
    let l = line_text q.s.now q.l in
    metadata_pattern l q.marks c.complain_if-in-Pattern.result (is_pattern (kind_of_line l)
    (sym c.in-Pattern.is ∙ c.line_kind-kind.ensures)) c.complain_if-in-Pattern.ensures
