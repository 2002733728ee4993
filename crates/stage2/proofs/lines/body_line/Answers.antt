-- What a line of its kind does not say counts for nothing, so the model's four complaints shrink to those of its function.
use Rattle.stage2.proofs.BodyReturns.{body_key, body_modifier, body_pattern}
use Rattle.stage2.proofs.LineReturns.{is_key_lem, is_modifier, is_pattern}
use Rattle.songcode.specs.Answer.Sections.{kind_of_line}
use Rattle.tokens.specs.Kept.{Keeps}
use Rattle.text.specs.Spans.{line_text}
use mathlib.Core.Logic.{inl}
use mathlib.Core.Path.{refl, sym, ◌∙◌}
use Rattle.stage2.proofs.lines.body_line.Goals as goal

pub returns-in-Key : goal.returns-in-Key
unfolding Keeps
returns-in-Key c = let q = c.args in
    let l = line_text q.s.now q.l in record {
      value = body_key q.p q.c l c.key_line.result (is_key_lem (kind_of_line l) (sym c.in-Key.is ∙ c.line_kind-kind.ensures))
          c.key_line.ensures;
      keeps = inl refl;
    }

pub returns-in-Modifier : goal.returns-in-Modifier
unfolding Keeps
returns-in-Modifier c = let q = c.args in
    let l = line_text q.s.now q.l in record {
      value = body_modifier q.p q.c l c.modifier_line.result (is_modifier (kind_of_line l)
          (sym c.in-Modifier.is ∙ c.line_kind-kind.ensures)) c.modifier_line.ensures;
      keeps = inl refl;
    }

pub returns-in-Pattern : goal.returns-in-Pattern
returns-in-Pattern c = let q = c.args in
    let l = line_text q.s.now q.l in
    let kind = is_pattern (kind_of_line l) (sym c.in-Pattern.is ∙ c.line_kind-kind.ensures) in record {
      value = body_pattern q.p q.c l c.pattern_line.result kind c.pattern_line.ensures.value;
      keeps = c.pattern_line.ensures.keeps;
    }
