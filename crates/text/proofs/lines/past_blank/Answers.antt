-- The line is blank where a line end, or the end of the text, stands behind the blanks in front of it.
use mathlib.Core.Path.{◌≡◌, sym, ap, ◌∙◌}
use native.Mathlib.Omega.{arith}
use lib.ListN.{drop}
use Rattle.text.specs.Spans.{end, ends, line_length}
use Rattle.text.proofs.SpanLaws.{line_stop_lem, line_more, line_over}
use Rattle.text.proofs.StartLaws.{past_blank_lem, past_full}
use Rattle.text.proofs.lines.past_blank.Goals as goal
use Rattle.text.proofs.lines.past_blank.Goals.{in_default-via-in-Some+else-not-is_end, in_default-via-in_default}

pub returns-in-Some : goal.returns-in-Some
returns-in-Some c =
    let s = c.args.s.now in
    let a = c.line_start-a.result in
    let h = c.in-Some.ensures.lookup.3 in
    let b = ap (λ b. ends (end b)) (sym (h.1 0)) in
    let more = line_more s a h.0 (b ∙ sym c.is_end.ensures ∙ c.if-not-is_end.true) in
    (past_full s c.args.at a c.line_start-a.ensures.0 (omega arith), omega arith, omega arith)

pub returns-in_default : goal.returns-in_default
returns-in_default c =
    let s = c.args.s.now in
    let a = c.line_start-a.result in
    let ended : line_length (drop a s) ≡ 0 = elim c.in_default.branch [
      | in_default-via-in-Some+else-not-is_end w ↦
          let h = w.in-Some.ensures.lookup.3 in
          let b = ap (λ b. ends (end b)) (sym (h.1 0)) in
          line_stop_lem s a h.0 (b ∙ sym w.is_end.ensures ∙ w.if-not-is_end.false)
      | in_default-via-in_default w ↦ line_over s a w.in_default.ensures.lookup.3
    ] in
    (past_blank_lem s c.args.at a c.line_start-a.ensures.0 ended c.break_len.ensures.0, omega arith, omega arith)
