-- The line end at a place by its two bytes.
use borrow.Author.Tests.{tests}
use Rattle.std.proofs.Common.{rules}
use Rattle.text.proofs.SpanLaws.{break_lf, break_none, break_crlf, break_cr}
use Rattle.text.proofs.lines.break_len.Goals as goal

pub returns-in-10 : goal.returns-in-10
returns-in-10 c = search (rules, break_lf)

pub returns-in-13 : goal.returns-in-13
returns-in-13 c = search (rules, break_crlf)

pub returns-in-13-2 : goal.returns-in-13-2
returns-in-13-2 c = search (rules, tests, break_cr)

pub returns-in_default : goal.returns-in_default
returns-in_default c = search (rules, tests, break_none)
