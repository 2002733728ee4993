-- Of the three kinds only the last is a pattern's.
use mathlib.Core.Path.{◌≡◌, ◌∙◌}
use borrow.Author.Tests.{tests}
use Rattle.std.proofs.Common.{rules}
use Rattle.songcode.proofs.ListLaws.{by_cases}
use Rattle.settings.specs.declared.kinds.Kind.TheVariants.{Pattern}
use Rattle.sections.specs.Runs.{is_pattern_text}
use Rattle.sections.proofs.TestLaws.{pattern_read, other_read}
use Rattle.sections.proofs.runs.is_pattern.Goals as goal

pub returns : goal.returns
unfolding is_pattern_text
returns c =
    by_cases
    c.eq.result
    (λ t. let e : c.kind_of.result ≡ Pattern = search (rules, tests) in t ∙ pattern_read _ c.kind_of.ensures e)
    (λ t. let n : c.kind_of.result ≡ Pattern → ⊥ = search (rules, tests) in t ∙ other_read _ c.kind_of.ensures n)
