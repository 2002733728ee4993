-- The kind depends on the first byte alone, of which none is as good as a zero: `@`, `$`, or any other.
use mathlib.Core.Bool.{false}
use mathlib.Core.Path.{◌≡◌}
use borrow.Author.Tests.{tests}
use lib.Dec.{eqb}
use Rattle.std.proofs.Common.{rules}
use Rattle.songcode.specs.Lists.{provided◌then◌else◌}
use Rattle.settings.specs.Kinds.{block_kind_is}
use Rattle.settings.proofs.KindLaws.{block_kind_by, block_kind_by_lem}
use Rattle.settings.proofs.kinds.block_kind.Goals as goal

pub returns-in-64 : goal.returns-in-64
unfolding block_kind_by block_kind_is provided◌then◌else◌
returns-in-64 c = rw (block_kind_by_lem 0 c.args.w.now, ← c.byte_at.ensures, c.in-64.is)

pub returns-in-36 : goal.returns-in-36
unfolding block_kind_by block_kind_is provided◌then◌else◌
returns-in-36 c = rw (block_kind_by_lem 0 c.args.w.now, ← c.byte_at.ensures, c.in-36.is)

pub returns-in_default : goal.returns-in_default
unfolding block_kind_by block_kind_is provided◌then◌else◌
returns-in_default c =
    let key : eqb c.byte_at.result 64 ≡ false = search (rules, tests) in
    let head : eqb c.byte_at.result 36 ≡ false = search (rules, tests) in
    rw (block_kind_by_lem 0 c.args.w.now, ← c.byte_at.ensures, key, head)
