-- The first byte decides, and behind `_` the second; a byte past the end is a zero, which is neither a sign nor a letter.
use mathlib.Core.Bool.{true, false}
use mathlib.Core.Path.{◌≡◌}
use borrow.Author.Tests.{tests}
use lib.Dec.{eqb}
use lib.ListN.{get_or}
use Rattle.std.proofs.Common.{rules}
use Rattle.songcode.specs.Lists.{provided◌then◌else◌}
use Rattle.settings.specs.Kinds.{letter, kind_is}
use Rattle.settings.proofs.KindLaws.{kind_by, kind_by_lem}
use Rattle.settings.proofs.kinds.kind_of.Goals as goal

pub returns-in-64 : goal.returns-in-64
unfolding kind_by kind_is provided◌then◌else◌
returns-in-64 c = rw (kind_by_lem 0 c.args.w.now, ← c.byte_at.ensures, c.in-64.is)

pub returns-in-95 : goal.returns-in-95
unfolding kind_by kind_is provided◌then◌else◌
returns-in-95 c =
    let name : letter (get_or c.args.w.now 1 0) ≡ true = cc in
    rw (kind_by_lem 0 c.args.w.now, ← c.byte_at.ensures, c.in-95.is, name)

pub returns-in_default : goal.returns-in_default
unfolding kind_by kind_is provided◌then◌else◌
returns-in_default c =
    let no_name : letter (get_or c.args.w.now 1 0) ≡ false = cc in
    rw (kind_by_lem 0 c.args.w.now, ← c.byte_at.ensures, c.in-95.is, no_name)

pub returns-in_default-2 : goal.returns-in_default-2
unfolding kind_by kind_is provided◌then◌else◌
returns-in_default-2 c =
    let key : eqb c.byte_at.result 64 ≡ false = search (rules, tests) in
    let modifier : eqb c.byte_at.result 95 ≡ false = search (rules, tests) in
    rw (kind_by_lem 0 c.args.w.now, ← c.byte_at.ensures, key, modifier)
