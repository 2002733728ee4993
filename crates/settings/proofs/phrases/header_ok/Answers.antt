-- The bytes before the first `!` are the name, which has from 1 to 50 characters.
use borrow.Author.Tests.{le-leb, lt-leb}
use mathlib.Core.Path.{sym}
use lib.Seq.{length-take-le}
use Rattle.settings.specs.Phrases.{is_header}
use Rattle.settings.proofs.PhraseLaws.{name_characters_lem}
use Rattle.settings.proofs.phrases.header_ok.Goals as goal

pub slice_bounds-characters-end : goal.slice_bounds-characters-end
slice_bounds-characters-end c = sym (length-take-le _ _ c.length_before-q.ensures.1)

pub returns-then-n-ge1 : goal.returns-then-n-ge1
unfolding is_header
returns-then-n-ge1 c =
    let e = name_characters_lem c.args.w.now c.length_before-q.result c.characters-n.result c.length_before-q.ensures.0 c.characters-n.ensures.0 in
    rw (← e, le-leb 1 c.characters-n.result c.if-n-ge1.true)

pub returns-else-n-ge1 : goal.returns-else-n-ge1
unfolding is_header
returns-else-n-ge1 c =
    let e = name_characters_lem c.args.w.now c.length_before-q.result c.characters-n.result c.length_before-q.ensures.0 c.characters-n.ensures.0 in
    rw (← e, lt-leb 1 c.characters-n.result c.if-n-ge1.false)
