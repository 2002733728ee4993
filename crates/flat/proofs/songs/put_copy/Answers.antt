-- Key lines, empty definition and sections, put one behind the other, are the copy's blocks; the test tells whether the second is needed.
use Rattle.flat.proofs.SongLaws.{copy_put}
use Rattle.flat.proofs.songs.put_copy.Goals as goal

pub has_empty-empty-requires : goal.has_empty-empty-requires
has_empty-empty-requires c = c.requires.3

pub returns : goal.returns
returns c =
    copy_put c.args.s.now c.has_empty-empty.result _ c.args.copy.now _ _ _ c.has_empty-empty.ensures c.requires.2.all
    c.put_metadata-keyed.ensures c.put_empty-begun.ensures c.put_sections.ensures
