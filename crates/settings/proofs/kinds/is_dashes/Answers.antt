-- To be that word is to have its bytes, wherever the text stands.
use mathlib.Core.Path.{refl, sym}
use Rattle.songcode.specs.Bytes.{ascii}
use Rattle.settings.proofs.NameLaws.{is_by}
use Rattle.settings.proofs.kinds.is_dashes.Goals as goal

pub returns : goal.returns
unfolding ascii
returns c = sym (is_by "--" 0 c.args.w.now c.same_text.ensures refl)
