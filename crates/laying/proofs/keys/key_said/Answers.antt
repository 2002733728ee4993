-- The word of a setting that is there.
use mathlib.Core.Path.{◌∙◌}
use Rattle.sections.specs.Slots.{setting_at}
use Rattle.laying.specs.Keys.{word_of_setting}
use Rattle.laying.proofs.LayingLaws.{said_inside}
use Rattle.laying.proofs.KeyLaws.{key_fits, key_word_is}
use Rattle.laying.proofs.keys.key_said.Goals as goal

pub key_word-requires : goal.key_word-requires
key_word-requires c =
    let fits = key_fits c.args.s.now c.in-Some.is (said_inside c.args.s.now c.in-Some.is c.requires.0).1 c.requires.1 c.requires.2 c.requires.3 in
    (fits.1, fits.2)

pub returns-in-Some : goal.returns-in-Some
returns-in-Some c =
    let inside = (said_inside c.args.s.now c.in-Some.is c.requires.0).1 in
    let fits = key_fits c.args.s.now c.in-Some.is inside c.requires.1 c.requires.2 c.requires.3 in
    c.key_word.ensures ∙ key_word_is c.args.s.now c.in-Some.is fits.0 inside

pub returns-in-None : goal.returns-in-None
unfolding word_of_setting setting_at
returns-in-None c = rw c.in-None.is
