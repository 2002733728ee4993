-- What was heard stays; where nothing was, a chord or a `%` settles it, as in the model.
use Rattle.slips.proofs.StrayLaws.{sign_kept, sign_heard, sign_again, sign_other}
use Rattle.slips.proofs.readings.hear.Goals as goal

pub returns-in_default : goal.returns-in_default
returns-in_default c = sign_kept c.args.x c.args.sign c.args.from c.in_default.not-Unheard

pub returns-then-sign-lt-CHORDS : goal.returns-then-sign-lt-CHORDS
returns-then-sign-lt-CHORDS c = rw c.in-Unheard.is (sign_heard c.args.sign c.args.from c.if-sign-lt-CHORDS.true)

pub returns-then-sign-eq-AGAIN : goal.returns-then-sign-eq-AGAIN
returns-then-sign-eq-AGAIN c = rw c.in-Unheard.is (sign_again c.args.sign c.args.from c.if-sign-eq-AGAIN.true)

pub returns : goal.returns
returns c = rw c.in-Unheard.is (sign_other c.args.sign c.args.from c.if-sign-lt-CHORDS.false c.if-sign-eq-AGAIN.false)
