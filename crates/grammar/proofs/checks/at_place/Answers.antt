-- In each arm the place is known, and its row picks the very entry that is read.
use mathlib.Core.Path.{refl}
use Rattle.grammar.proofs.checks.at_place.Goals as goal

pub returns-in-Fresh : goal.returns-in-Fresh
returns-in-Fresh c = rw c.in-Fresh.is refl

pub returns-in-Wants : goal.returns-in-Wants
returns-in-Wants c = rw c.in-Wants.is refl

pub returns-in-Joins : goal.returns-in-Joins
returns-in-Joins c = rw c.in-Joins.is refl

pub returns-in-Sounds : goal.returns-in-Sounds
returns-in-Sounds c = rw c.in-Sounds.is refl

pub returns-in-Removed : goal.returns-in-Removed
returns-in-Removed c = rw c.in-Removed.is refl

pub returns-in-Alone : goal.returns-in-Alone
returns-in-Alone c = rw c.in-Alone.is refl

pub returns-in-Full : goal.returns-in-Full
returns-in-Full c = rw c.in-Full.is refl

pub returns-in-Ended : goal.returns-in-Ended
returns-in-Ended c = rw c.in-Ended.is refl

pub returns-in-Bad : goal.returns-in-Bad
returns-in-Bad c = rw c.in-Bad.is refl
