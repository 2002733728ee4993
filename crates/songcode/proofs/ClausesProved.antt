-- Every clause's charts, run: the one is refused as the clause says, the one beside it is accepted.
use mathlib.Core.Path.{◌≡◌, refl}
use mathlib.Core.List.{map}
use mathlib.Core.Option.{none, some}
use Rattle.songcode.specs.Complaints.{complaint, verdict}
use Rattle.songcode.specs.Answer.Answer.{stages}
use Rattle.songcode.specs.Edges.{ample}
use Rattle.songcode.specs.Clauses.{clauses}

pub clauses_stop : map (λ c. verdict (stages ample c.stopped)) clauses ≡ map (λ c. some (complaint c.number c.line)) clauses
unfolding clauses verdict stages
clauses_stop = refl

pub clauses_spare : map (λ c. verdict (stages ample c.beside)) clauses ≡ map (λ c. none) clauses
unfolding clauses verdict stages
clauses_spare = refl
