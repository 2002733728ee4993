-- From head to head: at the mark, at the definition, past it, past the last one.
use Prim.Native.Nat.{◌*◌, ◌-◌, ◌≤◌}
use mathlib.Core.Path.{◌≡◌}
use Rattle.score.specs.Places.{place_by}
use Rattle.score.proofs.definitions.place_of.Given as goal

abbrev pub invariant-loop : goal.invariant-loop
invariant-loop l = (l.at ≤ l.counter * 131071) × (place_by (26 - l.counter) l.words l.at l.x ≡ place_by 26 l.words 0 l.x)
