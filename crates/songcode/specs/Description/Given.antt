-- "Each is given exactly when stated and earlier ones aren't": which complaint a list of stages gives.
use Rattle.std.specs.Prelude.{◌<◌, ◌≤◌, ◌≡◌, ◌⊎◌}
use mathlib.Core.List.{List, [], ◌∷◌, Memᴰ}
use Rattle.songcode.specs.Complaints.{Complaint}

-- "the earliest line wins, on one line the lowest number"
unfoldable pub Before : Complaint → Complaint → Type 0
Before c d = (c.line < d.line) ⊎ ((c.line ≡ d.line) × (c.number ≤ d.number))

-- Stated in the stage, and before all else that is.
pub record FirstOf (stage : List Complaint) (c : Complaint) : Type 0 where
  pub stated : Memᴰ c stage
  pub first : (d : Complaint) → Memᴰ d stage → Before c d

-- "Stages run one after another": nothing is stated in the stages before.
pub data Given : List (List Complaint) → Complaint → Type 0 where
  in_this : {stage : List Complaint} {stages : List (List Complaint)} {c : Complaint} → FirstOf stage c → Given (stage ∷ stages) c
  in_later : {stage : List Complaint} {stages : List (List Complaint)} {c : Complaint} → stage ≡ [] → Given stages c → Given (stage ∷ stages) c
