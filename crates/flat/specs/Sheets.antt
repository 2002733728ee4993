-- A sheet: the lent buffer and how many bytes were written on it. A copy of more than 65,536 bytes is refused, so the count stops there.
use Rattle.std.specs.Prelude.{ℕ, ◌+◌, ◌≡◌, List, [], ◌∷◌, ltb, set}
use Rattle.songcode.specs.Lists.{provided◌then◌else◌}
use Rattle.songcode.specs.Answer.Answer.{most_bytes}

pub record Sheet : Type 0 where
  pub copy : List ℕ
  pub at : ℕ

-- A byte behind those that were written; nothing is stored past the buffer's end.
unfoldable pub put_one : ℕ → Sheet → Sheet
unfolding provided◌then◌else◌ most_bytes
put_one b x = provided ltb most_bytes x.at then x else record { copy = set x.copy x.at b; at = x.at + 1 }

unfoldable pub puts : List ℕ → Sheet → Sheet
unfolding put_one
puts [] x = x
puts (b ∷ bs) x = puts bs (put_one b x)

-- What a call promises that writes bytes behind those on a sheet: its buffer and count before, and after.
abbrev pub Adds : List ℕ → List ℕ → ℕ → List ℕ → ℕ → Type 0
Adds bytes before from after to =
    ◌≡◌ {A = Sheet} (record { copy = after; at = to }) (puts bytes (record { copy = before; at = from }))
