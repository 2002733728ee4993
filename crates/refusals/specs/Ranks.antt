-- A complaint as one number, so that the one that goes first is the least: by its line, on one line by its number.
use Rattle.std.specs.Prelude.{ℕ, ◌+◌, ◌*◌, ◌/◌, ◌%◌, ◌<◌, ◌≤◌, min, List, [], ◌∷◌, Bool, eqb, ltb}
use Rattle.songcode.specs.Lists.{provided◌then◌else◌}
use Rattle.std.proofs.Math.Option as math
use Rattle.songcode.specs.Complaints.{Complaint, complaint}

-- A line past 131,071 counts as that one, behind every line of a text that is judged.
unfoldable pub ranked : ℕ → ℕ → ℕ
ranked number line = min line 131071 * 32 + number

abbrev pub rank : Complaint → ℕ
rank c = ranked c.number c.line

-- "no section, nothing else in stage 2" stands behind every other complaint, on a line that no text has; no complaint at all behind that.
abbrev pub no_section : ℕ
no_section = 4194313

abbrev pub none : ℕ
none = 8388608

-- A complaint that a text may have: its number is from 1 to 31, its line below that of `no_section`.
abbrev pub Small : Complaint → Type 0
Small c = (c.number < 32) × (c.line < 131072) × (1 ≤ c.number)

unfoldable pub least : List Complaint → ℕ
least [] = none
least (c ∷ cs) = min (rank c) (least cs)

-- Only if the test passes.
unfoldable pub only_if : Bool → ℕ → ℕ
unfolding provided◌then◌else◌
only_if t r = provided t then r else none

-- The complaint that a number says.
unfoldable pub refusal_at : ℕ → math.Option Complaint
unfolding provided◌then◌else◌
refusal_at r =
    provided ltb r no_section then math.some (complaint (r % 32) (r / 32))
    else provided eqb r no_section then math.some (complaint 9 0)
    else math.none
