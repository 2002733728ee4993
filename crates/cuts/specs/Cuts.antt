-- A cut by its two numbers.
use Rattle.std.specs.Prelude.{ℕ}
use Rattle.cuts.specs.declared.Cut.{Cut}

-- A cut of so many whole measures and so many beats.
abbrev pub cut_of : ℕ → ℕ → Cut
cut_of m b = record { measures = record { 0 = m }; beats = record { 0 = b } }
