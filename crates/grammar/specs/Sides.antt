-- What may not stand in a lead-in or tail.
use Rattle.std.specs.Prelude.{ℕ, Bool, List}
use Rattle.songcode.specs.Lists.{any}
use Rattle.songcode.specs.Bytes.{placed}
use Rattle.songcode.specs.Answer.PatternText.{barred}
use Rattle.text.specs.Spans.{part}

-- A byte, wherever it stands, is a `:` or `$`.
abbrev pub barred_byte : ℕ → Bool
barred_byte b = barred (record { place = 0; value = b })

-- One of them stands in a part of a text.
abbrev pub any_barred : List ℕ → ℕ → ℕ → Bool
any_barred s a e = any barred (placed a (part a e s))
