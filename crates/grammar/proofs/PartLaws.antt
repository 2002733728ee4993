-- A part of a text, byte by byte, with the places of its bytes.
use Prim.Native.Nat.{ℕ, suc}
use mathlib.Core.Path.{◌≡◌, refl, ap}
use mathlib.Core.List.{List, [], ◌∷◌}
use mathlib.Core.Bool.{Bool, ◌||◌}
use Rattle.std.specs.List.{list_any}
use Rattle.songcode.specs.Lists.{any}
use Rattle.songcode.specs.Bytes.{placed, is_byte}
use Rattle.songcode.specs.Answer.PatternText.{barred}
use Rattle.grammar.specs.Sides.{barred_byte}

-- One of the bytes is barred.
pub barred_among : (a : ℕ) (bs : List ℕ) → list_any barred_byte bs ≡ any barred (placed a bs)
unfolding any placed barred is_byte
barred_among a [] = refl
barred_among a (b ∷ bs) = ap (λ (r : Bool). barred_byte b || r) (barred_among (suc a) bs)
