-- Request 1: with every head set and its letters in another place, a measure has the same line.
use Prim.Native.Nat.{ℕ, suc, ◌+◌}
use mathlib.Core.Path.{◌≡◌, refl, ap}
use mathlib.Core.List.{List, [], ◌∷◌, map}
use mathlib.Core.Option.{Option, none, some}
use native.Mathlib.Omega.{arith}
use lib.ListN.{length}
use Rattle.songcode.specs.Lists.{is_empty}
use Rattle.songcode.specs.Answer.Chords.{Chord}
use Rattle.songcode.specs.Song.{Beat}
use Rattle.songcode.specs.Answer.Flat.{letters, letters_of, flat_measure, flat_pattern}
use Rattle.songcode.specs.FlatDemands.{Within}
use Rattle.songcode.proofs.ByteLaws.{values_placed}
use Rattle.songcode.proofs.CopyLines.{behind}
use Rattle.songcode.proofs.CopyMeasure.{chord_at, heard_at, heads_at, measure_heads}
use Rattle.songcode.proofs.CopyPattern.{row_heads}

letters_heard : (at : ℕ) (h : Option Chord) → letters (heard_at at h) ≡ letters h
unfolding letters heard_at chord_at
letters_heard at none = refl
letters_heard at (some c) = rw values_placed refl

heads_letters : (at : ℕ) (m : List Beat) → map letters_of (heads_at at m) ≡ map letters_of m
unfolding heads_at letters_of
heads_letters at [] = refl
heads_letters at (b ∷ m) = rw (letters_heard (suc at) b.sounds, heads_letters (suc at + length (letters b.sounds)) m)

heads_count : (at : ℕ) (m : List Beat) → length (heads_at at m) ≡ length m
unfolding heads_at
heads_count at [] = refl
heads_count at (b ∷ m) = ap suc (heads_count (suc at + length (letters_of b)) m)

flat_heads : (k at : ℕ) (b : Beat) (m : List Beat) → flat_measure k (measure_heads at b m) ≡ flat_measure k (b ∷ m)
unfolding flat_measure measure_heads letters_of
flat_heads k at b m = rw (letters_heard at b.sounds, heads_letters (at + length (letters b.sounds)) m, heads_count (at + length (letters b.sounds)) m)

rows_heads : (k at : ℕ) (row : List (List Beat)) → Within k row → map (flat_measure k) (row_heads k at row) ≡ map (flat_measure k) row
unfolding row_heads Within
rows_heads k at [] w = refl
rows_heads k at ([] ∷ ms) w = absurd (let h = w.0 in omega arith)
rows_heads k at ((b ∷ m) ∷ ms) w = rw (flat_heads k at b m, rows_heads k (behind at (flat_measure k (b ∷ m))) ms w.2)

pub pattern_heads : (k at : ℕ) (row : List (List Beat)) → Within k row → flat_pattern k (row_heads k at row) ≡ flat_pattern k row
unfolding flat_pattern row_heads Within
pattern_heads k at [] w = refl
pattern_heads k at ([] ∷ ms) w = absurd (let h = w.0 in omega arith)
pattern_heads k at ((b ∷ m) ∷ ms) w = rw (flat_heads k at b m, rows_heads k (behind at (flat_measure k (b ∷ m))) ms w.2)

pub empty_heads : (k at : ℕ) (row : List (List Beat)) → Within k row → is_empty (row_heads k at row) ≡ is_empty row
unfolding is_empty row_heads Within
empty_heads k at [] w = refl
empty_heads k at ([] ∷ ms) w = absurd (let h = w.0 in omega arith)
empty_heads k at ((b ∷ m) ∷ ms) w = refl
