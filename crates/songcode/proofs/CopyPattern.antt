-- Request 1: the measure lines of a section's copy are its pattern, and play its measures again.
use Prim.Native.Nat.{ℕ, suc, ◌≤◌}
use mathlib.Core.Path.{◌≡◌, refl, sym, subst, ◌∙◌}
use mathlib.Core.List.{List, [], ◌∷◌, ◌++◌, map, append_assoc, append-nil}
use mathlib.Core.Option.{Option, none}
use native.Mathlib.Omega.{arith}
use Rattle.songcode.specs.Bytes.{placed}
use Rattle.songcode.specs.Answer.Chords.{Chord}
use Rattle.songcode.specs.Answer.Lines.{Line}
use Rattle.songcode.specs.Song.{by_line_end, measure, Items, one, next, items, Beat}
use Rattle.songcode.specs.Answer.Tokens.{Token, line_end}
use Rattle.songcode.specs.Answer.PatternText.{depth_i, depth, loops_deep, references_i, references}
use Rattle.songcode.specs.Description.WrittenPattern.{measure_tokens, separator_tokens, item_tokens, items_tokens}
use Rattle.songcode.specs.Description.WrittenPattern.{Text, TextLines, one_line, more_lines, WrittenPattern}
use Rattle.songcode.specs.Description.Performance.{PlaysItem, PlaysItems, PlaysAlone}
use Rattle.songcode.specs.Answer.Flat.{flat_measure}
use Rattle.songcode.specs.FlatDemands.{Within}
use Rattle.songcode.proofs.CopyLines.{behind, row_lines}
use Rattle.songcode.proofs.CopyMeasure.{SpeltAll, measure_at, measure_heads, measure_text, measure_plays}

unfoldable pub SpeltRow : List (List Beat) → Type 0
unfolding SpeltAll
SpeltRow [] = Unit {0}
SpeltRow (m ∷ row) = SpeltAll m × SpeltRow row

-- Measures in a row behind others, the first of them at a place; a measure without beats has no line of its own.
unfoldable pub items_from : ℕ → ℕ → Items → List (List Beat) → Items
unfolding behind flat_measure measure_at
items_from n at r [] = r
items_from n at r ([] ∷ ms) = items_from n at r ms
items_from n at r ((b ∷ m) ∷ ms) = items_from n (behind at (flat_measure n (b ∷ m))) (next r by_line_end (measure (measure_at n at b m))) ms

unfoldable pub row_heads : ℕ → ℕ → List (List Beat) → List (List Beat)
unfolding behind flat_measure measure_heads
row_heads n at [] = []
row_heads n at ([] ∷ ms) = row_heads n at ms
row_heads n at ((b ∷ m) ∷ ms) = measure_heads at b m ∷ row_heads n (behind at (flat_measure n (b ∷ m))) ms

row_tokens : ℕ → ℕ → List (List Beat) → List Token
row_tokens n at [] = []
row_tokens n at ([] ∷ ms) = row_tokens n at ms
row_tokens n at ((b ∷ m) ∷ ms) = line_end ∷ (measure_tokens (measure_at n at b m) ++ row_tokens n (behind at (flat_measure n (b ∷ m))) ms)

lines_text : (n line at : ℕ) (l : Line) (ts : List Token) (ms : List (List Beat)) → Within n ms → SpeltRow ms → Text l.text ts
    → TextLines l (row_lines line at (map (flat_measure n) ms)) (ts ++ row_tokens n at ms)
unfolding row_lines row_tokens Within SpeltRow
lines_text n line at l ts [] w s t = rw append-nil (one_line t)
lines_text n line at l ts ([] ∷ ms) w s t = absurd (let h = w.0 in omega arith)
lines_text n line at l ts ((b ∷ m) ∷ ms) w s t =
    let l : Line = record { number = line; text = placed at (flat_measure n (b ∷ m)) } in
    let c = measure_text n at b m s.0 in
    let k = lines_text n (suc line) (behind at (flat_measure n (b ∷ m))) l (measure_tokens (measure_at n at b m)) ms w.2 s.1 c in
    more_lines t k refl

tokens_from_lem : (n at : ℕ) (r : Items) (ms : List (List Beat)) → items_tokens (items_from n at r ms) ≡ items_tokens r ++ row_tokens n at ms
unfolding items_from row_tokens items_tokens item_tokens separator_tokens
tokens_from_lem n at r [] = sym (append-nil (items_tokens r))
tokens_from_lem n at r ([] ∷ ms) = tokens_from_lem n at r ms
tokens_from_lem n at r ((b ∷ m) ∷ ms) =
    tokens_from_lem n (behind at (flat_measure n (b ∷ m))) (next r by_line_end (measure (measure_at n at b m))) ms
    ∙ append_assoc (items_tokens r) (line_end ∷ measure_tokens (measure_at n at b m)) (row_tokens n (behind at (flat_measure n (b ∷ m))) ms)

plays_from : (n at : ℕ) (r : Items) (ms : List (List Beat)) (front : List (List Beat)) (mid : Option Chord) → Within n ms
    → PlaysItems n none r front mid → (later : Option Chord) × PlaysItems n none (items_from n at r ms) (front ++ row_heads n at ms) later
unfolding items_from row_heads Within PlaysItems PlaysItem
plays_from n at r [] front mid w p = (mid, rw append-nil p)
plays_from n at r ([] ∷ ms) front mid w p = absurd (let h = w.0 in omega arith)
plays_from n at r ((b ∷ m) ∷ ms) front mid w p =
    let g = measure_plays n at mid b m w.1 in
    let q : PlaysItems n none (next r by_line_end (measure (measure_at n at b m))) (front ++ (measure_heads at b m ∷ [])) g.0 =
    (front, measure_heads at b m ∷ [], mid, p, (measure_heads at b m, g.1, refl), refl) in
    let t =
    plays_from n (behind at (flat_measure n (b ∷ m))) (next r by_line_end (measure (measure_at n at b m))) ms (front ++ (measure_heads at b m ∷ [])) g.0
    w.2 q in
    (t.0, rw append_assoc at t.1)

depth_from : (n at : ℕ) (r : Items) (ms : List (List Beat)) → depth r ≤ 0 → depth (items_from n at r ms) ≤ 0
unfolding items_from depth depth_i
depth_from n at r [] h = h
depth_from n at r ([] ∷ ms) h = depth_from n at r ms h
depth_from n at r ((b ∷ m) ∷ ms) h = depth_from n (behind at (flat_measure n (b ∷ m))) (next r by_line_end (measure (measure_at n at b m))) ms (omega arith)

plain_from : (n at : ℕ) (r : Items) (ms : List (List Beat)) → references r ≡ [] → references (items_from n at r ms) ≡ []
unfolding items_from references references_i
plain_from n at r [] h = h
plain_from n at r ([] ∷ ms) h = plain_from n at r ms h
plain_from n at r ((b ∷ m) ∷ ms) h = plain_from n (behind at (flat_measure n (b ∷ m))) (next r by_line_end (measure (measure_at n at b m))) ms (rw h)

-- The pattern of a section's copy, its first measure at a place.
unfoldable pub items_at : ℕ → ℕ → Beat → List Beat → List (List Beat) → Items
unfolding items_from behind flat_measure measure_at
items_at n at b m ms = items_from n (behind at (flat_measure n (b ∷ m))) (one (measure (measure_at n at b m))) ms

pub pattern_written : (n line at : ℕ) (b : Beat) (m : List Beat) (ms : List (List Beat)) → Within n ((b ∷ m) ∷ ms) → SpeltRow ((b ∷ m) ∷ ms)
    → WrittenPattern (record { number = line; text = placed at (flat_measure n (b ∷ m)) })
    (row_lines (suc line) (behind at (flat_measure n (b ∷ m))) (map (flat_measure n) ms)) (items (items_at n at b m ms))
unfolding WrittenPattern items_at Within SpeltRow loops_deep depth depth_i references references_i items_tokens item_tokens
pattern_written n line at b m ms w s =
    let first = one (measure (measure_at n at b m)) in
    let next-at = behind at (flat_measure n (b ∷ m)) in
    let t =
    lines_text n (suc line) next-at (record { number = line; text = placed at (flat_measure n (b ∷ m)) }) (measure_tokens (measure_at n at b m)) ms
    w.2 s.1 (measure_text n at b m s.0) in
    let e : measure_tokens (measure_at n at b m) ++ row_tokens n next-at ms ≡ items_tokens (items_from n next-at first ms) =
    sym (tokens_from_lem n next-at first ms) in
    let d = depth_from n next-at first ms (omega arith) in
    let l : Line = record { number = line; text = placed at (flat_measure n (b ∷ m)) } in
    (subst (λ x. TextLines l (row_lines (suc line) next-at (map (flat_measure n) ms)) x) e t, omega arith, plain_from n next-at first ms refl)

pub pattern_plays : (n at : ℕ) (b : Beat) (m : List Beat) (ms : List (List Beat)) → Within n ((b ∷ m) ∷ ms)
    → PlaysAlone n (items_at n at b m ms) (row_heads n at ((b ∷ m) ∷ ms))
unfolding items_at row_heads Within PlaysItems PlaysItem
pattern_plays n at b m ms w =
    let g = measure_plays n at none b m w.1 in
    let q : PlaysItems n none (one (measure (measure_at n at b m))) (measure_heads at b m ∷ []) g.0 = (measure_heads at b m, g.1, refl) in
    let t = plays_from n (behind at (flat_measure n (b ∷ m))) (one (measure (measure_at n at b m))) ms (measure_heads at b m ∷ []) g.0 w.2 q in
    record { later = t.0; plays = t.1 }
