-- Every measure that is walked has as many beats as N at most, so that a row's beats can be counted.
use Rattle.std.proofs.Common.{ℕ, zero, suc, ◌+◌, ◌*◌, ◌/◌, ◌≤◌, eqb, List, [], ◌∷◌, ◌++◌, length, take, refl, arith, length-take}
use Rattle.songcode.specs.Lists.{provided◌then◌else◌, times}
use Rattle.songcode.specs.Description.Performance.{total}
use Rattle.songcode.proofs.ListLaws.{by_cases}
use Rattle.score.specs.declared.stretches.Stretch.{Stretch}
use Rattle.score.specs.Places.{stretch_of, word_of}
use Rattle.tokens.specs.Signs.{kind_of, number_of, is_separator, is_stop}
use Rattle.player.specs.Signs.{sounding_of, positions_at}
use Rattle.player.specs.Walks.{Read, and_then, one_of, passes_of, looped, loop_of, ref_of, item_by, item_of, rows_by, level, row_of}
use Rattle.player.proofs.SignLaws.{parts_length}
use Rattle.player.proofs.LookLaws.{beats_few}

-- Each measure has 32 beats at most.
unfoldable pub Short : List (List ℕ) → Type 0
Short [] = Unit {0}
Short (x ∷ xs) = (length x ≤ 32) × Short xs

pub short_append : (a b : List (List ℕ)) → Short a → Short b → Short (a ++ b)
unfolding Short
short_append [] b f g = g
short_append (x ∷ a) b f g = (f.0, short_append a b f.1 g)

pub short_times : (k : ℕ) (row : List (List ℕ)) → Short row → Short (times k row)
unfolding times Short
short_times zero row f = tt
short_times (suc k) row f = short_append row (times k row) f (short_times k row f)

pub total_short : (row : List (List ℕ)) → Short row → total row ≤ 32 * length row
unfolding total Short
total_short [] f = omega arith
total_short (x ∷ xs) f = let h = total_short xs f.1 in omega (arith, f.0)

pub short_take : (k : ℕ) (row : List (List ℕ)) → Short row → Short (take k row)
unfolding Short
short_take zero row f = tt
short_take (suc k) [] f = tt
short_take (suc k) (x ∷ xs) f = (f.0, short_take k xs f.1)

pub total_few : (k : ℕ) (row : List (List ℕ)) → Short row → total (take k row) ≤ 32 * k
total_few k row f =
    let h = total_short (take k row) (short_take k row f) in
    let l = length-take k row in
    omega arith

abbrev Shorts : (ℕ → ℕ → ℕ → Read) → Type 0
Shorts inner = (to at last : ℕ) → Short (inner to at last).row

module _ (n : ℕ) (ws : List ℕ) (h : n ≤ 32) where
  short_one : (to at last : ℕ) → Short (one_of n ws to at last).row
  unfolding one_of Short
  short_one to at last =
      let ps = positions_at ws to at in
      let a = parts_length (n / length ps) last ps in
      let b = beats_few n (length ps) (sounding_of ps) ps refl refl in
      (omega arith, tt)

  short_item : (inner : ℕ → ℕ → ℕ → Read) → Shorts inner → Shorts (item_of inner n ws)
  unfolding item_of item_by loop_of looped ref_of Short
  short_item inner i to at last =
      let w = word_of ws to at in
      by_cases (eqb (kind_of w) 57)
      (λ a. rw (a, provided◌then◌else◌) (short_append (inner to (at + 1) last).row
      (times (passes_of ws to (inner to (at + 1) last).at) (inner to (at + 1) last).row) (i to (at + 1) last)
      (short_times (passes_of ws to (inner to (at + 1) last).at) (inner to (at + 1) last).row (i to (at + 1) last))))
      (λ a.
      by_cases (eqb (kind_of w) 55) (λ b. rw (a, b, provided◌then◌else◌) (i (stretch_of ws (number_of w)).to (stretch_of ws (number_of w)).from last))
      (λ b. by_cases (is_separator (kind_of w)) (λ f. rw (a, b, f, provided◌then◌else◌) tt) (λ f. rw (a, b, f, provided◌then◌else◌) (short_one to at last))))

  short_rows : (inner : ℕ → ℕ → ℕ → Read) → Shorts inner → (f : ℕ) → Shorts (rows_by inner n ws f)
  unfolding rows_by and_then Short
  short_rows inner i zero to at last = tt
  short_rows inner i (suc f) to at last =
      by_cases (is_stop (kind_of (word_of ws to at))) (λ e. rw (e, provided◌then◌else◌) tt)
      (λ e.
      let r = item_of inner n ws to at last in
      rw (e, provided◌then◌else◌) (short_append r.row (rows_by inner n ws f to r.at r.last).row (short_item inner i to at last)
      (short_rows inner i f to r.at r.last)))

  short_level : (k : ℕ) → Shorts (level k n ws)
  unfolding level Short
  short_level zero to at last = tt
  short_level (suc k) to at last = short_rows (level k n ws) (short_level k) to to at last

  pub short_row : (s : Stretch) → Short (row_of n ws s)
  unfolding row_of
  short_row s = short_level 8 s.to s.from 4227858432
