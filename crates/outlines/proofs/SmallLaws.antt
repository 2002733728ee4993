-- The numbers of an outline have room in its word.
use Prim.Native.Nat.{ℕ, zero, suc, ◌+◌, ◌-◌, ◌≤◌}
use mathlib.Core.List.{List, [], ◌∷◌}
use mathlib.Core.Bool.{Bool, ◌||◌, ◌&&◌}
use native.Mathlib.Omega.{arith}
use lib.Dec.{eqb, ltb}
use lib.ListN.{get_or}
use Rattle.songcode.specs.Lists.{provided◌then◌else◌}
use Rattle.songcode.proofs.ListLaws.{by_cases}
use Rattle.tokens.specs.Signs.{kind_of, number_of, is_position}
use Rattle.outlines.specs.declared.readings.Outline.{Outline}
use Rattle.outlines.specs.declared.readings.Reading.{Reading}
use Rattle.outlines.specs.Sizes.{divides, first_from, common_by, joined}
use Rattle.outlines.specs.Readings.{started, sounded, measured, closed, opened, loop_shut, referred, Nested, entered, left, step_of, word_read, words_read}
use Rattle.outlines.specs.Readings.{outside, summed, outlined}

-- The sizes of a text.
abbrev Sizes : ℕ → Type 0
Sizes s = (1 ≤ s) × (s ≤ 33)

pub first_between : (test : ℕ → Bool) (k m : ℕ) → (m ≤ first_from test k m) × (first_from test k m ≤ m + k)
unfolding first_from provided◌then◌else◌
first_between test zero m = (omega arith, omega arith)
first_between test (suc k) m =
    by_cases (test m)
    (λ e. rw e (omega arith, omega arith))
    (λ e. let h = first_between test k (m + 1) in
    let a = h.0 in
    let b = h.1 in rw e (omega arith, omega arith))

joined_small : (s p : ℕ) → Sizes s → Sizes (joined s p)
unfolding joined provided◌then◌else◌ common_by
joined_small s p h =
    by_cases (ltb 32 s || divides p s) (λ e. rw e h) (λ e. rw e (first_between (λ n. divides s n && divides p n) 32 1))

-- All numbers of a state.
abbrev Small : Reading → Type 0
Small s = Sizes s.sizes × (s.count ≤ 65536) × (s.deepest ≤ 7)

closed_small : (s : Reading) → Small s → Small (closed s)
unfolding closed provided◌then◌else◌ measured
closed_small s h = by_cases (eqb s.positions 0) (λ e. rw e h) (λ e. rw e (joined_small s.sizes s.positions h.0, omega arith, h.2))

opened_small : (s : Reading) → Small s → Small (opened s)
unfolding opened
opened_small s h = let d = h.2 in (h.0, omega arith, omega arith)

shut_small : (n outer : ℕ) (s : Reading) → Small s → Small (loop_shut n outer s)
unfolding loop_shut
shut_small n outer s h = (h.0, omega arith, h.2)

step_small : (s : Nested) (w : ℕ) → Small s.reading → Small (step_of s w).reading
unfolding step_of provided◌then◌else◌ sounded entered left
step_small s w h =
    by_cases (is_position (kind_of w))
    (λ a. rw a h)
    (λ a. rw a (by_cases (eqb (kind_of w) 57)
    (λ b. rw b (opened_small s.reading h))
    (λ b. rw b (by_cases (eqb (kind_of w) 56)
    (λ c. rw c (shut_small (number_of w) (get_or s.around (s.reading.level - 1) 0) (closed s.reading) (closed_small s.reading h)))
    (λ c. rw c (closed_small s.reading h))))))

module _ (find : ℕ → Outline) where
  word_small : (s : Nested) (w : ℕ) → Small s.reading → Small (word_read find s w).reading
  unfolding word_read provided◌then◌else◌ referred
  word_small s w h =
      by_cases (eqb (kind_of w) 55)
      (λ e. rw e (joined_small s.reading.sizes (find (number_of w)).sizes h.0, omega arith, h.2))
      (λ e. rw e (step_small s w h))

  words_small : (s : Nested) (ws : List ℕ) → Small s.reading → Small (words_read find s ws).reading
  unfolding words_read
  words_small s [] h = h
  words_small s (w ∷ ws) h = words_small (word_read find s w) ws (word_small s w h)

  pub outlined_small : (ws : List ℕ) → Sizes (outlined find ws).sizes × ((outlined find ws).measures ≤ 65536) × ((outlined find ws).depth ≤ 7)
  unfolding outlined summed outside started
  outlined_small ws = closed_small (words_read find outside ws).reading (words_small outside ws ((omega arith, omega arith), omega arith, omega arith))
