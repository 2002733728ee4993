-- The base of a word is that of any text that begins with the word: every spelling is plain.
use Prim.Native.Nat.{ℕ, zero, suc, ◌+◌, ◌-◌, ◌<◌, ◌≤◌}
use mathlib.Core.Path.{◌≡◌, refl, sym, ap, ◌∙◌}
use mathlib.Core.List.{List, [], ◌∷◌, ◌++◌}
use mathlib.Core.Bool.{Bool, true, ◌&&◌}
use mathlib.Core.Option.{Option, none}
use native.Mathlib.Omega.{arith}
use borrow.Author.Tests.{ne_eqb, eqb-true, eqb-false}
use lib.Dec.{eqb}
use lib.ListN.{length, get_or, take, drop}
use lib.Seq.{take-take}
use Rattle.songcode.specs.Lists.{provided◌then◌else◌, every}
use Rattle.songcode.specs.Bytes.{ascii, begins, is_blank, is_byte}
use Rattle.songcode.specs.Answer.Chords.{bases, is_passed_over, is_taken, longest_from}
use Rattle.songcode.specs.Answer.Chords as songcode
use Rattle.songcode.specs.Answer.Tokens.{class}
use Rattle.songcode.proofs.ListLaws.{by_cases, both_pass, true_is_not_false}
use Rattle.text.specs.Spans.{part}
use Rattle.text.proofs.WalkLaws.{part_length}
use Rattle.tokens.specs.declared.bases.Base.{Base}
use Rattle.tokens.specs.Bases.{base_of, is_letter}
use Rattle.tokens.specs.Lexing.{plain_class, is_plain, plain_length}
use Rattle.tokens.proofs.PartLaws.{part_cons, part_drop}
use Rattle.tokens.proofs.WordLaws.{base_inside}
use Rattle.tokens.proofs.LexLaws.{letter_plain, plain_le}

begins_plain : (s w : List ℕ) → every is_plain s ≡ true → begins s (take (plain_length w) w) ≡ begins s w
unfolding begins plain_length every provided◌then◌else◌
begins_plain [] w e = refl
begins_plain (x ∷ s) [] e = refl
begins_plain (x ∷ s) (b ∷ w) e =
    let p = both_pass (is_plain x) (every is_plain s) e in
    by_cases
    (is_plain b)
    (λ t. rw t (ap (λ r. eqb x b && r) (begins_plain s w p.1)))
    (λ t. rw (t, ne_eqb x b (λ z. true_is_not_false (ap is_plain (sym z) ∙ p.0) t)))

-- Plain with and without the `aj` that may follow.
abbrev spelled_plain : List ℕ → Bool
spelled_plain s = every is_plain s && every is_plain (s ++ ascii "aj")

taken_plain : (s w : List ℕ) → spelled_plain s ≡ true → is_taken s (take (plain_length w) w) ≡ is_taken s w
unfolding is_taken is_passed_over
taken_plain s w e =
    let p = both_pass (every is_plain s) (every is_plain (s ++ ascii "aj")) e in
    rw (begins_plain s w p.0, begins_plain (s ++ ascii "aj") w p.1)

longest_plain : (n : ℕ) (ss : List (List ℕ)) (w : List ℕ) (o : Option songcode.Base) → every spelled_plain ss ≡ true
    → longest_from is_taken n ss (take (plain_length w) w) o ≡ longest_from is_taken n ss w o
unfolding longest_from every provided◌then◌else◌
longest_plain n [] w o e = refl
longest_plain n (s ∷ ss) w o e =
    let p = both_pass (spelled_plain s) (every spelled_plain ss) e in
    rw (taken_plain s w p.0) (longest_plain (suc n) ss w _ p.1)

base_of_word : (w : List ℕ) → longest_from is_taken 0 bases (take (plain_length w) w) none ≡ longest_from is_taken 0 bases w none
unfolding bases every is_plain plain_class class is_blank is_byte provided◌then◌else◌ ascii
base_of_word w = longest_plain 0 bases w none refl

-- The plain bytes behind some of them.
plain_behind : (l : ℕ) (w : List ℕ) → l ≤ plain_length w → plain_length w ≡ l + plain_length (drop l w)
unfolding plain_length provided◌then◌else◌
plain_behind zero w h = omega arith
plain_behind (suc l) [] h = let z : ⊥ = omega arith in absurd z
plain_behind (suc l) (b ∷ w) h =
    by_cases
    (is_plain b)
    (λ t. let g : suc l ≤ suc (plain_length w) = rw t at h in
    let i = plain_behind l w (omega arith) in rw t (omega arith))
    (λ t. let g : suc l ≤ 0 = rw t at h in
    let z : ⊥ = omega arith in absurd z)

-- A chord in a text: its base lies in it, and ends where what is plain behind the base ends.
module _ (s : List ℕ) (a stop : ℕ) (h : a < stop) (l : stop ≤ length s) where
  abbrev run : ℕ
  run = plain_length (part a stop s)

  run_le : run ≤ stop - a
  run_le =
      let n = part_length s a stop l in
      let k = plain_le (part a stop s) in
      omega arith

  run_first : is_letter (get_or s a 0) ≡ true → run ≡ 1 + plain_length (part (a + 1) stop s)
  unfolding plain_length provided◌then◌else◌
  run_first e = rw (part_cons s a stop h l, letter_plain (get_or s a 0) e) (omega arith)

  run_part : take run (part a stop s) ≡ part a (a + run) s
  run_part =
      let k = run_le in
      let e : a + run - a ≡ run = omega arith in
      take-take run (stop - a) (drop a s) (omega arith) ∙ rw e

  module _ (b : Base) (e : b ≡ base_of (longest_from is_taken 0 bases (part a stop s) none)) where
    base_in_run : b ≡ base_of (longest_from is_taken 0 bases (part a (a + run) s) none)
    base_in_run = e ∙ ap base_of (sym (base_of_word (part a stop s)) ∙ ap (λ w. longest_from is_taken 0 bases w none) run_part)

    base_le : b.length ≤ run
    base_le =
        by_cases
        (eqb b.length 0)
        (λ t. let z = eqb-true b.length 0 t in omega arith)
        (λ t. let k = run_le in
        let i = (base_inside s a (a + run) b base_in_run (omega arith) (eqb-false b.length 0 t)).1 in omega arith)

    pub base_in_part : b.length ≤ stop - a
    base_in_part =
        let k = run_le in
        let i = base_le in
        omega arith

    chord_run : (j : ℕ) → j ≡ plain_length (part (a + b.length) stop s) → a + b.length + j ≡ a + run
    chord_run j p =
        let i = plain_behind b.length (part a stop s) base_le in
        let q = p ∙ ap plain_length (sym (part_drop s a stop b.length)) in
        omega arith

    pub chord_end : is_letter (get_or s a 0) ≡ true → (j : ℕ) → j ≡ plain_length (part (a + b.length) stop s)
        → (a + b.length + j ≡ a + 1 + plain_length (part (a + 1) stop s)) × (a + b.length + j ≤ stop)
    chord_end g j p =
        let r = chord_run j p in
        let f = run_first g in
        let k = run_le in
        (omega arith, omega arith)

    pub chord_base : (j : ℕ) → j ≡ plain_length (part (a + b.length) stop s) → b ≡ base_of (longest_from is_taken 0 bases (part a (a + b.length + j) s) none)
    chord_base j p = rw (chord_run j p) base_in_run
