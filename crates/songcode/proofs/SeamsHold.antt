-- A number as it is written is read as that number; a text has as many marks as measures.
use Prim.Native.Nat.{ℕ, zero, suc, ◌+◌, ◌*◌, ◌/◌, ◌%◌, ◌≤◌}
use mathlib.Core.Path.{◌≡◌, refl, ap, sym, subst, ◌∙◌}
use mathlib.Core.List.{List, [], ◌∷◌, ◌++◌}
use mathlib.Core.Bool.{Bool, true}
use mathlib.Core.Option.{Option}
use native.Mathlib.Nat.{div-add-mod'}
use native.Mathlib.Omega.{arith}
use lib.Dec.{ltb}
use lib.ListN.{length, length-append}
use borrow.Author.Tests.{ltb-true, ltb-false}
use Rattle.songcode.specs.Lists.{provided◌then◌else◌}
use Rattle.songcode.specs.Bytes.{Byte, placed}
use Rattle.songcode.specs.Answer.Chords.{Chord}
use Rattle.songcode.specs.Song.{Separator, Item, measure, loop, refer, Items, one, next}
use Rattle.songcode.specs.Answer.Playing.{last_items, measures_item, measures_of}
use Rattle.songcode.specs.Apart.{Decimal, digit, more_digits}
use Rattle.songcode.specs.Seams.{digits_in, number_written, breaks, with_last, marked_by, breaks_item, breaks_of, marks_of, Seams}
use Rattle.songcode.proofs.ListLaws.{by_cases, times_length}

placed_next : (at : ℕ) (xs : List ℕ) (x : ℕ) → placed at (xs ++ (x ∷ [])) ≡ placed at xs ++ (record { place = at + length xs; value = x } ∷ [])
unfolding placed
placed_next at [] x = ap (λ p. record { place = p; value = x } ∷ []) (omega arith)
placed_next at (y ∷ xs) x =
    ap (λ bs. record { place = at; value = y } ∷ bs)
    (placed_next (suc at) xs x ∙ ap (λ p. placed (suc at) xs ++ (record { place = p; value = x } ∷ [])) (omega arith))

digits_written : (turns n at : ℕ) → n ≤ turns + 9 → Decimal (placed at (digits_in turns n)) n
unfolding digits_in provided◌then◌else◌ placed
digits_written zero n at h = digit (record { place = at; value = 48 + n }) n (omega arith) refl
digits_written (suc turns) n at h =
    by_cases
    (ltb n 10)
    (λ t. let few = ltb-true n 10 t in rw t (digit (record { place = at; value = 48 + n }) n few refl))
    (λ f.
    let many = ltb-false n 10 f in
    let d = div-add-mod' n 10 in
    let front = digits_written turns (n / 10) at (omega arith) in
    let b : Byte = record { place = at + length (digits_in turns (n / 10)); value = 48 + n % 10 } in
    let whole = more_digits b (n % 10) front (omega arith) (omega arith) refl (placed_next at (digits_in turns (n / 10)) (48 + n % 10)) in
    rw f (subst (λ k. Decimal (placed at (digits_in turns (n / 10) ++ ((48 + n % 10) ∷ []))) k) (omega arith) whole))

last_length : (mark : Bool) (row : List Bool) → length (with_last mark row) ≡ length row
unfolding with_last
last_length mark [] = refl
last_length mark (b ∷ []) = refl
last_length mark (b ∷ c ∷ row) = ap suc (last_length mark (c ∷ row))

marked_length : (s : Separator) (row : List Bool) → length (marked_by s row) ≡ length row
unfolding marked_by provided◌then◌else◌
marked_length s row = by_cases (breaks s) (λ t. rw t (last_length true row)) (λ f. rw f refl)

mutual
  unfolding breaks_item breaks_of measures_item measures_of

  item_marked : (n : ℕ) (last : Option Chord) (i : Item) → length (breaks_item i) ≡ length (measures_item n last i)
  item_marked n last (measure m) = refl
  item_marked n last (loop r k) =
      times_length k (breaks_of r) ∙ ap (λ z. k * z) (text_marked n last r) ∙ sym (times_length k (measures_of n last r))
  item_marked n last (refer k) = refl

  text_marked : (n : ℕ) (last : Option Chord) (r : Items) → length (breaks_of r) ≡ length (measures_of n last r)
  text_marked n last (one i) = item_marked n last i
  text_marked n last (next r s i) =
      let a = marked_length s (breaks_of r) ∙ text_marked n last r in
      let b = item_marked n (last_items last r) i in
      rw (length-append, length-append) (omega arith)

pub seams_hold : Seams
unfolding number_written marks_of
seams_hold =
    record {
      number_written_lem = λ n at. digits_written n n at (omega arith);
      measure_marked = text_marked;
      colon_marked = refl;
      last_pass_marked = refl;
      every_pass_marked = refl;
    }
