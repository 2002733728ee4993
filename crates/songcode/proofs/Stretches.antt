-- A text that stands in a file: one stretch of it, byte for byte, at the places that its bytes carry.
use Prim.Native.Nat.{ℕ, suc, ◌+◌, ◌≤◌}
use mathlib.Core.Path.{◌≡◌, refl, ap, sym, ◌∙◌}
use mathlib.Core.List.{List, [], ◌∷◌, ◌++◌, append_assoc, append-nil, head-eq_of_cons-eq, tail-eq_of_cons-eq}
use native.Mathlib.Omega.{arith}
use lib.ListN.{length, take, drop, length-append}
use lib.Seq.{drop_at, take-append_seam}
use Rattle.songcode.specs.Bytes.{Byte, placed, values}
use Rattle.songcode.specs.Answer.Tables.{offset}
use Rattle.songcode.proofs.ListLaws.{nil_is_not_cons}
use Rattle.songcode.proofs.ByteLaws.{values_placed, values_append, length_values, length_placed}

pub record Stands (file text : List Byte) : Type 0 where
  pub front : List Byte
  pub rest : List Byte
  pub written : file ≡ front ++ (text ++ rest)

pub stands_itself : (file : List Byte) → Stands file file
stands_itself file = record { front = []; rest = []; written = sym (append-nil file) }

pub stands_parts : {file : List Byte} (a b : List Byte) → Stands file (a ++ b) → Stands file a × Stands file b
stands_parts a b s =
    let e = s.written ∙ ap (λ r. s.front ++ r) (append_assoc a b s.rest) in (
      record { front = s.front; rest = b ++ s.rest; written = e },
      record { front = s.front ++ a; rest = s.rest; written = e ∙ sym (append_assoc s.front a (b ++ s.rest)) },
    )

pub stands_more : {file : List Byte} (b : Byte) (a : List Byte) → Stands file (b ∷ a) → Stands file a
stands_more b a s = (stands_parts (b ∷ []) a s).1

-- A byte of a file carries its place.
place_of : (at : ℕ) (bs : List ℕ) (front : List Byte) (b : Byte) (rest : List Byte) → placed at bs ≡ front ++ (b ∷ rest) → b.place ≡ at + length front
unfolding placed
place_of at [] [] b rest e = nil_is_not_cons e
place_of at [] (x ∷ front) b rest e = nil_is_not_cons e
place_of at (v ∷ bs) [] b rest e =
    let p : ◌≡◌ {A = Byte} (record { place = at; value = v }) b = head-eq_of_cons-eq e in ap (λ (x : Byte). x.place) (sym p) ∙ plus_nothing
  where
    plus_nothing : at ≡ at + 0
    plus_nothing = omega arith
place_of at (v ∷ bs) (x ∷ front) b rest e =
    let h = place_of (suc at) bs front b rest (tail-eq_of_cons-eq e) in
    let k : suc at + length front ≡ at + suc (length front) = omega arith in
    h ∙ k

module _ (bs : List ℕ) where
  pub written_out : (text front rest : List Byte) → placed 0 bs ≡ front ++ (text ++ rest) → bs ≡ values front ++ (values text ++ values rest)
  written_out text front rest e =
      sym (values_placed 0 bs) ∙ ap (λ x. values x) e ∙ values_append front (text ++ rest) ∙ ap (λ x. values front ++ x) (values_append text rest)

  -- The bytes at a text's place are its values.
  pub stretch_of_lem : (text : List Byte) → Stands (placed 0 bs) text → take (length text) (drop (offset text) bs) ≡ values text
  unfolding offset values
  stretch_of_lem [] s = refl
  stretch_of_lem (b ∷ text) s =
      let front = s.front in
      let rest = s.rest in
      let e = s.written in
      let p = place_of 0 bs front b (text ++ rest) e in
      let l = length_values front in
      let w = written_out (b ∷ text) front rest e in
      let d : drop b.place bs ≡ values (b ∷ text) ++ values rest =
      ap (λ x. drop b.place x) w ∙ drop_at (values front) (values (b ∷ text) ++ values rest) b.place (omega arith) in
      ap (λ x. take (length (b ∷ text)) x) d ∙ ap (λ n. take n (values (b ∷ text) ++ values rest)) (sym (length_values (b ∷ text)))
      ∙ take-append_seam (values (b ∷ text)) (values rest)

  -- Its place and its length end within the file.
  pub stands_within : (text : List Byte) → Stands (placed 0 bs) text → offset text + length text ≤ length bs
  unfolding offset
  stands_within [] s = omega arith
  stands_within (b ∷ text) s =
      let front = s.front in
      let rest = s.rest in
      let e = s.written in
      let p = place_of 0 bs front b (text ++ rest) e in
      let n : length bs ≡ length front + (suc (length text) + length rest) = sym (length_placed 0 bs) ∙ ap length e ∙ rw (length-append, length-append) refl in
      omega arith
