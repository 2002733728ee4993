-- Texts of whole characters: a part of one has at most three bytes more than four times its characters.
use Prim.Native.Nat.{ℕ, ◌+◌, ◌-◌, ◌*◌, ◌≤◌}
use mathlib.Core.Path.{◌≡◌, sym, ap, ◌∙◌, subst}
use mathlib.Core.List.{List, [], ◌∷◌, ◌++◌}
use native.Mathlib.Omega.{arith}
use lib.Dec.{ltb}
use lib.ListN.{length, take, drop, take-append-drop}
use borrow.Author.Tests.{le-ltb, ltb-false}
use Rattle.songcode.specs.Lists.{provided◌then◌else◌}
use Rattle.songcode.specs.Bytes.{Byte, placed}
use Rattle.songcode.specs.Answer.Characters.{is_tail, good_bytes, characters}
use Rattle.songcode.specs.Answer.Answer.{most_bytes, input_faults}
use Rattle.songcode.proofs.ListLaws.{by_cases, complain_if_nil}
use Rattle.songcode.proofs.CharactersAgree.{good_bytes_le}
use Rattle.songcode.proofs.CharacterBytes.{stretch_short}
use Rattle.text.specs.Spans.{part}

pub characters_le : (bs : List Byte) → characters bs ≤ length bs
unfolding characters provided◌then◌else◌
characters_le [] = omega arith
characters_le (b ∷ bs) =
    let h = characters_le bs in
    by_cases (is_tail b.value) (λ e. rw e (omega arith)) (λ e. rw e (omega arith))

pub part_short : (s : List ℕ) (a e : ℕ) → good_bytes 0 s ≡ length s → length (part a e s) ≤ 3 + 4 * characters (placed a (part a e s))
part_short s a e g =
    let rest = drop (e - a) (drop a s) in
    let w : take a s ++ (part a e s ++ rest) ≡ s = ap (λ x. take a s ++ x) (take-append-drop (e - a) (drop a s)) ∙ take-append-drop a s in
    stretch_short (take a s) (part a e s) rest a (subst (λ (bs : List ℕ). good_bytes 0 bs ≡ length bs) (sym w) g)

-- A text of which stage 1 does not complain.
pub input_good : (s : List ℕ) → length s ≤ 65536 → input_faults s ≡ [] → good_bytes 0 s ≡ length s
unfolding input_faults most_bytes provided◌then◌else◌
input_good s h e =
    let g = good_bytes_le 0 s in
    let bad = ltb-false (good_bytes 0 s) (length s) (complain_if_nil (ltb (good_bytes 0 s) (length s)) 2 _ (rw (le-ltb 65536 (length s) h) at e)) in
    omega arith
