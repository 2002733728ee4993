-- The characters of a text, byte by byte.
use Prim.Native.Nat.{ℕ, suc}
use mathlib.Core.Path.{◌≡◌, refl, sym, ap, ◌∙◌}
use mathlib.Core.List.{List, [], ◌∷◌}
use mathlib.Core.Bool.{not}
use Rattle.std.specs.List.{filter, count_by}
use Rattle.std.proofs.lemmas.List.Sums.{length-filter}
use Rattle.songcode.proofs.ListLaws.{by_cases}
use lib.ListN.{length, take}
use Rattle.songcode.specs.Lists.{provided◌then◌else◌}
use Rattle.songcode.specs.Bytes.{placed}
use Rattle.songcode.specs.Answer.Characters.{is_tail, characters}
use Rattle.settings.specs.Parts.{length_before}
use Rattle.settings.specs.Phrases.{name_characters}
use Rattle.settings.proofs.PartLaws.{taken_placed}
use Rattle.settings.proofs.PlaceLaws.{not_byte_values, characters_placeless}

-- The bytes that are no tails, counted.
pub characters_counted : (w : List ℕ) → length (filter (λ b. not (is_tail b)) w) ≡ characters (placed 0 w)
unfolding characters placed provided◌then◌else◌
characters_counted [] = refl
characters_counted (b ∷ w) =
    let more = characters_counted w ∙ sym (characters_placeless 1 w) in
    by_cases (is_tail b) (λ e. rw e more) (λ e. rw e (ap suc more))

pub no_tails_counted : (w : List ℕ) → count_by (λ b. not (is_tail b)) w ≡ characters (placed 0 w)
no_tails_counted w = sym (length-filter (λ b. not (is_tail b)) w) ∙ characters_counted w

pub name_characters_lem : (w : List ℕ) (q n : ℕ) → q ≡ length_before 33 w → n ≡ characters (placed 0 (take q w)) → n ≡ name_characters (placed 0 w)
unfolding name_characters
name_characters_lem w q n e h = h ∙ rw e (sym (ap characters (taken_placed _ _ (not_byte_values 33) 0 w)))
