-- The name and the setting of a line whose text is a part of a text, by the places that the code finds behind its first byte.
use Prim.Native.Nat.{ℕ, ◌+◌}
use mathlib.Core.Path.{◌≡◌, refl, sym, ◌∙◌}
use mathlib.Core.List.{List, [], ◌∷◌}
use lib.ListN.{drop}
use Rattle.songcode.specs.Bytes.{Byte, placed}
use Rattle.songcode.specs.Answer.Lines.{Line}
use Rattle.songcode.specs.Answer.Keys.{name_in, setting_in, key_named}
use Rattle.songcode.specs.Answer.Modifiers.{modifier_named}
use Rattle.songcode.specs.Answer.Numbers.{count_in}
use Rattle.songcode.specs.Answer.Sections.{behind_first, name_of, setting_of, key_name_of, modifier_name_of}
use Rattle.songcode.specs.Answer.SongText.{head_in}
use Rattle.text.specs.Spans.{part}
use Rattle.settings.proofs.PartLaws.{part_back}
use Rattle.settings.proofs.PlaceLaws.{Placeless, drop_placed}
use Rattle.settings.proofs.NumberLaws.{count_behind_first}
use Rattle.settings.proofs.ValueLaws.{key_named_placeless, modifier_named_placeless}

behind_first_drop : (bs : List Byte) → behind_first bs ≡ drop 1 bs
unfolding behind_first
behind_first_drop [] = refl
behind_first_drop (b ∷ bs) = refl

pub behind_first_part : (s : List ℕ) (a e : ℕ) → behind_first (placed a (part a e s)) ≡ placed (a + 1) (part (a + 1) e s)
behind_first_part s a e = behind_first_drop (placed a (part a e s)) ∙ drop_placed 1 a (part a e s) ∙ rw (part_back s a e 1)

-- The line of a number whose text lies between two places.
abbrev pub line_from : ℕ → List ℕ → ℕ → ℕ → Line
line_from n s a e = record { number = n; text = placed a (part a e s) }

module _ (n : ℕ) (s : List ℕ) (a e q : ℕ) where
  pub name_of_line : name_in (placed (a + 1) (part (a + 1) e s)) ≡ placed (a + 1) (part (a + 1) q s)
      → name_of (line_from n s a e) ≡ placed (a + 1) (part (a + 1) q s)
  unfolding name_of
  name_of_line h = rw (behind_first_part s a e) h

  pub setting_of_line : setting_in (placed (a + 1) (part (a + 1) e s)) ≡ placed q (part q e s) → setting_of (line_from n s a e) ≡ placed q (part q e s)
  unfolding setting_of
  setting_of_line h = rw (behind_first_part s a e) h

  pub key_name_of_line : name_in (placed (a + 1) (part (a + 1) e s)) ≡ placed (a + 1) (part (a + 1) q s)
      → key_name_of (line_from n s a e) ≡ key_named (placed 0 (part (a + 1) q s))
  unfolding key_name_of
  key_name_of_line h = rw (name_of_line h) (key_named_placeless (a + 1) (part (a + 1) q s))

  pub modifier_name_of_line : name_in (placed (a + 1) (part (a + 1) e s)) ≡ placed (a + 1) (part (a + 1) q s)
      → modifier_name_of (line_from n s a e) ≡ modifier_named (placed 0 (part (a + 1) q s))
  unfolding modifier_name_of
  modifier_name_of_line h = rw (name_of_line h) (modifier_named_placeless (a + 1) (part (a + 1) q s))

-- The number of a definition's head, wherever it stands.
pub head_placeless : Placeless (λ bs. count_in (behind_first bs))
head_placeless a w = count_behind_first a w ∙ sym (count_behind_first 0 w)

pub head_of_line : (n : ℕ) (s : List ℕ) (a e : ℕ) → head_in (line_from n s a e) ≡ count_in (behind_first (placed 0 (part a e s)))
unfolding head_in
head_of_line n s a e = head_placeless a (part a e s)
