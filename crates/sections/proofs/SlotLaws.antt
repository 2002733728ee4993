-- The number of the setting that a line says, the setting at its places, and the first setting among lines, line by line.
use Prim.Native.Nat.{ℕ, zero, suc, ◌+◌, ◌-◌, ◌<◌, ◌≤◌}
use mathlib.Core.Path.{◌≡◌, refl, ap, ◌∙◌}
use mathlib.Core.List.{List, [], ◌∷◌}
use mathlib.Core.Option.{Option, none, some}
use Rattle.std.specs.Prelude as std
use native.Mathlib.Omega.{arith}
use borrow.Author.Tests.{eq-eqb, ne_eqb}
use lib.ListN.{length, take}
use Rattle.songcode.specs.Lists.{provided◌then◌else◌}
use Rattle.songcode.specs.Bytes.{placed}
use Rattle.songcode.specs.Song as song
use Rattle.songcode.specs.Answer.Keys.{name_in, setting_in, key_named, key_place}
use Rattle.songcode.specs.Answer.Modifiers as modifiers
use Rattle.songcode.specs.Answer.Modifiers.{modifier_named, modifier_place}
use Rattle.songcode.specs.Answer.Sections.{kind_of, key_line, modifier_line, pattern_line, kind_of_line, key_name_of, modifier_name_of, setting_of}
use Rattle.songcode.specs.Answer.Lines.{Line}
use Rattle.text.specs.declared.lines.Line as text
use Rattle.text.specs.Spans.{part, Found}
use Rattle.settings.specs.declared.keys.KeyName.{KeyName}
use Rattle.settings.specs.declared.modifiers.ModifierName.{ModifierName}
use Rattle.settings.specs.Names.{key_is, modifier_is}
use Rattle.settings.proofs.ValueLaws.{kind_of_placeless}
use Rattle.settings.proofs.OfLineLaws.{line_from, key_name_of_line, modifier_name_of_line, setting_of_line}
use Rattle.sections.specs.declared.slots.Said.{Said}
use Rattle.sections.specs.Runs.{text_lines}
use Rattle.sections.specs.Slots.{key_number, modifier_number, number_or, slot_by, slot_of, setting_among, setting_at}
use Rattle.sections.proofs.RunLaws.{lines_found, lines_over}

-- Names that were read have the numbers of the names that they are.
key_number_lem : (o : Option song.KeyName) (m : Option modifiers.ModifierName) → number_or key_number (key_is o) ≡ slot_by key_line o m
unfolding key_is slot_by key_place
key_number_lem none m = refl
key_number_lem (some song.name) m = refl
key_number_lem (some song.artist) m = refl
key_number_lem (some song.original) m = refl
key_number_lem (some song.capo) m = refl
key_number_lem (some song.bpm) m = refl
key_number_lem (some song.time) m = refl
key_number_lem (some song.warning) m = refl
key_number_lem (some song.end) m = refl

modifier_number_lem : (k : Option song.KeyName) (o : Option modifiers.ModifierName) → number_or modifier_number (modifier_is o) ≡ slot_by modifier_line k o
unfolding modifier_is slot_by modifier_place
modifier_number_lem k none = refl
modifier_number_lem k (some modifiers.of_repeat) = refl
modifier_number_lem k (some modifiers.of_cut_start) = refl
modifier_number_lem k (some modifiers.of_cut_end) = refl
modifier_number_lem k (some modifiers.of_before) = refl
modifier_number_lem k (some modifiers.of_after) = refl

module _ (n : ℕ) (s : List ℕ) (a e : ℕ) where
  kind_of_line_lem : kind_of_line (line_from n s a e) ≡ kind_of (placed 0 (part a e s))
  unfolding kind_of_line
  kind_of_line_lem = kind_of_placeless a (part a e s)

  pub slot_blank : a ≡ e → slot_of (line_from n s a e) ≡ 13
  unfolding slot_of slot_by kind_of_line kind_of placed
  slot_blank h = let z : e - a ≡ 0 = omega arith in rw z

  pub slot_pattern : kind_of (placed 0 (part a e s)) ≡ pattern_line → slot_of (line_from n s a e) ≡ 13
  unfolding slot_of slot_by
  slot_pattern h = rw (kind_of_line_lem, h)

  module _ (q : ℕ) (name : name_in (placed (a + 1) (part (a + 1) e s)) ≡ placed (a + 1) (part (a + 1) q s)) where
    pub slot_key : {k : std.Option KeyName} {r : ℕ} → kind_of (placed 0 (part a e s)) ≡ key_line → k ≡ key_is (key_named (placed 0 (part (a + 1) q s)))
        → r ≡ number_or key_number k → r ≡ slot_of (line_from n s a e)
    unfolding slot_of
    slot_key h i j =
        j ∙ ap (number_or key_number) i ∙ key_number_lem (key_named (placed 0 (part (a + 1) q s))) (modifier_name_of (line_from n s a e))
        ∙ rw (kind_of_line_lem, h, key_name_of_line n s a e q name)

    pub slot_modifier : {m : std.Option ModifierName} {r : ℕ} → kind_of (placed 0 (part a e s)) ≡ modifier_line
        → m ≡ modifier_is (modifier_named (placed 0 (part (a + 1) q s))) → r ≡ number_or modifier_number m
        → r ≡ slot_of (line_from n s a e)
    unfolding slot_of
    slot_modifier h i j =
        j ∙ ap (number_or modifier_number) i ∙ modifier_number_lem (key_name_of (line_from n s a e)) (modifier_named (placed 0 (part (a + 1) q s)))
        ∙ rw (kind_of_line_lem, h, modifier_name_of_line n s a e q name)

-- The setting at its places.
pub setting_none : (s : List ℕ) → setting_at s std.None ≡ none
unfolding setting_at
setting_none s = refl

pub setting_some : (s : List ℕ) (r : Said) → setting_at s (std.Some r) ≡ some (record { line = r.line; text = placed r.start (part r.start r.stop s) })
unfolding setting_at
setting_some s r = refl

-- The setting at the places of a line's setting.
pub says_line : (s : List ℕ) (n a e q : ℕ) → setting_in (placed (a + 1) (part (a + 1) e s)) ≡ placed q (part q e s)
    → setting_at s (std.Some (record { line = n; start = q; stop = e })) ≡ some (record { line = n; text = setting_of (line_from n s a e) })
says_line s n a e q setting =
    setting_some s (record { line = n; start = q; stop = e })
    ∙ rw (setting_of_line n s a e q setting)

-- The first setting of a number, where the first line says it, and where it does not.
module _ (slot : ℕ) {l : Line} {ls rest : List Line} (here : ls ≡ l ∷ rest) where
  pub among_here : slot_of l ≡ slot → setting_among slot ls ≡ some (record { line = l.number; text = setting_of l })
  unfolding setting_among provided◌then◌else◌
  among_here e = rw (here, eq-eqb _ _ e)

  pub among_later : (slot_of l ≡ slot → ⊥) → setting_among slot ls ≡ setting_among slot rest
  unfolding setting_among provided◌then◌else◌
  among_later e = rw (here, ne_eqb _ _ e)

pub among_none : (slot : ℕ) {ls : List Line} → ls ≡ [] → setting_among slot ls ≡ none
unfolding setting_among
among_none slot e = rw e

-- The lines of a run that are left: none, or the line at the place and those behind it.
module _ (s : List ℕ) (n at left : ℕ) where
  pub left_none : left ≡ 0 → take left (text_lines s n at) ≡ []
  left_none e = rw e

  pub left_over : length s ≤ at → take left (text_lines s n at) ≡ []
  left_over h = rw (lines_over s n at h) (nil left)
    where
      nil : (k : ℕ) → take {A = Line} k [] ≡ []
      nil zero = refl
      nil (suc k) = refl

  pub left_found : {l : text.Line} (k : ℕ) → left ≡ k + 1 → Found s n at l → at < length s
      → take left (text_lines s n at) ≡ line_from n s l.start l.stop ∷ take k (text_lines s (n + 1) l.next)
  left_found k more f h =
      let e : left ≡ suc k = omega arith in
      ap (λ (k : ℕ). take k (text_lines s n at)) e ∙ rw (lines_found f h, f.number)
