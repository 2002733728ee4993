-- The returns of the functions on modifiers: their settings, and what is noted of them.
use Prim.Native.Nat.{ℕ, ◌+◌}
use mathlib.Core.Path.{◌≡◌, refl, ap, ◌∙◌}
use mathlib.Core.List.{List}
use mathlib.Core.Bool.{Bool, true, not}
use mathlib.Core.Option.{Option, none, some}
use Rattle.songcode.specs.Lists.{is_some}
use Rattle.songcode.specs.Bytes.{placed}
use Rattle.songcode.specs.Answer.Lines.{Line}
use Rattle.songcode.specs.Answer.Numbers.{repeat_in}
use Rattle.songcode.specs.Answer.Keys.{setting_in}
use Rattle.songcode.specs.Answer.Modifiers.{cut_in}
use Rattle.songcode.specs.Answer.PatternText.{side_text}
use Rattle.songcode.specs.Complaints.{complain_if}
use Rattle.songcode.specs.Answer.Sections.{setting_of}
use Rattle.tokens.specs.Decimals.{number_of}
use Rattle.std.specs.Prelude as std
use Rattle.text.specs.Spans.{part}
use Rattle.settings.specs.Cuts.{cut_is}
use Rattle.std.specs.Prelude as std
use Rattle.cuts.specs.declared.Cut.{Cut}
use Rattle.settings.specs.declared.modifiers.ModifierName.{ModifierName}
use Rattle.settings.specs.declared.modifiers.ModifierName.TheVariants.{Repeat, CutStart, CutEnd, Before, After}
use Rattle.settings.proofs.NumberLaws.{repeat_in_placeless}
use Rattle.settings.proofs.CutLaws.{cut_in_placeless}
use Rattle.settings.proofs.OfLineLaws.{line_from, setting_of_line}
use Rattle.refusals.specs.Ranks.{least}
use Rattle.settings.proofs.ReadLaws.{cut_there}
use Rattle.stage2.specs.LineNotes.{setting_fine, setting_number, modifier_note}

number_there : (o : Option ℕ) → std.is_some (number_of o) ≡ is_some o
unfolding number_of is_some
number_there none = refl
number_there (some n) = refl

module _ (n : ℕ) (s : List ℕ) (a e q : ℕ) (m : ModifierName) (h : setting_in (placed (a + 1) (part (a + 1) e s)) ≡ placed q (part q e s)) where
  abbrev Fine : Bool → Type 0
  Fine b = b ≡ setting_fine m (setting_of (line_from n s a e))

  pub repeat_fine : (b : Bool) (x : std.Option ℕ) → m ≡ Repeat → x ≡ number_of (repeat_in (placed 0 (part q e s))) → b ≡ std.is_some x → Fine b
  unfolding setting_fine
  repeat_fine b x t g z =
      rw (t, setting_of_line n s a e q h, repeat_in_placeless q (part q e s)) (z ∙ (ap std.is_some g ∙ number_there (repeat_in (placed 0 (part q e s)))))

  cut_read_lem : (b : Bool) (x : std.Option Cut) → x ≡ cut_is (cut_in (placed 0 (part q e s))) → b ≡ std.is_some x
      → b ≡ is_some (cut_in (setting_of (line_from n s a e)))
  cut_read_lem b x g z =
      rw (setting_of_line n s a e q h, cut_in_placeless q (part q e s)) (z ∙ (ap std.is_some g ∙ cut_there (cut_in (placed 0 (part q e s)))))

  pub cut_start_fine : (b : Bool) (x : std.Option Cut) → m ≡ CutStart → x ≡ cut_is (cut_in (placed 0 (part q e s))) → b ≡ std.is_some x → Fine b
  unfolding setting_fine
  cut_start_fine b x t g z = rw t (cut_read_lem b x g z)

  pub cut_end_fine : (b : Bool) (x : std.Option Cut) → m ≡ CutEnd → x ≡ cut_is (cut_in (placed 0 (part q e s))) → b ≡ std.is_some x → Fine b
  unfolding setting_fine
  cut_end_fine b x t g z = rw t (cut_read_lem b x g z)

  pub before_fine : (b : Bool) → m ≡ Before → b ≡ is_some (side_text (placed q (part q e s))) → Fine b
  unfolding setting_fine
  before_fine b t z = rw (t, setting_of_line n s a e q h) z

  pub after_fine : (b : Bool) → m ≡ After → b ≡ is_some (side_text (placed q (part q e s))) → Fine b
  unfolding setting_fine
  after_fine b t z = rw (t, setting_of_line n s a e q h) z

pub modifier_noted : (l : Line) {o : std.Option ModifierName} (m : ModifierName) (fine : Bool) (number r : ℕ) → o ≡ std.Some m
    → fine ≡ setting_fine m (setting_of l) → number ≡ setting_number m → r ≡ least (complain_if (not fine) number l.number)
    → r ≡ modifier_note o (setting_of l) l.number
unfolding modifier_note
modifier_noted l m fine number r is a b d = rw (is, ← a, ← b) d

pub modifier_unknown : (l : Line) {o : std.Option ModifierName} (r : ℕ) → o ≡ std.None → r ≡ least (complain_if true 8 l.number)
    → r ≡ modifier_note o (setting_of l) l.number
unfolding modifier_note
modifier_unknown l r is d = rw is d
