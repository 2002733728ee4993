-- The returns of the functions on names and settings.
use Prim.Native.Nat.{ℕ, ◌+◌, min}
use mathlib.Core.Path.{◌≡◌, sym, ap, ◌∙◌}
use mathlib.Core.List.{List}
use mathlib.Core.Bool.{Bool, true, not}
use Rattle.std.specs.Prelude as std
use Rattle.songcode.specs.Bytes.{Byte, placed}
use Rattle.songcode.specs.Answer.Keys.{name_in, setting_in, key_named}
use Rattle.songcode.specs.Answer.Modifiers.{modifier_named}
use Rattle.songcode.specs.Song as song
use Rattle.songcode.specs.Complaints.{complain_if}
use Rattle.songcode.specs.Answer.Sections.{key_name_of, modifier_name_of, setting_of}
use Rattle.text.specs.Spans.{part}
use Rattle.settings.specs.Names.{key_is, modifier_is}
use Rattle.settings.specs.KeySettings.{is_setting_of}
use Rattle.settings.specs.declared.keys.KeyName.{KeyName}
use Rattle.settings.specs.declared.keys.KeyName.TheVariants.{Name, Artist, Original, Capo, Bpm, Time, Warning, End}
use Rattle.settings.specs.declared.modifiers.ModifierName.{ModifierName}
use Rattle.settings.proofs.PlaceLaws.{Placeless}
use Rattle.settings.proofs.ValueLaws.{is_setting_placeless}
use Rattle.settings.proofs.OfLineLaws.{line_from, key_name_of_line, modifier_name_of_line, setting_of_line}
use Rattle.refusals.specs.Ranks.{least}
use Rattle.stage2.specs.LineNotes.{allowed_in, key_note}

module _ (n : ℕ) (s : List ℕ) (a e q : ℕ) where
  pub key_found : (r : std.Option KeyName) → name_in (placed (a + 1) (part (a + 1) e s)) ≡ placed (a + 1) (part (a + 1) q s)
      → r ≡ key_is (key_named (placed 0 (part (a + 1) q s))) → r ≡ key_is (key_name_of (line_from n s a e))
  key_found r h g = g ∙ ap key_is (sym (key_name_of_line n s a e q h))

  pub modifier_found : (r : std.Option ModifierName) → name_in (placed (a + 1) (part (a + 1) e s)) ≡ placed (a + 1) (part (a + 1) q s)
      → r ≡ modifier_is (modifier_named (placed 0 (part (a + 1) q s))) → r ≡ modifier_is (modifier_name_of (line_from n s a e))
  modifier_found r h g = g ∙ ap modifier_is (sym (modifier_name_of_line n s a e q h))

setting_placeless : (k : KeyName) → Placeless (is_setting_of k)
unfolding is_setting_of
setting_placeless Name a w = is_setting_placeless song.name a w
setting_placeless Artist a w = is_setting_placeless song.artist a w
setting_placeless Original a w = is_setting_placeless song.original a w
setting_placeless Capo a w = is_setting_placeless song.capo a w
setting_placeless Bpm a w = is_setting_placeless song.bpm a w
setting_placeless Time a w = is_setting_placeless song.time a w
setting_placeless Warning a w = is_setting_placeless song.warning a w
setting_placeless End a w = is_setting_placeless song.end a w

pub key_noted : (n : ℕ) (s : List ℕ) (a e q : ℕ) (section : Bool) {o : std.Option KeyName} (k : KeyName) (allowed good : Bool) (four five r : ℕ)
    → o ≡ std.Some k
    → setting_in (placed (a + 1) (part (a + 1) e s)) ≡ placed q (part q e s)
    → allowed ≡ allowed_in section k → four ≡ least (complain_if (not allowed) 4 n) → good ≡ is_setting_of k (placed 0 (part q e s))
    → five ≡ least (complain_if (not good) 5 n) → r ≡ min four five
    → r ≡ key_note section o (setting_of (line_from n s a e)) n
unfolding key_note
key_noted n s a e q section k allowed good four five r is h x f y g z =
    let same : good ≡ is_setting_of k (setting_of (line_from n s a e)) = y
    ∙ (sym (setting_placeless k q (part q e s)) ∙ ap (is_setting_of k) (sym (setting_of_line n s a e q h))) in
    rw (is, ← same, ← x, ← f, ← g) z

pub key_unknown : (section : Bool) {o : std.Option KeyName} (bs : List Byte) (n r : ℕ) → o ≡ std.None → r ≡ least (complain_if true 4 n)
    → r ≡ key_note section o bs n
unfolding key_note
key_unknown section bs n r is z = rw is z
