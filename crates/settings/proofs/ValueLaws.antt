-- The readings of a line that look at its values alone: the same wherever the line stands.
use Prim.Native.String.{String}
use mathlib.Core.Path.{sym, ap, ◌∙◌}
use Rattle.songcode.specs.Lists.{is_some}
use Rattle.songcode.specs.Bytes.{placed, is}
use Rattle.songcode.specs.Answer.Chords.{is_base}
use Rattle.songcode.specs.Song.{KeyName, name, artist, original, capo, bpm, time, warning, end}
use Rattle.songcode.specs.Answer.Keys.{key_named, bpm_in, time_in, is_setting}
use Rattle.songcode.specs.Answer.Modifiers.{modifier_named}
use Rattle.songcode.specs.Answer.Numbers.{number_in}
use Rattle.songcode.specs.Answer.Sections.{kind_of}
use Rattle.songcode.specs.Answer.SongText.{kind_of_text}
use Rattle.songcode.proofs.ByteLaws.{values_placed}
use Rattle.settings.proofs.PlaceLaws.{Placeless, not_byte_values, taken_placeless, left_placeless, is_phrase_placeless}
use Rattle.settings.proofs.KindLaws.{kind_by_lem, block_kind_by_lem}
use Rattle.settings.proofs.NameLaws.{key_by_lem, modifier_by_lem}
use Rattle.settings.proofs.NumberLaws.{number_in_placeless}

pub kind_of_placeless : Placeless kind_of
kind_of_placeless a w = kind_by_lem a w ∙ sym (kind_by_lem 0 w)

pub kind_of_text_placeless : Placeless kind_of_text
kind_of_text_placeless a w = block_kind_by_lem a w ∙ sym (block_kind_by_lem 0 w)

pub is_placeless : (word : String) → Placeless (is word)
unfolding is
is_placeless word a w = rw (values_placed a w, values_placed 0 w)

pub key_named_placeless : Placeless key_named
key_named_placeless a w =
    key_by_lem (placed a w)
    ∙ rw (
      is_placeless "name" a w,
      is_placeless "artist" a w,
      is_placeless "original" a w,
      is_placeless "capo" a w,
      is_placeless "bpm" a w,
      is_placeless "time" a w,
      is_placeless "warning" a w,
      is_placeless "end" a w,
    )
    (sym (key_by_lem (placed 0 w)))

pub modifier_named_placeless : Placeless modifier_named
modifier_named_placeless a w =
    modifier_by_lem (placed a w)
    ∙ rw (is_placeless "repeat" a w, is_placeless "cutStart" a w, is_placeless "cutEnd" a w, is_placeless "before" a w, is_placeless "after" a w)
    (sym (modifier_by_lem (placed 0 w)))

pub is_base_placeless : Placeless is_base
unfolding is_base
is_base_placeless a w = rw (values_placed a w, values_placed 0 w)

pub bpm_in_placeless : Placeless bpm_in
unfolding bpm_in
bpm_in_placeless a w = number_in_placeless 0 400 a w

pub time_in_placeless : Placeless time_in
unfolding time_in
time_in_placeless a w =
    rw (
      left_placeless (is "/4") (is_placeless "/4") _ _ (not_byte_values 47) a w,
      taken_placeless (number_in 1 32) (number_in_placeless 1 32) _ _
          (not_byte_values 47) a w,
    )

pub is_setting_placeless : (k : KeyName) → Placeless (is_setting k)
unfolding is_setting
is_setting_placeless name a w = is_phrase_placeless a w
is_setting_placeless artist a w = is_phrase_placeless a w
is_setting_placeless original a w = is_base_placeless a w
is_setting_placeless capo a w = ap is_some (number_in_placeless 1 20 a w)
is_setting_placeless bpm a w = ap is_some (bpm_in_placeless a w)
is_setting_placeless time a w = ap is_some (time_in_placeless a w)
is_setting_placeless warning a w = is_phrase_placeless a w
is_setting_placeless end a w = is_phrase_placeless a w
