-- The returns of the functions on lines, kind by kind.
use Prim.Native.Nat.{ℕ}
use mathlib.Core.Path.{◌≡◌, refl, sym, ap, ◌∙◌}
use mathlib.Core.List.{List}
use mathlib.Core.Bool.{true, false}
use Rattle.songcode.specs.Lists.{when}
use Rattle.songcode.specs.Bytes.{placed}
use Rattle.songcode.specs.Answer.Lines.{Line}
use Rattle.songcode.specs.Complaints.{complain_if}
use Rattle.songcode.specs.Answer.Sections as sections
use Rattle.songcode.specs.Answer.Sections.{key_line, modifier_line, pattern_line, kind_of, kind_of_line, key_name_of, modifier_name_of, setting_of, key_said}
use Rattle.songcode.specs.Answer.Sections.{modifier_said, key_faults, modifier_faults, faults}
use Rattle.songcode.specs.Answer.SongText.{metadata_fault}
use Rattle.text.specs.Spans.{part}
use Rattle.settings.specs.Kinds.{kind_is}
use Rattle.settings.specs.Names.{key_is, modifier_is}
use Rattle.settings.specs.declared.kinds.Kind.{Kind}
use Rattle.settings.specs.declared.kinds.Kind.TheVariants.{Key, Modifier, Pattern}
use Rattle.settings.proofs.ValueLaws.{kind_of_placeless}
use Rattle.settings.proofs.OfLineLaws.{line_from}
use Rattle.refusals.specs.Ranks.{least}
use Rattle.refusals.specs.Ranks as ranks
use Rattle.stage2.specs.States.{key_of, modifier_of}
use Rattle.stage2.specs.LineNotes.{key_number, modifier_number, key_note, modifier_note}
use Rattle.stage2.proofs.NoteLaws.{allowed_by, key_note_lem, key_number_lem, modifier_note_lem, modifier_number_lem}
use Rattle.songcode.proofs.ChoiceLaws.{zero_is_not_one}

-- The kind of a line.
pub kind_found : (n : ℕ) (s : List ℕ) (a e : ℕ) (r : Kind) → r ≡ kind_is (kind_of (placed 0 (part a e s))) → r ≡ kind_is (kind_of_line (line_from n s a e))
unfolding kind_of_line
kind_found n s a e r h = h ∙ ap kind_is (sym (kind_of_placeless a (part a e s)))

pub is_key_lem : (k : sections.Kind) → Key ≡ kind_is k → k ≡ key_line
unfolding kind_is
is_key_lem key_line e = refl
is_key_lem modifier_line e = zero_is_not_one (cc)
is_key_lem pattern_line e = zero_is_not_one (cc)

pub is_modifier : (k : sections.Kind) → Modifier ≡ kind_is k → k ≡ modifier_line
unfolding kind_is
is_modifier key_line e = zero_is_not_one (cc)
is_modifier modifier_line e = refl
is_modifier pattern_line e = zero_is_not_one (cc)

pub is_pattern : (k : sections.Kind) → Pattern ≡ kind_is k → k ≡ pattern_line
unfolding kind_is
is_pattern key_line e = zero_is_not_one (cc)
is_pattern modifier_line e = zero_is_not_one (cc)
is_pattern pattern_line e = refl

module _ (l : Line) where
  -- What a line says, by its kind.
  pub key_of_lem : kind_of_line l ≡ key_line → key_of l ≡ key_number (key_is (key_name_of l))
  unfolding key_said
  key_of_lem e = rw (e, key_said) (sym (key_number_lem (key_name_of l)))

  pub modifier_of_lem : kind_of_line l ≡ modifier_line → modifier_of l ≡ modifier_number (modifier_is (modifier_name_of l))
  unfolding modifier_said
  modifier_of_lem e = rw (e, modifier_said) (sym (modifier_number_lem (modifier_name_of l)))

  pub modifier_no_key : kind_of_line l ≡ modifier_line → key_of l ≡ 8
  unfolding key_said
  modifier_no_key e = rw (e, key_said)

  pub pattern_no_key : kind_of_line l ≡ pattern_line → key_of l ≡ 8
  unfolding key_said
  pattern_no_key e = rw (e, key_said)

  pub key_no_modifier : kind_of_line l ≡ key_line → modifier_of l ≡ 8
  unfolding modifier_said
  key_no_modifier e = rw (e, modifier_said)

  pub pattern_no_modifier : kind_of_line l ≡ pattern_line → modifier_of l ≡ 8
  unfolding modifier_said
  pattern_no_modifier e = rw (e, modifier_said)

  -- Its own faults.
  pub key_in_metadata : kind_of_line l ≡ key_line → least (metadata_fault l) ≡ key_note false (key_is (key_name_of l)) (setting_of l) l.number
  unfolding metadata_fault key_faults allowed_by
  key_in_metadata e = rw (e, metadata_fault) (key_note_lem false (key_name_of l) l)

  pub modifier_in_metadata : kind_of_line l ≡ modifier_line → least (metadata_fault l) ≡ least (complain_if true 8 l.number)
  unfolding metadata_fault complain_if when
  modifier_in_metadata e = rw (e, metadata_fault)

  pub pattern_in_metadata : kind_of_line l ≡ pattern_line → least (metadata_fault l) ≡ least (complain_if true 8 l.number)
  unfolding metadata_fault complain_if when
  pattern_in_metadata e = rw (e, metadata_fault)

  pub key_in_section : kind_of_line l ≡ key_line → least (faults l) ≡ key_note true (key_is (key_name_of l)) (setting_of l) l.number
  unfolding faults key_faults allowed_by
  key_in_section e = rw (e, faults) (key_note_lem true (key_name_of l) l)

  pub modifier_in_section : kind_of_line l ≡ modifier_line → least (faults l) ≡ modifier_note (modifier_is (modifier_name_of l)) (setting_of l) l.number
  unfolding faults modifier_faults
  modifier_in_section e = rw (e, faults) (modifier_note_lem (modifier_name_of l) l)

  pub pattern_in_section : kind_of_line l ≡ pattern_line → least (faults l) ≡ ranks.none
  unfolding faults least
  pattern_in_section e = rw (e, faults)
