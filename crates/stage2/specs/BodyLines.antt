-- The lines between a section's header and its `--`, kind by kind, as the code judges them.
use Rattle.std.specs.Prelude.{ℕ, min, List, Bool, true, false}
use Rattle.songcode.specs.Answer.Lines.{Line}
use Rattle.songcode.specs.Complaints.{complain_if}
use Rattle.songcode.specs.Answer.Sections.{key_name_of, modifier_name_of, setting_of}
use Rattle.settings.specs.Names.{key_is, modifier_is}
use Rattle.stage2.specs.declared.states.Part.{Part}
use Rattle.stage2.specs.declared.states.Place.TheVariants.{Body}
use Rattle.stage2.specs.declared.states.State.{State}
use Rattle.stage2.specs.declared.states.Judged.{Judged}
use Rattle.refusals.specs.Ranks.{least}
use Rattle.stage2.specs.Places.{past_keys, before_pattern, past_pattern, after_key, after_modifier, after_pattern}
use Rattle.stage2.specs.Walk.{pattern_pending}
use Rattle.stage2.specs.States.{again, marked, state_at, judged}
use Rattle.stage2.specs.LineNotes.{key_number, modifier_number, key_note, modifier_note}

-- A key line of metadata.
unfoldable pub key_alone : List Bool → Line → ℕ
key_alone marks l =
    let k = key_is (key_name_of l) in
    min (again 4 (key_number k) marks l.number) (key_note false k (setting_of l) l.number)

unfoldable pub on_key : Part → State → Line → Judged
on_key p c l =
    let k = key_is (key_name_of l) in
    judged
    (min (min (least (complain_if (past_keys p) 4 l.number)) (again 4 (key_number k) c.keys l.number)) (key_note true k (setting_of l) l.number))
    (state_at (Body (after_key p)) c.carried (marked (key_number k) c.keys) c.modifiers c.pending)

unfoldable pub on_modifier : Part → State → Line → Judged
on_modifier p c l =
    let m = modifier_is (modifier_name_of l) in
    judged
    (min (min (least (complain_if (before_pattern p) 8 l.number)) (again 8 (modifier_number m) c.modifiers l.number))
    (modifier_note m (setting_of l) l.number))
    (state_at (Body (after_modifier p)) c.carried c.keys (marked (modifier_number m) c.modifiers) c.pending)

unfoldable pub on_pattern : Part → State → Line → Judged
on_pattern p c l =
    judged
    (least (complain_if (past_pattern p) 8 l.number))
    (state_at (Body (after_pattern p)) c.carried c.keys c.modifiers (pattern_pending p l c.pending))
