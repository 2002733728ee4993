-- Where a line stands between a section's header and its `--`, as the walk keeps it: among keys, behind a modifier that is early, in the pattern, behind it.
use Rattle.std.specs.Prelude.{List, [], ◌∷◌, ◌++◌, Bool, true, false}
use Rattle.songcode.specs.Answer.Lines.{Line}
use Rattle.songcode.specs.Complaints.{Complaint, complain_if}
use Rattle.songcode.specs.Answer.Sections.{Kind, key_line, modifier_line, pattern_line, kind_of_line}
use Rattle.stage2.specs.declared.states.Part.{Part}
use Rattle.stage2.specs.declared.states.Part.TheVariants.{Keys, Early, Pattern, Behind}

-- What is out of place where: a key anywhere but among keys, a modifier before the pattern, a pattern line past its run.
abbrev pub past_keys : Part → Bool
past_keys Keys = false
past_keys Early = true
past_keys Pattern = true
past_keys Behind = true

abbrev pub before_pattern : Part → Bool
before_pattern Keys = true
before_pattern Early = true
before_pattern Pattern = false
before_pattern Behind = false

abbrev pub past_pattern : Part → Bool
past_pattern Keys = false
past_pattern Early = false
past_pattern Pattern = false
past_pattern Behind = true

-- Where the next line stands.
abbrev pub after_key : Part → Part
after_key Keys = Keys
after_key Early = Early
after_key Pattern = Behind
after_key Behind = Behind

abbrev pub after_modifier : Part → Part
after_modifier Keys = Early
after_modifier Early = Early
after_modifier Pattern = Behind
after_modifier Behind = Behind

abbrev pub after_pattern : Part → Part
after_pattern Keys = Pattern
after_pattern Early = Pattern
after_pattern Pattern = Pattern
after_pattern Behind = Behind

unfoldable pub part_after : Kind → Part → Part
part_after key_line p = after_key p
part_after modifier_line p = after_modifier p
part_after pattern_line p = after_pattern p

-- A line out of place, and the lines from there on.
unfoldable pub misplaced_at : Kind → Part → Line → List Complaint
misplaced_at key_line p l = complain_if (past_keys p) 4 l.number
misplaced_at modifier_line p l = complain_if (before_pattern p) 8 l.number
misplaced_at pattern_line p l = complain_if (past_pattern p) 8 l.number

unfoldable pub order_at : Part → List Line → List Complaint
unfolding misplaced_at part_after
order_at p [] = []
order_at p (l ∷ ls) = misplaced_at (kind_of_line l) p l ++ order_at (part_after (kind_of_line l) p) ls
