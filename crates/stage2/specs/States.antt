-- The walk by value: what the code keeps in place of lists, and how it judges a line.
use Rattle.std.proofs.Math.Option
use Rattle.std.specs.Prelude.{ℕ, ◌+◌, min, max, List, [], ◌∷◌, Bool, true, false, ltb, get_or, set}
use Rattle.songcode.specs.Lists.{provided◌then◌else◌, is_empty}
use Rattle.songcode.specs.Answer.Lines.{Line}
use Rattle.songcode.specs.Complaints.{complain_if}
use Rattle.songcode.specs.Answer.Sections.{kind_of_line, key_said, modifier_said, faults, header_faults, not_dashes}
use Rattle.songcode.specs.Answer.SongText.{BlockKind, metadata, definition, section, kind_of_text, metadata_fault}
use Rattle.grammar.specs.Checks.{first}
use Rattle.grammar.specs.Verdicts.{definition_fine, section_fine}
use Rattle.grammar.specs.declared.checks.Check.{Check}
use Rattle.stage2.specs.declared.states.Part.{Part}
use Rattle.stage2.specs.declared.states.Part.TheVariants.{Keys, Pattern}
use Rattle.stage2.specs.declared.states.Place.{Place}
use Rattle.stage2.specs.declared.states.Place.TheVariants.{Between, Metadata, Head, Definition, Body, Lyrics}
use Rattle.stage2.specs.declared.states.Carried.{Carried}
use Rattle.stage2.specs.declared.states.Pending.{Pending}
use Rattle.stage2.specs.declared.states.State.{State}
use Rattle.stage2.specs.declared.states.Judged.{Judged}
use Rattle.refusals.specs.Ranks.{ranked, no_section, none, least, only_if}
use Rattle.stage2.specs.Places.{part_after}
use Rattle.stage2.specs.Walk.{pending, nothing_pending, late, order_note, pattern_pending, pending_after, unless}

-- Eight marks for what was said; none yet. What is numbered 8 is nothing.
abbrev pub no_marks : List Bool
no_marks = false ∷ false ∷ false ∷ false ∷ false ∷ false ∷ false ∷ false ∷ []

-- Complained of where the mark is there already; the mark is put.
unfoldable pub again : ℕ → ℕ → List Bool → ℕ → ℕ
unfolding provided◌then◌else◌
again number k marks line = provided ltb k 8 then least (complain_if (get_or marks k false) number line) else none

unfoldable pub marked : ℕ → List Bool → List Bool
unfolding provided◌then◌else◌
marked k marks = provided ltb k 8 then set marks k true else marks

-- What a line says, 8 for nothing.
abbrev pub key_of : Line → ℕ
key_of l = Option.get_or (key_said l) 8

abbrev pub modifier_of : Line → ℕ
modifier_of l = Option.get_or (modifier_said l) 8

abbrev pub state_at : Place → Carried → List Bool → List Bool → Pending → State
state_at p k ks ms q = record { place = p; carried = k; keys = ks; modifiers = ms; pending = q }

abbrev pub block_state : Place → Carried → Pending → State
block_state p k q = state_at p k no_marks no_marks q

abbrev pub carried : ℕ → List Bool → ℕ → Carried
carried t ks n = record { turn = t; metadata = ks; count = n }

abbrev pub judged : ℕ → State → Judged
judged note state = record { note = note; state = state }

-- In a definition, its head behind.
abbrev pub in_definition : Place → Bool
in_definition Between = false
in_definition Metadata = false
in_definition Head = true
in_definition Definition = true
in_definition (Body p) = false
in_definition Lyrics = false

-- At the end of a block.
unfoldable pub fine_for : Place → Check → Bool
unfolding provided◌then◌else◌
fine_for p c = provided in_definition p then definition_fine c else section_fine c

unfoldable pub closing : State → ℕ
closing c = min c.pending.want (min c.pending.bare (unless (fine_for c.place c.pending.check) c.pending.bad))

-- A line of metadata.
unfoldable pub key_judged : List Bool → Line → ℕ
key_judged marks l = min (again 4 (key_of l) marks l.number) (least (metadata_fault l))

abbrev pub metadata_state : Carried → Line → State
metadata_state k l = block_state Metadata (carried k.turn (marked (key_of l) k.metadata) k.count) nothing_pending

-- The first line of a block; what a definition's number is complained of comes beside it.
abbrev pub head_state : ℕ → Carried → State
head_state t k = block_state Head (carried t k.metadata (min k.count 25 + 1)) nothing_pending

abbrev pub header_state : ℕ → Carried → Line → State
header_state t k l = block_state (Body Keys) (carried t k.metadata k.count) (pending (ranked 8 l.number) none none first)

unfoldable pub opening : BlockKind → Carried → Line → Judged
opening metadata k l = judged (min (late 0 k.turn l) (key_judged k.metadata l)) (metadata_state k l)
opening definition k l = judged (late 1 k.turn l) (head_state (max k.turn 1) k)
opening section k l = judged (min (late 2 k.turn l) (least (header_faults l))) (header_state (max k.turn 2) k l)

-- A line between a section's header and its `--`.
unfoldable pub body_judged : Part → List Bool → List Bool → Line → ℕ
body_judged p ks ms l =
    min
    (min (min (order_note p l) (again 4 (key_of l) ks l.number)) (again 8 (modifier_of l) ms l.number))
    (least (faults l))

unfoldable pub body_state : Part → State → Line → State
body_state p c l =
    state_at
    (Body (part_after (kind_of_line l) p))
    c.carried
    (marked (key_of l) c.keys)
    (marked (modifier_of l) c.modifiers)
    (pending_after (kind_of_line l) p l c.pending)

abbrev pub lyrics_state : State → ℕ → State
lyrics_state c bare = state_at Lyrics c.carried c.keys c.modifiers (pending c.pending.want bare c.pending.bad c.pending.check)

-- A pattern line of a definition: among those of a section the first stands among keys, the others in the pattern.
abbrev pub definition_state : Part → State → Line → State
definition_state p c l = block_state Definition c.carried (pattern_pending p l c.pending)

-- A line that is not blank, where it stands.
unfoldable pub judged_at : Place → State → Line → Judged
unfolding provided◌then◌else◌
judged_at Between c l = opening (kind_of_text l.text) c.carried l
judged_at Metadata c l = judged (key_judged c.carried.metadata l) (metadata_state c.carried l)
judged_at Head c l = judged none (definition_state Keys c l)
judged_at Definition c l = judged none (definition_state Pattern c l)
judged_at (Body p) c l = provided not_dashes l then judged (body_judged p c.keys c.modifiers l) (body_state p c l) else judged none
    (lyrics_state c (ranked 8 l.number))
judged_at Lyrics c l = judged none (lyrics_state c none)

-- Before the first line.
abbrev pub first_state : State
first_state = block_state Between (carried 0 no_marks 0) nothing_pending

-- A blank line ends the block.
unfoldable pub judge : State → Line → Judged
unfolding provided◌then◌else◌
judge c l = provided is_empty l.text then judged (closing c) (block_state Between c.carried nothing_pending) else judged_at c.place c l

-- So does the end of the text; then a section is there, or 9.
unfoldable pub ends : State → ℕ
ends c = min (closing c) (only_if (ltb c.carried.turn 2) no_section)
