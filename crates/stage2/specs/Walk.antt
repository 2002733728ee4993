-- Stage 2 as one walk over the lines, in songcode's words: what a line is complained of where it stands, and what is kept of it.
use Rattle.std.specs.Prelude.{ℕ, suc, min, max, List, [], ◌∷◌, Bool, ◌||◌, not, leb, ltb}
use Rattle.songcode.specs.Lists.{provided◌then◌else◌, is_empty, is_some, prepend}
use Rattle.songcode.specs.Answer.Lines.{Line}
use Rattle.songcode.specs.Complaints.{complain_if}
use Rattle.songcode.specs.Answer.Sections.{Kind, key_line, modifier_line, pattern_line, kind_of_line, twice_by, key_said, modifier_said, faults, header_faults}
use Rattle.songcode.specs.Answer.Sections.{not_dashes}
use Rattle.songcode.specs.Answer.SongText.{BlockKind, metadata, definition, section, kind_of_text, metadata_fault, head_in}
use Rattle.grammar.specs.Checks.{first, check_step, check_text}
use Rattle.grammar.specs.Verdicts.{definition_fine, section_fine}
use Rattle.grammar.specs.declared.checks.Check.{Check}
use Rattle.grammar.specs.declared.kinds.Kind.TheVariants.{LineEnd}
use Rattle.stage2.specs.declared.states.Pending.{Pending}
use Rattle.stage2.specs.declared.states.Part.{Part}
use Rattle.stage2.specs.declared.states.Part.TheVariants.{Keys, Early, Pattern, Behind}
use Rattle.stage2.specs.Places.{part_after, misplaced_at}
use Rattle.refusals.specs.Ranks.{ranked, no_section, none, least, only_if}

-- Between blocks; in metadata; behind a definition's head, and among its pattern lines; between a section's header and its `--`; behind that.
pub data Where : Type 0 where
  between in_metadata behind_head in_definition in_lyrics : Where
  in_body : Part → Where

-- What goes from block to block: the latest turn, the keys of all metadata, how many definitions there are and their numbers.
pub record Known : Type 0 where
  pub turn : ℕ
  pub keys : List ℕ
  pub sofar : ℕ
  pub heads : List ℕ

-- Where the walk stands, what is known of the blocks before, the keys and modifiers of the section, and what is pending against the block.
pub record Walk : Type 0 where
  pub place : Where
  pub known : Known
  pub keys : List ℕ
  pub modifiers : List ℕ
  pub pending : Pending

pub record Step : Type 0 where
  pub note : ℕ
  pub walk : Walk

abbrev pub step : ℕ → Walk → Step
step note walk = record { note = note; walk = walk }

abbrev pub known : ℕ → List ℕ → ℕ → List ℕ → Known
known t ks n hs = record { turn = t; keys = ks; sofar = n; heads = hs }

abbrev pub walk_at : Where → Known → List ℕ → List ℕ → Pending → Walk
walk_at p k ks ms q = record { place = p; known = k; keys = ks; modifiers = ms; pending = q }

abbrev pub pending : ℕ → ℕ → ℕ → Check → Pending
pending w b t c = record { want = w; bare = b; bad = t; check = c }

abbrev pub nothing_pending : Pending
nothing_pending = pending none none none first

-- Where a block begins or has ended, with what is pending against it.
abbrev pub block_at : Where → Known → Pending → Walk
block_at p k q = walk_at p k [] [] q

-- Where no block is open.
abbrev pub gap : Known → Walk
gap k = block_at between k nothing_pending

-- Unless the test passes, this complaint.
unfoldable pub unless : Bool → ℕ → ℕ
unfolding provided◌then◌else◌
unless t r = provided t then none else r

-- At the end of a block.
unfoldable pub fine_at : Where → Check → Bool
fine_at between c = section_fine c
fine_at in_metadata c = section_fine c
fine_at behind_head c = definition_fine c
fine_at in_definition c = definition_fine c
fine_at (in_body p) c = section_fine c
fine_at in_lyrics c = section_fine c

unfoldable pub closed : Where → Pending → ℕ
closed p q = min q.want (min q.bare (unless (fine_at p q.check) q.bad))

-- 3 on the first line of a block.
unfoldable pub late : ℕ → ℕ → Line → ℕ
late turn latest l = least (complain_if (ltb turn latest) 3 l.number)

-- A line of metadata.
unfoldable pub metadata_note : List ℕ → Line → ℕ
metadata_note seen l = min (least (twice_by 4 (key_said l) seen l)) (least (metadata_fault l))

abbrev pub metadata_after : ℕ → Known → Line → Walk
metadata_after t k l = block_at in_metadata (known t (prepend (key_said l) k.keys) k.sofar k.heads) nothing_pending

-- A definition's head.
unfoldable pub head_note : Known → Line → ℕ
head_note k l =
    min (least (complain_if (not (is_some (head_in l)) || leb 26 k.sofar) 6 l.number)) (least (twice_by 6 (head_in l) k.heads l))

abbrev pub head_after : ℕ → Known → Line → Walk
head_after t k l = block_at behind_head (known t k.keys (suc k.sofar) (prepend (head_in l) k.heads)) nothing_pending

-- A section's header: that a pattern line is wanted is pending.
abbrev pub header_after : ℕ → Known → Line → Walk
header_after t k l = block_at (in_body Keys) (known t k.keys k.sofar k.heads) (pending (ranked 8 l.number) none none first)

unfoldable pub opens : BlockKind → Known → Line → Step
opens metadata k l = step (min (late 0 k.turn l) (metadata_note k.keys l)) (metadata_after (max k.turn 0) k l)
opens definition k l = step (min (late 1 k.turn l) (head_note k l)) (head_after (max k.turn 1) k l)
opens section k l = step (min (late 2 k.turn l) (least (header_faults l))) (header_after (max k.turn 2) k l)

-- The first line of a pattern's text, and one more.
abbrev pub pattern_begun : Line → Pending → Pending
pattern_begun l q = pending none q.bare (ranked 7 l.number) (check_text first l.text)

abbrev pub pattern_more : Line → Pending → Pending
pattern_more l q = pending q.want q.bare q.bad (check_text (check_step q.check LineEnd) l.text)

unfoldable pub pattern_pending : Part → Line → Pending → Pending
pattern_pending Keys l q = pattern_begun l q
pattern_pending Early l q = pattern_begun l q
pattern_pending Pattern l q = pattern_more l q
pattern_pending Behind l q = q

unfoldable pub pending_after : Kind → Part → Line → Pending → Pending
pending_after key_line p l q = q
pending_after modifier_line p l q = q
pending_after pattern_line p l q = pattern_pending p l q

-- A line between a section's header and its `--`.
unfoldable pub order_note : Part → Line → ℕ
order_note p l = least (misplaced_at (kind_of_line l) p l)

unfoldable pub body_note : Part → List ℕ → List ℕ → Line → ℕ
body_note p ks ms l =
    min
    (min (min (order_note p l) (least (twice_by 4 (key_said l) ks l))) (least (twice_by 8 (modifier_said l) ms l)))
    (least (faults l))

unfoldable pub body_step : Part → Walk → Line → Step
body_step p w l =
    step
    (body_note p w.keys w.modifiers l)
    (walk_at (in_body (part_after (kind_of_line l) p)) w.known (prepend (key_said l) w.keys) (prepend (modifier_said l) w.modifiers)
    (pending_after (kind_of_line l) p l w.pending))

-- The `--`, and a line behind it.
abbrev pub lyrics_with : Walk → ℕ → Walk
lyrics_with w bare = walk_at in_lyrics w.known w.keys w.modifiers (pending w.pending.want bare w.pending.bad w.pending.check)

-- A line that is not blank, where it stands.
unfoldable pub step_at : Where → Walk → Line → Step
unfolding provided◌then◌else◌
step_at between w l = opens (kind_of_text l.text) w.known l
step_at in_metadata w l = step (metadata_note w.known.keys l) (metadata_after w.known.turn w.known l)
step_at behind_head w l = step none (block_at in_definition w.known (pattern_begun l w.pending))
step_at in_definition w l = step none (block_at in_definition w.known (pattern_more l w.pending))
step_at (in_body p) w l = provided not_dashes l then body_step p w l else step none (lyrics_with w (ranked 8 l.number))
step_at in_lyrics w l = step none (lyrics_with w none)

abbrev pub full : Walk → Line → Step
full w l = step_at w.place w l

-- A blank line ends the block.
unfoldable pub stepped : Walk → Line → Step
unfolding provided◌then◌else◌
stepped w l = provided is_empty l.text then step (closed w.place w.pending) (gap w.known) else full w l

-- The end of the text ends it too; then a section is there, or 9.
unfoldable pub finished : Walk → ℕ
finished w = min (closed w.place w.pending) (only_if (ltb w.known.turn 2) no_section)

unfoldable pub walked : Walk → List Line → ℕ
walked w [] = finished w
walked w (l ∷ ls) = min (stepped w l).note (walked (stepped w l).walk ls)

abbrev pub at_first : Walk
at_first = gap (known 0 [] 0 [])
