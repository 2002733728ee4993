-- The returns of the functions on metadata lines and on the lines of a section by their kinds.
use Prim.Native.Nat.{ℕ, min}
use mathlib.Core.Path.{◌≡◌, refl, ◌∙◌}
use mathlib.Core.List.{List}
use mathlib.Core.Bool.{Bool, true, false}
use native.Mathlib.Omega.{arith}
use Rattle.std.specs.Prelude as std
use Rattle.songcode.specs.Lists.{provided◌then◌else◌}
use Rattle.songcode.specs.Answer.Lines.{Line}
use Rattle.songcode.specs.Complaints.{complain_if}
use Rattle.songcode.specs.Answer.Sections.{key_line, modifier_line, pattern_line, kind_of_line, key_name_of, modifier_name_of, setting_of}
use Rattle.songcode.specs.Answer.SongText.{metadata_fault}
use Rattle.settings.specs.Names.{key_is, modifier_is}
use Rattle.settings.specs.declared.keys.KeyName.{KeyName}
use Rattle.settings.specs.declared.modifiers.ModifierName.{ModifierName}
use Rattle.stage2.specs.declared.states.Part.{Part}
use Rattle.stage2.specs.declared.states.Place.TheVariants.{Body}
use Rattle.stage2.specs.declared.states.Pending.{Pending}
use Rattle.stage2.specs.declared.states.State.{State}
use Rattle.refusals.specs.Ranks.{least}
use Rattle.stage2.specs.Walk.{pattern_pending}
use Rattle.stage2.specs.States.{again, marked, key_of, judged, state_at, key_judged}
use Rattle.stage2.specs.LineNotes.{key_number, modifier_number, key_note, modifier_note}
use Rattle.stage2.specs.Places.{past_keys, before_pattern, past_pattern, after_key, after_modifier, after_pattern}
use Rattle.stage2.specs.BodyLines.{key_alone, on_key, on_modifier, on_pattern}
use Rattle.refusals.proofs.RankLaws.{least_le}
use Rattle.stage2.proofs.LineReturns.{key_of_lem, modifier_no_key, pattern_no_key, key_in_metadata, modifier_in_metadata, pattern_in_metadata}

module _ (l : Line) (marks : List Bool) where
  abbrev Noted : ℕ → List Bool → Type 0
  Noted note m = (note ≡ key_judged marks l) × (m ≡ marked (key_of l) marks)

  pub key_alone_lem : (k : std.Option KeyName) (n twice own note : ℕ) (m : List Bool) → k ≡ key_is (key_name_of l) → n ≡ key_number k
      → twice ≡ again 4 n marks l.number
      → own ≡ key_note false k (setting_of l) l.number → note ≡ min twice own → m ≡ marked n marks → (note ≡ key_alone marks l)
      × (m ≡ marked (key_number (key_is (key_name_of l))) marks)
  unfolding key_alone
  key_alone_lem k n twice own note m a b c d e f = (rw (← a, ← b, ← c, ← d) e, rw (← a, ← b) f)

  pub metadata_key : (note : ℕ) (m : List Bool) → kind_of_line l ≡ key_line → note ≡ key_alone marks l
      → m ≡ marked (key_number (key_is (key_name_of l))) marks → Noted note m
  unfolding key_judged key_alone
  metadata_key note m e p q = (rw (key_of_lem l e, key_in_metadata l e) p, rw (key_of_lem l e) q)

  other : (note : ℕ) → key_of l ≡ 8 → least (metadata_fault l) ≡ least (complain_if true 8 l.number) → note ≡ least (complain_if true 8 l.number)
      → Noted note marks
  unfolding key_judged again marked provided◌then◌else◌
  other note e f p = let h = least_le (complain_if true 8 l.number) in (rw (e, f) (p ∙ omega arith), rw e refl)

  pub metadata_modifier : (note : ℕ) → kind_of_line l ≡ modifier_line → note ≡ least (complain_if true 8 l.number) → Noted note marks
  metadata_modifier note e p = other note (modifier_no_key l e) (modifier_in_metadata l e) p

  pub metadata_pattern : (note : ℕ) → kind_of_line l ≡ pattern_line → note ≡ least (complain_if true 8 l.number) → Noted note marks
  metadata_pattern note e p = other note (pattern_no_key l e) (pattern_in_metadata l e) p

module _ (p : Part) (c : State) (l : Line) where
  pub key_judged_lem : (k : std.Option KeyName) (n out twice own some note : ℕ) (past : Bool) (keys : List Bool) (q : Part) → k ≡ key_is (key_name_of l)
      → n ≡ key_number k → past ≡ past_keys p → out ≡ least (complain_if past 4 l.number)
      → twice ≡ again 4 n c.keys l.number → own ≡ key_note true k (setting_of l) l.number → some ≡ min out twice → note ≡ min some own
      → keys ≡ marked n c.keys → q ≡ after_key p
      → judged note (state_at (Body q) c.carried keys c.modifiers c.pending) ≡ on_key p c l
  unfolding on_key
  key_judged_lem k n out twice own some note past keys q a b d e f g h i j x =
      rw (j, x, i, h, e, f, g, d, b, a) refl

  pub modifier_judged : (m : std.Option ModifierName) (n out twice own some note : ℕ) (before : Bool) (marks : List Bool) (q : Part)
      → m ≡ modifier_is (modifier_name_of l) → n ≡ modifier_number m → before ≡ before_pattern p → out ≡ least (complain_if before 8 l.number)
      → twice ≡ again 8 n c.modifiers l.number → own ≡ modifier_note m (setting_of l) l.number → some ≡ min out twice → note ≡ min some own
      → marks ≡ marked n c.modifiers → q ≡ after_modifier p
      → judged note (state_at (Body q) c.carried c.keys marks c.pending) ≡ on_modifier p c l
  unfolding on_modifier
  modifier_judged m n out twice own some note before marks q a b d e f g h i j x =
      rw (j, x, i, h, e, f, g, d, b, a) refl

  pub pattern_judged : (note : ℕ) (past : Bool) (pending : Pending) (q : Part) → past ≡ past_pattern p → note ≡ least (complain_if past 8 l.number)
      → pending ≡ pattern_pending p l c.pending → q ≡ after_pattern p
      → judged note (state_at (Body q) c.carried c.keys c.modifiers pending) ≡ on_pattern p c l
  unfolding on_pattern
  pattern_judged note past pending q a b d e = rw (b, d, e, a) refl
