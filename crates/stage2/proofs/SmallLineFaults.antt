-- A line's complaints have small numbers, and its own line.
use Prim.Native.Nat.{ℕ, ◌<◌, ◌≤◌}
use mathlib.Core.List.{List, [], ◌∷◌, ◌++◌, flat_map}
use mathlib.Core.Bool.{Bool, true, false, not}
use mathlib.Core.Option.{Option, none, some}
use native.Mathlib.Omega.{arith}
use lib.Dec.{eqb}
use Rattle.songcode.specs.Lists.{provided◌then◌else◌, taken, left, is_empty, is_some, any, prepend, when}
use Rattle.songcode.specs.Answer.Lines.{Line, Block}
use Rattle.songcode.specs.Song.{KeyName}
use Rattle.songcode.specs.Answer.Keys.{is_setting, of_section, of_metadata}
use Rattle.songcode.specs.Answer.Modifiers.{ModifierName, of_repeat, of_cut_start, of_cut_end, of_before, of_after, setting_refusal, modifier_in}
use Rattle.songcode.specs.Answer.PatternText.{section_text, definition_text}
use Rattle.songcode.specs.Complaints.{Complaint, complaint, complain_if}
use Rattle.songcode.specs.Answer.Sections.{Kind, key_line, modifier_line, pattern_line, kind_of_line, setting_of, key_faults_by, key_faults, key_name_of}
use Rattle.songcode.specs.Answer.Sections.{modifier_faults_by, modifier_faults, modifier_name_of, twice, twice_by, faults, is_pattern_line, not_key_line}
use Rattle.songcode.specs.Answer.Sections.{past_run}
use Rattle.songcode.specs.Answer.Sections.{misplaced, order, pattern_faults, lyric_faults}
use Rattle.songcode.specs.Answer.SongText.{metadata_fault, definition_faults}
use Rattle.songcode.proofs.ListLaws.{Each, each_append, by_cases}
use Rattle.songcode.proofs.LineAgree.{by_kind as by-line-kind}
use Rattle.refusals.specs.Ranks.{Small}

-- A line of a text that is not too long; a block of such lines.
abbrev pub Low : Line → Type 0
Low l = l.number < 131072

unfoldable pub LowBlock : Block → Type 0
unfolding Each
LowBlock b = Low b.first × Each Low b.others

abbrev pub Fine : List Complaint → Type 0
Fine cs = Each Small cs

pub one : (number : ℕ) (l : Line) → (1 ≤ number) × (number < 32) → Low l → Fine (complaint number l.number ∷ [])
unfolding Each
one number l n h = ((n.1, h, n.0), tt)

pub fine_if : (t : Bool) (number : ℕ) (l : Line) → (1 ≤ number) × (number < 32) → Low l → Fine (complain_if t number l.number)
unfolding complain_if when Each
fine_if true number l n h = ((n.1, h, n.0), tt)
fine_if false number l n h = tt

pub fine_gather : {A : Type 0} {P : A → Type 0} (f : A → List Complaint) → ((x : A) → P x → Fine (f x)) → (xs : List A) → Each P xs → Fine (flat_map f xs)
unfolding flat_map Each
fine_gather f h [] p = tt
fine_gather f h (x ∷ xs) p = each_append Small (f x) (flat_map f xs) (h x p.0) (fine_gather f h xs p.1)

pub each_gather : {A B : Type 0} {P : A → Type 0} (Q : B → Type 0) (f : A → List B) → ((x : A) → P x → Each Q (f x)) → (xs : List A) → Each P xs
    → Each Q (flat_map f xs)
unfolding flat_map Each
each_gather Q f h [] p = tt
each_gather Q f h (x ∷ xs) p = each_append Q (f x) (flat_map f xs) (h x p.0) (each_gather Q f h xs p.1)

-- A part of a list.
module _ {A : Type 0} (P : A → Type 0) (t : A → Bool) where
  pub each_taken : (xs : List A) → Each P xs → Each P (taken t xs)
  unfolding Each taken provided◌then◌else◌
  each_taken [] p = tt
  each_taken (x ∷ xs) p = by_cases (t x) (λ e. rw e (p.0, each_taken xs p.1)) (λ e. rw e tt)

  pub each_left : (xs : List A) → Each P xs → Each P (left t xs)
  unfolding Each left provided◌then◌else◌
  each_left [] p = tt
  each_left (x ∷ xs) p = by_cases (t x) (λ e. rw e (each_left xs p.1)) (λ e. rw e p)

-- Said twice.
module _ (number : ℕ) (small : (1 ≤ number) × (number < 32)) (said : Line → Option ℕ) where
  fine_said : (o : Option ℕ) (seen : List ℕ) (l : Line) → Low l → Fine (twice_by number o seen l)
  unfolding twice_by Each
  fine_said none seen l h = tt
  fine_said (some k) seen l h = fine_if (any (λ x. eqb x k) seen) number l small h

  pub fine_twice : (seen : List ℕ) (ls : List Line) → Each Low ls → Fine (twice number said seen ls)
  unfolding twice Each
  fine_twice seen [] p = tt
  fine_twice seen (l ∷ ls) p =
      each_append Small (twice_by number (said l) seen l) (twice number said (prepend (said l) seen) ls) (fine_said (said l) seen l p.0)
      (fine_twice (prepend (said l) seen) ls p.1)

-- A line's own faults.
module _ (l : Line) (h : Low l) where
  fine_key_by : (allowed : KeyName → Bool) (o : Option KeyName) → Fine (key_faults_by allowed o l)
  unfolding key_faults_by
  fine_key_by allowed none = one 4 l (omega arith, omega arith) h
  fine_key_by allowed (some k) =
      each_append Small (complain_if (not (allowed k)) 4 l.number) (complain_if (not (is_setting k (setting_of l))) 5 l.number)
      (fine_if (not (allowed k)) 4 l (omega arith, omega arith) h) (fine_if (not (is_setting k (setting_of l))) 5 l (omega arith, omega arith) h)

  fine_key : (allowed : KeyName → Bool) → Fine (key_faults allowed l)
  unfolding key_faults
  fine_key allowed = fine_key_by allowed (key_name_of l)

  refusal_small : (m : ModifierName) → (1 ≤ setting_refusal m) × (setting_refusal m < 32)
  unfolding setting_refusal
  refusal_small of_repeat = (omega arith, omega arith)
  refusal_small of_cut_start = (omega arith, omega arith)
  refusal_small of_cut_end = (omega arith, omega arith)
  refusal_small of_before = (omega arith, omega arith)
  refusal_small of_after = (omega arith, omega arith)

  fine_modifier_by : (o : Option ModifierName) → Fine (modifier_faults_by o l)
  unfolding modifier_faults_by
  fine_modifier_by none = one 8 l (omega arith, omega arith) h
  fine_modifier_by (some m) = fine_if (not (is_some (modifier_in m l.number (setting_of l)))) (setting_refusal m) l (refusal_small m) h

  pub fine_faults : Fine (faults l)
  unfolding faults modifier_faults Each
  fine_faults =
      by-line-kind
      (kind_of_line l)
      (λ e. rw (e, faults) (fine_key of_section))
      (λ e. rw (e, faults) (fine_modifier_by (modifier_name_of l)))
      (λ e. rw (e, faults) tt)

  pub fine_metadata : Fine (metadata_fault l)
  unfolding metadata_fault
  fine_metadata =
      by-line-kind
      (kind_of_line l)
      (λ e. rw (e, metadata_fault) (fine_key of_metadata))
      (λ e. rw (e, metadata_fault) (one 8 l (omega arith, omega arith) h))
      (λ e. rw (e, metadata_fault) (one 8 l (omega arith, omega arith) h))

  fine_misplaced : (before : List Line) (k : Kind) → Fine (misplaced k before l)
  unfolding misplaced
  fine_misplaced before key_line = fine_if (any not_key_line before) 4 l (omega arith, omega arith) h
  fine_misplaced before modifier_line = fine_if (not (any is_pattern_line before)) 8 l (omega arith, omega arith) h
  fine_misplaced before pattern_line = fine_if (not (is_empty (past_run before))) 8 l (omega arith, omega arith) h

pub fine_order : (before ls : List Line) → Each Low ls → Fine (order before ls)
unfolding order Each
fine_order before [] h = tt
fine_order before (l ∷ ls) h =
    each_append Small (misplaced (kind_of_line l) before l) (order (before ++ (l ∷ [])) ls)
    (fine_misplaced l h.0 before (kind_of_line l)) (fine_order (before ++ (l ∷ [])) ls h.1)

pub fine_pattern : (b : Line) (ls : List Line) → Low b → Each Low ls → Fine (pattern_faults b.number ls)
unfolding pattern_faults Each
fine_pattern b [] h p = one 8 b (omega arith, omega arith) h
fine_pattern b (l ∷ ls) h p = fine_if (not (is_some (section_text l ls))) 7 l (omega arith, omega arith) p.0

pub fine_definition : (ls : List Line) → Each Low ls → Fine (definition_faults ls)
unfolding definition_faults Each
fine_definition [] p = tt
fine_definition (l ∷ ls) p = fine_if (not (is_some (definition_text l ls))) 7 l (omega arith, omega arith) p.0

pub fine_lyrics : (ls : List Line) → Each Low ls → Fine (lyric_faults ls)
unfolding lyric_faults Each
fine_lyrics [] p = tt
fine_lyrics (l ∷ ls) p = fine_if (is_empty ls) 8 l (omega arith, omega arith) p.0
