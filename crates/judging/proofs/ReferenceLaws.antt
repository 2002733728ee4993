-- What stage 3 says of a section, from the number that its pattern names.
use Prim.Native.Nat.{ℕ, ◌≤◌}
use mathlib.Core.Path.{◌≡◌, refl, sym, ap, ◌∙◌}
use mathlib.Core.List.{List, [], ◌∷◌, flat_map}
use mathlib.Core.Bool.{Bool, true, false, not}
use mathlib.Core.Option.{Option, none, some}
use native.Mathlib.Omega.{arith}
use borrow.Author.Tests.{eqb-true, eqb-false}
use lib.Dec.{eqb}
use lib.ListN.{length}
use Rattle.songcode.specs.Lists.{provided◌then◌else◌, is_some}
use Rattle.songcode.specs.Complaints.{Complaint, complaint, earlier, earliest}
use Rattle.songcode.specs.Song.{Pattern, items, named, Definition, Section}
use Rattle.songcode.specs.Answer.References.{definition_of, named_fault, section_reference, definitions_references, reference_faults}
use Rattle.songcode.specs.Answer.Answer.{song_of}
use Rattle.songcode.proofs.ListLaws.{by_cases, true_is_not_false, Each, each_map}
use Rattle.songcode.proofs.PatternLaws.{none_some}
use Rattle.refusals.specs.declared.Refusal.{Refusal}
use Rattle.std.specs.Prelude as std
use Rattle.std.specs.Prelude.{Some}
use Rattle.refusals.specs.declared.names.Why.TheVariants.{ReferenceUndefined}
use Rattle.refusals.specs.Refusals.{told}
use Rattle.outlines.specs.Words.{is_missing}
use Rattle.sections.specs.declared.blocks.Place.{Place}
use Rattle.sections.specs.declared.values.Keys.{Keys}
use Rattle.sections.specs.Onward.{sections_from, section_at, Later}
use Rattle.sections.proofs.MeetLaws.{sections_over}
use Rattle.laying.specs.declared.texts.Opened.{Opened}
use Rattle.laying.specs.Laying.{Names}
use Rattle.laying.specs.Scores.{Told, Begins, Opens, RefusedThree}
use Rattle.laying.specs.Rows.{Lays}
use Rattle.laying.proofs.ComplaintLaws.{UpTo, first_wins, gather_behind}
use Rattle.laying.proofs.FaultLineLaws.{section_line}
use Rattle.judging.specs.References.{name_fault}

module _ (ds : List Definition) (header : ℕ) where
  -- A pattern of its own.
  own_pattern : (x : Pattern) (k : ℕ) → Names x k → k ≡ 0 → none ≡ earliest (section_reference ds x header)
  unfolding Names section_reference earliest
  own_pattern (items r) k w e = refl
  own_pattern (named n) k w e =
      let p = w.0 in
      let q = w.1 in
      let z : ⊥ = omega arith in
      absurd z

  named_fault_lem : (x : Pattern) (k : ℕ) → Names x k → (k ≡ 0 → ⊥) → section_reference ds x header ≡ named_fault (definition_of k ds) header
  unfolding Names section_reference
  named_fault_lem (items r) k w e = absurd (e w)
  named_fault_lem (named n) k w e = rw w.0

  fault_there : (o : Option Definition) → not (is_some o) ≡ true → named_fault o header ≡ complaint 10 header ∷ []
  unfolding named_fault is_some
  fault_there none e = refl
  fault_there (some d) e = true_is_not_false e refl

  fault_none : (o : Option Definition) → not (is_some o) ≡ false → named_fault o header ≡ []
  unfolding named_fault is_some
  fault_none none e = true_is_not_false refl e
  fault_none (some d) e = refl

  -- A name that no definition has, and one that a definition has.
  missing_name : (x : Pattern) (k : ℕ) (b : Bool) → Names x k → (k ≡ 0 → ⊥) → b ≡ not (is_some (definition_of k ds)) → b ≡ true
      → told (Some (record { why = ReferenceUndefined; line = header })) ≡ earliest (section_reference ds x header)
  unfolding told earliest earlier
  missing_name x k b w n e t = rw (named_fault_lem x k w n, fault_there (definition_of k ds) (sym e ∙ t))

  found_name : (x : Pattern) (k : ℕ) (b : Bool) → Names x k → (k ≡ 0 → ⊥) → b ≡ not (is_some (definition_of k ds)) → b ≡ false
      → none ≡ earliest (section_reference ds x header)
  unfolding earliest
  found_name x k b w n e t = rw (named_fault_lem x k w n, fault_none (definition_of k ds) (sym e ∙ t))

  -- What the code finds of a name.
  pub name_fault_lem : {s ws : List ℕ} → Told s ws → ds ≡ (song_of s).definitions → (x : Pattern) (k : ℕ) → Names x k
      → told (name_fault ws k header) ≡ earliest (section_reference ds x header)
  unfolding name_fault told provided◌then◌else◌
  name_fault_lem {s} {ws} told e x k names =
      let there : is_missing ws k ≡ not (is_some (definition_of k ds)) = told.missing k
      ∙ ap (λ (d : List Definition). not (is_some (definition_of k d))) (sym e) in
      by_cases (eqb k 0)
      (λ t. rw t (own_pattern x k names (eqb-true k 0 t)))
      (λ t.
      by_cases (is_missing ws k)
      (λ u. rw (t, u) (missing_name x k (is_missing ws k) names (eqb-false k 0 t) there u))
      (λ u. rw (t, u) (found_name x k (is_missing ws k) names (eqb-false k 0 t) there u)))

-- Every complaint of a section stands on its header.
module _ (ds : List Definition) where
  unfoldable pub section_fault : Section → List Complaint
  section_fault x = section_reference ds x.pattern x.header

  on_header : (x : Section) → Each (λ c. c.line ≡ x.header) (section_fault x)
  unfolding section_fault
  on_header x = section_line ds x

  up_to : (x : Section) → Each (UpTo x.header) (section_fault x)
  unfolding UpTo
  up_to x = each_map (λ c e. omega arith) (section_fault x) (on_header x)

  -- A section's refusal is that of all from it on; where it has none, the next ones' is.
  first_section : (x : Section) (xs : List Section) (e : Refusal) → Later x.header xs → told (Some e) ≡ earliest (section_fault x)
      → told (Some e) ≡ earliest (flat_map section_fault (x ∷ xs))
  unfolding flat_map told earliest
  first_section x xs e w is =
      is ∙ sym (first_wins x.header (section_fault x) (flat_map section_fault xs) (up_to x) (gather_behind x.header section_fault on_header xs w)
      (λ z. none_some (ap earliest z) (sym is)))

  next_section : (x : Section) (xs : List Section) → section_fault x ≡ [] → flat_map section_fault (x ∷ xs) ≡ flat_map section_fault xs
  unfolding flat_map
  next_section x xs e = rw e refl

-- The fault of a section that is laid.
pub fault_at : {s old ws : List ℕ} {p : Place} {song : Keys} {at : ℕ} (m : Opened) → Lays s p song at old ws m → Told s ws → {r : std.Option Refusal}
    → r ≡ name_fault ws m.named m.section.header → told r ≡ earliest (section_fault (song_of s).definitions (section_at s p))
unfolding section_fault
fault_at {s} {old} {ws} {p} m w there e =
    let ds = (song_of s).definitions in
    ap told e ∙ name_fault_lem ds m.section.header there refl (section_at s p).pattern m.named w.names
    ∙ ap (λ (h : ℕ). earliest (section_reference ds (section_at s p).pattern h)) w.opens.met.says.header

-- Stage 3 from section to section, where nothing is wrong with the definitions: what is left of it is all of it.
unfoldable pub ReferencesLeft : List ℕ → Place → Type 0
ReferencesLeft s p = flat_map (section_fault (song_of s).definitions) (sections_from s p) ≡ reference_faults (song_of s)

pub references_start : {s : List ℕ} {p : Place} → Begins s p → definitions_references [] (song_of s).definitions ≡ [] → ReferencesLeft s p
unfolding ReferencesLeft reference_faults section_fault
references_start {s} b clear = rw clear (ap (flat_map (section_fault (song_of s).definitions)) b.sections)

pub references_over : (s : List ℕ) (p : Place) → length s ≤ p.at → ReferencesLeft s p → reference_faults (song_of s) ≡ []
unfolding ReferencesLeft flat_map
references_over s p h w = sym w ∙ ap (flat_map (section_fault (song_of s).definitions)) (sections_over s p h)

module _ {s ws : List ℕ} {p : Place} {m : Opened} (o : Opens s p ws m) where
  pub references_stop : (e : Refusal) → told (Some e) ≡ earliest (section_fault (song_of s).definitions (section_at s p)) → ReferencesLeft s p
      → RefusedThree s e
  unfolding ReferencesLeft
  references_stop e is w =
      first_section (song_of s).definitions (section_at s p) (sections_from s m.next) e o.met.later is
      ∙ ap (λ (xs : List Section). earliest (flat_map (section_fault (song_of s).definitions) xs)) (sym o.met.first)
      ∙ ap earliest w

  pub references_next : section_fault (song_of s).definitions (section_at s p) ≡ [] → ReferencesLeft s p → ReferencesLeft s m.next
  unfolding ReferencesLeft
  references_next z w =
      sym (next_section (song_of s).definitions (section_at s p) (sections_from s m.next) z)
      ∙ ap (flat_map (section_fault (song_of s).definitions)) (sym o.met.first)
      ∙ w
