-- The fault of a definition's references is the one that the stage gives.
use Prim.Native.Nat.{ℕ, ◌+◌, ◌≤◌}
use mathlib.Core.Path.{◌≡◌, refl, sym, ap, ◌∙◌}
use mathlib.Core.List.{List, [], ◌∷◌, flat_map}
use mathlib.Core.Bool.{Bool, true, false, ◌||◌, not}
use mathlib.Core.Option.{Option, none, some, get_or, bind}
use native.Mathlib.Omega.{arith}
use borrow.Author.Tests.{leb-true, leb-false, le-ltb, lt-ltb}
use lib.Dec.{leb, ltb}
use lib.ListN.{take, drop}
use Rattle.songcode.specs.Lists.{any}
use Rattle.songcode.specs.Complaints.{Complaint, earliest}
use Rattle.songcode.specs.Song.{Items, one, refer, Definition}
use Rattle.songcode.specs.Answer.PatternText.{depth, depth_i, loops_deep, references}
use Rattle.songcode.specs.Answer.References.{definition_of, items_of, put_in_item, put_in, reference_fault, depth_fault, definition_references}
use Rattle.songcode.proofs.WrittenBefore.{write_items}
use Rattle.songcode.proofs.ListLaws.{by_cases, none_passes, Each, each_append}
use Rattle.tokens.specs.TokenWords.{token_words}
use Rattle.score.specs.declared.stretches.Stretch.{Stretch}
use Rattle.score.specs.Standing.{ItemsFit, Stands}
use Rattle.score.proofs.StandingLaws.{stands_written}
use Rattle.outlines.specs.declared.readings.Outline.{Outline}
use Rattle.outlines.specs.Words.{vacant}
use Rattle.outlines.specs.Faults.{all_faults, faultless, fault_told, fault_in}
use Rattle.outlines.specs.Told.{KnowsItems, Knows, Known, refusal}
use Rattle.outlines.proofs.ChordLaws.{or_false}
use Rattle.outlines.proofs.GivenLaws.{has, given, TenOrEleven, refusal_ten, refusal_other, given_first, when_ten, when_eleven, when_either}
use Rattle.outlines.proofs.GivenLaws.{fault_either, fault_ten, fault_eleven, has_append}
use Rattle.outlines.proofs.FaultTrees.{fault_items, items_fault_lem, items_missing}
use Rattle.outlines.proofs.DeepLaws.{flawed, deep_items, items_deep, items_put}

-- A found definition, put in.
found_items : (i : Option Items) (o : Outline) (n : ℕ) → KnowsItems i o → depth (get_or i (one (refer n))) ≡ o.depth
unfolding KnowsItems depth depth_i vacant
found_items none o n k = rw k
found_items (some r) o n k = sym k.0.depth

found : (d : Option Definition) (m : Bool) (o : Outline) (n : ℕ) → Knows d m o → depth (get_or (bind d (λ e. e.items)) (one (refer n))) ≡ o.depth
unfolding Knows bind depth depth_i vacant
found none m o n k = rw k.1
found (some d) m o n k = found_items d.items o n k.1

beyond : (k m : ℕ) → not (leb k m) ≡ ltb m k
beyond k m = by_cases (leb k m)
    (λ e. rw (e, le-ltb m k (leb-true k m e)))
    (λ e. rw (e, lt-ltb m k (leb-false k m e)))

read_faults : (missing : ℕ → Bool) (find : ℕ → Outline) (r : Items) → ItemsFit r
    → all_faults missing find faultless (token_words (write_items r [])) ≡ fault_items missing find r faultless
unfolding token_words all_faults
read_faults missing find r h = items_fault_lem missing find r faultless [] h

module _ (ds : List Definition) (missing : ℕ → Bool) (find : ℕ → Outline) (known : Known ds missing find) (head : ℕ) where
  fault_of : ℕ → List Complaint
  fault_of n = reference_fault (definition_of n ds) head

  knows : (n : ℕ) → Knows (definition_of n ds) (missing n) (find n)
  unfolding Known
  knows n = known n

  all_either : (ns : List ℕ) → Each (TenOrEleven head) (flat_map fault_of ns)
  unfolding flat_map Each fault_of
  all_either [] = tt
  all_either (n ∷ ns) = each_append (TenOrEleven head) (fault_of n) (flat_map fault_of ns) (fault_either (definition_of n ds) head) (all_either ns)

  all_ten : (ns : List ℕ) → has 10 (flat_map fault_of ns) ≡ any missing ns
  unfolding flat_map has any fault_of
  all_ten [] = refl
  all_ten (n ∷ ns) = has_append 10 (fault_of n) (flat_map fault_of ns) ∙ rw (fault_ten (definition_of n ds) (missing n) (find n) head (knows n), all_ten ns)

  all_eleven : (ns : List ℕ) → any missing ns ≡ false → has 11 (flat_map fault_of ns) ≡ any (flawed missing find) ns
  unfolding flat_map has any fault_of
  all_eleven [] e = refl
  all_eleven (n ∷ ns) e =
      let h = none_passes (missing n) (any missing ns) e in
      has_append 11 (fault_of n) (flat_map fault_of ns) ∙ rw (fault_eleven (definition_of n ds) (missing n) (find n) head (knows n) h.0, all_eleven ns h.1)

  -- What a reference puts in is as deep as its outline tells.
  put_right : (n : ℕ) → depth (put_in_item (items_of ds) (refer n)) ≡ (find n).depth
  unfolding put_in_item items_of bind
  put_right n = found (definition_of n ds) (missing n) (find n) n (knows n)

  -- The complaints of the definition.
  complaints_either : (r : Items) → Each (TenOrEleven head) (definition_references ds (some r) head)
  unfolding definition_references depth_fault fault_of
  complaints_either r = each_append (TenOrEleven head) (flat_map fault_of (references r)) (depth_fault ds r head) (all_either (references r))
      (when_either (not (leb (depth (put_in (items_of ds) r)) loops_deep)) head)

  complaints_ten : (r : Items) → has 10 (definition_references ds (some r) head) ≡ any missing (references r)
  unfolding definition_references depth_fault fault_of
  complaints_ten r =
      has_append 10 (flat_map fault_of (references r)) (depth_fault ds r head)
      ∙ rw (all_ten (references r), when_ten (not (leb (depth (put_in (items_of ds) r)) loops_deep)) head) (or_false (any missing (references r)))

  complaints_eleven : (r : Items) → depth r ≤ loops_deep → any missing (references r) ≡ false
      → has 11 (definition_references ds (some r) head) ≡ (any (flawed missing find) (references r) || deep_items missing find 0 r)
  unfolding definition_references depth_fault fault_of
  complaints_eleven r d e =
      let z : depth (put_in (items_of ds) r) ≡ 0 + depth (put_in (items_of ds) r) = omega arith in
      has_append 11 (flat_map fault_of (references r)) (depth_fault ds r head)
      ∙ rw (all_eleven (references r) e, when_eleven (not (leb (depth (put_in (items_of ds) r)) loops_deep)) head)
      (ap (λ b. any (flawed missing find) (references r) || b) (beyond (depth (put_in (items_of ds) r)) loops_deep ∙ ap (ltb loops_deep) z
      ∙ items_put missing find (items_of ds) put_right r 0 (omega arith)))

  start_missing : (r : Items) → (fault_items missing find r faultless).missing ≡ any missing (references r)
  unfolding faultless
  start_missing r = items_missing missing find r faultless

  start_deep : (r : Items) → depth r ≤ loops_deep
      → (fault_items missing find r faultless).deep ≡ (any (flawed missing find) (references r) || deep_items missing find 0 r)
  unfolding faultless loops_deep
  start_deep r d = items_deep missing find r faultless 0 refl (omega arith)

  items_given : (r : Items) → depth r ≤ loops_deep
      → refusal (fault_told (fault_items missing find r faultless)) head ≡ earliest (definition_references ds (some r) head)
  items_given r d =
      let g = fault_items missing find r faultless in
      let cs = definition_references ds (some r) head in
      let e = given_first head cs (complaints_either r) in
      by_cases (any missing (references r))
      (λ t.
      let a : earliest cs ≡ given true (has 11 cs) head = rw (complaints_ten r, t) at e in
      refusal_ten g (has 11 cs) head (start_missing r ∙ t) ∙ sym a)
      (λ t.
      let a : earliest cs ≡ given false (any (flawed missing find) (references r) || deep_items missing find 0 r) head = rw
      (complaints_ten r, t, complaints_eleven r d t) at e in
      refusal_other g (any (flawed missing find) (references r) || deep_items missing find 0 r) head (start_missing r ∙ t) (start_deep r d) ∙ sym a)

  pub fault_given : (ws : List ℕ) (s : Stretch) (r : Items) → Stands ws s r → ItemsFit r → depth r ≤ loops_deep
      → refusal (fault_in missing find (drop s.from (take s.to ws))) head ≡ earliest (definition_references ds (some r) head)
  unfolding fault_in
  fault_given ws s r p h d = rw (stands_written ws s r p, read_faults missing find r h) (items_given r d)
