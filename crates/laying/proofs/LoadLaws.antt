-- The definitions of a song, loaded one after another: none at first, then one more, and at last all.
use Prim.Native.Nat.{ℕ, ◌+◌, ◌-◌, ◌<◌, ◌≤◌}
use mathlib.Core.Path.{◌≡◌, refl, sym, ap, ◌∙◌, subst}
use mathlib.Core.List.{List, [], ◌∷◌, ◌++◌, map, append_assoc, append-nil, flat_map}
use mathlib.Core.Option.{Option, none, some, or_else}
use Rattle.std.specs.Prelude as std
use Rattle.std.specs.Prelude.{Some, None}
use native.Mathlib.Omega.{arith}
use borrow.Author.Tests.{eqb-true}
use lib.Dec.{eqb}
use lib.ListN.{length, take, drop, set, length-append}
use lib.Seq.{sets, length-sets, take-suc-set}
use Rattle.songcode.specs.Lists.{provided◌then◌else◌}
use Rattle.songcode.specs.Complaints.{Complaint, complaint, complain_if, earliest}
use Rattle.songcode.specs.Answer.Lines.{Block, blocks}
use Rattle.songcode.specs.Song.{Definition}
use Rattle.songcode.specs.Answer.Sections.{twice, section_faults, section_in}
use Rattle.songcode.specs.Answer.SongText.{definition, block_kind, turn, block_order, definition_if, definition_blocks, section_if, section_blocks}
use Rattle.songcode.specs.Answer.SongText.{head_in, heads_faults, first_line, definition_items, definition_faults, definitions_faults, definition_in}
use Rattle.songcode.specs.Answer.SongText.{text_faults, song_in}
use Rattle.songcode.specs.Answer.References.{definition_of, items_of, definition_references, definitions_references, section_reference, reference_faults}
use Rattle.songcode.specs.Description.WrittenSong.{id_of}
use Rattle.songcode.specs.Answer.Answer.{blocks_of, song_of}
use Rattle.songcode.proofs.ListLaws.{by_cases, nil_is_not_cons, append_is_nil, Each, each_append, each_map, drop_take}
use Rattle.songcode.proofs.MemoryLaws.{sets_append, sets_front, sets_before, sets_there}
use Rattle.songcode.proofs.PatternLaws.{none_some}
use Rattle.songcode.proofs.BlockKinds.{by_kind}
use Rattle.refusals.specs.declared.names.Why.{Why}
use Rattle.refusals.specs.Names.{number_of}
use Rattle.refusals.specs.Refusals.{told}
use Rattle.tokens.specs.TokenWords.{token_words}
use Rattle.tokens.specs.Kept.{KeptFrom}
use Rattle.score.specs.declared.stretches.Stretch.{Stretch}
use Rattle.score.specs.Places.{head_word, stretch_of}
use Rattle.outlines.specs.declared.readings.Outline.{Outline}
use Rattle.outlines.specs.Words.{outline_word, look_up, is_missing}
use Rattle.outlines.specs.Rows.{text_row, definition_row}
use Rattle.outlines.specs.Faults.{fault_in}
use Rattle.outlines.specs.Readings.{outlined}
use Rattle.outlines.specs.Told.{refusal}
use Rattle.sections.specs.declared.blocks.Place.{Place}
use Rattle.sections.specs.declared.blocks.DefinitionRead.{DefinitionRead}
use Rattle.sections.specs.Runs.{lines_of}
use Rattle.sections.specs.BlockParts.{block_at, lines_past, DefinitionAt, NextAt}
use Rattle.sections.specs.Onward.{sections_from, Later}
use Rattle.laying.specs.Laying.{run_tokens, weight}
use Rattle.laying.specs.Metadata.{MetadataEnds}
use Rattle.laying.specs.Fronts.{DefinitionFits, Front}
use Rattle.laying.specs.Scores.{Begins, LoadsAll, RefusedThree}
use Rattle.laying.specs.Loading.{Held, entered, blocks_from, definitions_from, Leaves, Loading, LoadsNext}
use Rattle.laying.proofs.KeptRowLaws.{kept_on}
use Rattle.laying.proofs.ComplaintLaws.{earliest_none, UpTo, Behind, first_wins, gather_behind}
use Rattle.laying.proofs.WeightLaws.{weight_behind, run_words}
use Rattle.laying.proofs.ReachedLaws.{definition_reach}
use Rattle.laying.proofs.FitLaws.{run_good}
use Rattle.laying.proofs.CleanLaws.{clean}
use Rattle.laying.proofs.FrontLaws.{front_held, front_kept, no_definition, front_grows}
use Rattle.laying.proofs.DefinitionLaws as definitions
use Rattle.laying.proofs.DefinitionLaws.{
  fresh_none,
  few_before,
  id_small,
  head_long,
  not_seen,
  lines_say,
  definitions_left,
  leaves_next,
  heads_later,
  sections_later,
}
use Rattle.laying.proofs.FaultLineLaws.{definition_line, definitions_behind, section_line}
use Rattle.laying.proofs.HeldLaws.{fault_is, text_is, text_fits, outline_is}

-- No definition is loaded yet.
module _ (s ws : List ℕ) (p : Place) (faultless : text_faults (blocks_of s) ≡ []) (m : MetadataEnds s p) where
  all_from : (song_of s).definitions ≡ definitions_from s p
  unfolding song_of song_in definitions_from blocks_from
  all_from = ap (map definition_in) (sym m.definitions)

  -- Stage 2 complains of no definition.
  definitions_fair : definitions_faults (definition_blocks (blocks_from s p)) ≡ []
  unfolding blocks_from
  definitions_fair = ap definitions_faults m.definitions ∙ (clean (blocks_of s) faultless).definitions

  leaves_first : Leaves s 0 [] p
  unfolding definitions_faults blocks_from
  leaves_first =
      let bs = definition_blocks (blocks_from s p) in
      let a = append_is_nil (heads_faults 0 bs ++ twice 6 head_in [] (map first_line bs)) (flat_map (λ b. definition_faults b.others) bs) definitions_fair in
      let b = append_is_nil (heads_faults 0 bs) (twice 6 head_in [] (map first_line bs)) a.0 in
      record {
        number = m.number;
        counted = m.counted;
        inside = m.inside;
        opens = m.opens;
        order = m.ordered;
        sections = m.sections;
        heads = b.0;
        fresh = b.1;
        texts = a.1;
      }

  pub loading_first : length s ≤ 65536 → KeptFrom s ws 0 → Loading s (set ws 0 0) 0 p
  unfolding id_of definition_of
  loading_first small kept =
      let room = kept.room in
      record {
        small = small;
        kept = kept_on 0 (0 ∷ []) refl (omega arith) kept;
        filled = omega arith;
        done = [];
        front = no_definition (song_of s).definitions (set ws 0 0) (take-suc-set ws 0 0 (omega arith));
        all = all_from;
        earlier = [];
        same = λ n. refl;
        leaves = leaves_first;
        clear = ap (definitions_references []) all_from;
      }

-- A number is looked up among the definitions before a place and then among those behind it.
definition_append : (n : ℕ) (ds es : List Definition) → definition_of n (ds ++ es) ≡ or_else (definition_of n ds) (definition_of n es)
unfolding definition_of provided◌then◌else◌ or_else
definition_append n [] es = refl
definition_append n (d ∷ ds) es = by_cases (eqb d.id n) (λ t. rw t refl) (λ t. rw t (definition_append n ds es))

or_none : {A : Type 0} (o : Option A) → or_else o none ≡ o
unfolding or_else
or_none none = refl
or_none (some x) = refl

-- The definition at a place is loaded.
module _ (s ws : List ℕ) (mark : ℕ) (p : Place) (w : Loading s ws mark p) (inside : p.at < length s)
    (kind : block_kind (block_at s p.number p.at) ≡ definition)
    (e : DefinitionRead) (r : DefinitionAt s p.number p.at e) where
  abbrev new : List ℕ
  new = token_words (run_tokens (lines_of s e.pattern))

  two_bytes : 2 ≤ length (block_at s p.number p.at).first.text
  two_bytes = head_long s (length w.done) (map id_of w.earlier) p w.leaves inside kind e r

  pub room_there : mark + 2 + weight (lines_of s e.pattern) ≤ length ws
  room_there =
      let a = weight_behind s p.number p.at inside two_bytes in
      let b = w.filled in
      let c = w.kept.room in
      rw r.pattern (omega arith)

  pub reached : mark + 2 + length new ≤ e.pattern.next
  reached = definition_reach s p.number p.at e r inside two_bytes mark w.filled

  abbrev ds : List Definition
  ds = (song_of s).definitions

  agree : (n : ℕ) (x : Definition) → definition_of n w.earlier ≡ some x → definition_of n ds ≡ some x
  unfolding or_else
  agree n x h = ap (definition_of n) w.all ∙ definition_append n w.done (definitions_from s p) ∙ rw (sym (w.same n) ∙ h) refl

  module _ (mid : List ℕ) (end : ℕ) (laid-is : mid ≡ sets ws (mark + 2) new) (end_is : end ≡ mark + 2 + length new) where
    abbrev text : Stretch
    text = record { from = mark + 2; to = end }

    there : drop (mark + 2) (take end mid) ≡ new
    there =
        let a = room_there in
        let b = run_words (lines_of s e.pattern) in
        let n : end - (mark + 2) ≡ length new = omega arith in
        drop_take (mark + 2) end mid ∙ rw (laid-is, n) (sets_there (mark + 2) new ws (omega arith))

    both_before : take (mark + 2) mid ≡ take (mark + 2) ws
    both_before = rw laid-is (sets_before (mark + 2) (mark + 2) new ws (omega arith))

    pub same_room : length mid ≡ length ws
    same_room = rw laid-is (length-sets ws (mark + 2) new)

    pub end_inside : end < length mid
    end_inside =
        let a = reached in
        let b = r.pattern_placed.ends in
        let c = w.kept.room in
        let d = same_room in
        omega arith

    pub small_id : e.id ≤ 9999
    small_id = id_small s (length w.done) (map id_of w.earlier) p w.leaves inside kind e r

    pub small_end : end ≤ 65537
    small_end =
        let a = reached in
        let b = r.pattern_placed.ends in
        let c = w.small in
        omega arith

    -- The words of the definition with an outline, and the mark behind them.
    abbrev row_with_lem : Outline → List ℕ
    row_with_lem o = head_word (2 + length new) e.id ∷ outline_word o ∷ new

    pub entered_is : (o : Outline) → entered mark end e.id o mid ≡ sets ws mark (row_with_lem o ++ (0 ∷ []))
    entered_is o =
        let n : mark + 2 ≡ mark + 1 + 1 = omega arith in
        let k : end - mark ≡ 2 + length new = omega arith in
        let z : end ≡ mark + length (row_with_lem o) = omega arith in
        let x : set mid (mark + 1) (outline_word o) ≡ sets ws (mark + 1) (outline_word o ∷ new) =
        ap (λ (ys : List ℕ). set ys (mark + 1) (outline_word o)) (laid-is ∙ ap (λ (j : ℕ). sets ws j new) n)
        ∙ sets_front (mark + 1) (outline_word o) new ws in
        let y : set (sets ws (mark + 1) (outline_word o ∷ new)) mark (head_word (2 + length new) e.id) ≡ sets ws mark (row_with_lem o) =
        sets_front mark (head_word (2 + length new) e.id) (outline_word o ∷ new) ws in
        rw (x, k, y, z) (sym (sets_append ws mark (row_with_lem o) (0 ∷ [])))

    pub one_length : (o : Outline) (vs : List ℕ) → vs ≡ entered mark end e.id o mid → length vs ≡ length ws
    one_length o vs is = rw (is, entered_is o) (length-sets ws mark (row_with_lem o ++ (0 ∷ [])))

    -- What stands before the mark is found as before.
    held_mid : (n : ℕ) → Held ds mid (definition_of n w.earlier) (is_missing mid n) (stretch_of mid n) (look_up mid n)
    held_mid n = rw (w.same n) (front_held ds mid n (front_kept {at = mark + 2} w.front (omega arith) both_before))

    module _ (q : Place) (x : NextAt s (e.pattern.number + e.pattern.lines) e.pattern.next q) (f : std.Option Why)
        (f-is : f ≡ fault_in (is_missing mid) (look_up mid) (drop (mark + 2) (take end mid))) where
      abbrev new_definition : Definition
      new_definition = record { head = e.head; id = e.id; items = definition_items (lines_of s e.pattern) }

      abbrev complaints : List Complaint
      complaints = definition_references w.earlier (definition_items (lines_of s e.pattern)) e.head

      fault_said : refusal f e.head ≡ earliest complaints
      fault_said =
          rw f-is
          (fault_is ds w.earlier mid held_mid agree text (lines_of s e.pattern)
          (run_good s w.small e.pattern) there e.head
          (definition_items (lines_of s e.pattern))
          (lines_say s (length w.done) (map id_of w.earlier) p w.leaves inside kind e r))

      left_is : definitions_from s p ≡ new_definition ∷ definitions_from s q
      left_is = definitions_left s (length w.done) (map id_of w.earlier) p w.leaves inside kind e r q x

      split : definitions_references [] ds ≡ complaints ++ definitions_references (new_definition ∷ w.earlier) (definitions_from s q)
      unfolding definitions_references
      split = w.clear ∙ ap (definitions_references w.earlier) left_is

      abbrev sections_said : List Complaint
      sections_said = flat_map (λ y. section_reference ds y.pattern y.header) (song_of s).sections

      abbrev later_said : List Complaint
      later_said = definitions_references (new_definition ∷ w.earlier) (definitions_from s q)

      all_said : reference_faults (song_of s) ≡ complaints ++ (later_said ++ sections_said)
      unfolding reference_faults
      all_said = ap (λ cs. cs ++ sections_said) split ∙ append_assoc complaints later_said sections_said

      leaves_left : Leaves s (length w.done + 1) (e.id ∷ map id_of w.earlier) q
      leaves_left = leaves_next s (length w.done) (map id_of w.earlier) p w.leaves inside kind e r q x

      sections_behind_lem : Each (Behind e.head) sections_said
      unfolding song_of song_in
      sections_behind_lem =
          let l = sections_later s (length w.done) (map id_of w.earlier) p w.leaves inside kind e r q x in
          gather_behind e.head (λ y. section_reference ds y.pattern y.header) (section_line ds) (song_of s).sections
          (subst (λ bs. Later e.head (map section_in bs)) leaves_left.sections l)

      all_behind : Each (Behind e.head) (later_said ++ sections_said)
      all_behind =
          each_append (Behind e.head) later_said sections_said
          (definitions_behind e.head (new_definition ∷ w.earlier) (definitions_from s q)
          (heads_later s (length w.done) (map id_of w.earlier) p w.leaves inside kind e r q x))
          sections_behind_lem

      complaints_here : Each (UpTo e.head) complaints
      unfolding UpTo
      complaints_here = each_map (λ c h. omega arith) complaints (definition_line w.earlier (definition_items (lines_of s e.pattern)) e.head)

      -- The first fault goes before all that stand behind it.
      pub refused_one : {why : Why} → f ≡ Some why → RefusedThree s (record { why = why; line = e.head })
      unfolding told earliest refusal
      refused_one {why} is =
          let given : earliest complaints ≡ some (complaint (number_of why) e.head) = sym fault_said ∙ ap (λ (o : std.Option Why). refusal o e.head) is in
          let some_said : complaints ≡ [] → ⊥ = λ z. none_some (ap earliest z) given in
          sym (ap earliest all_said ∙ first_wins e.head complaints (later_said ++ sections_said) complaints_here all_behind some_said ∙ given)

      module _ (fine : f ≡ None) where
        none_said : complaints ≡ []
        unfolding refusal
        none_said = earliest_none complaints (sym fault_said ∙ rw fine)

        not_before : definition_of e.id w.earlier ≡ none
        not_before = fresh_none e.id w.earlier (not_seen s (length w.done) (map id_of w.earlier) p w.leaves inside kind e r)

        abbrev found_outline : Outline
        found_outline = outlined (look_up mid) (drop (mark + 2) (take end mid))

        few : length w.done < 26
        few = few_before s (length w.done) (map id_of w.earlier) p w.leaves inside kind e r

        abbrev vs : List ℕ
        vs = entered mark end e.id found_outline mid

        abbrev said : definitions.Says (lines_of s e.pattern) new_definition.items
        said = lines_say s (length w.done) (map id_of w.earlier) p w.leaves inside kind e r

        text_row_lem : new ≡ text_row new_definition.items
        text_row_lem =
            text_is ds w.earlier mid held_mid agree text (lines_of s e.pattern) (run_good s w.small e.pattern) there e.head
            new_definition.items said

        row_is : row_with_lem found_outline ≡ definition_row (items_of ds) new_definition
        unfolding definition_row
        row_is =
            let o = outline_is ds w.earlier mid held_mid agree text (lines_of s e.pattern) (run_good s w.small e.pattern) there e.head
            new_definition.items said none_said in
            rw (o, text_row_lem) refl

        new_fits : DefinitionFits ds new_definition
        unfolding DefinitionFits
        new_fits = (
          small_id,
          text_fits ds w.earlier mid held_mid agree text (lines_of s e.pattern) (run_good s w.small e.pattern) there e.head
              new_definition.items said none_said,
        )

        front_next : Front ds (w.done ++ (new_definition ∷ [])) vs end
        front_next =
            let a = end_inside in
            let b = same_room in
            let z : end ≡ mark + length (definition_row (items_of ds) new_definition) = rw (← row_is) (omega arith) in
            let g = front_grows new_definition w.front few new_fits (omega arith) z in
            let is : vs ≡ sets ws mark (definition_row (items_of ds) new_definition ++ (0 ∷ [])) =
            entered_is found_outline ∙ ap (λ (row : List ℕ). sets ws mark (row ++ (0 ∷ []))) row_is in
            subst (λ (ys : List ℕ). Front ds (w.done ++ (new_definition ∷ [])) ys end) (sym is) g

        same_next : (n : ℕ) → definition_of n (new_definition ∷ w.earlier) ≡ definition_of n (w.done ++ (new_definition ∷ []))
        unfolding definition_of provided◌then◌else◌ or_else
        same_next n =
            by_cases (eqb e.id n)
            (λ t.
            let z = sym (w.same n) ∙ ap (λ (k : ℕ). definition_of k w.earlier) (sym (eqb-true e.id n t)) ∙ not_before in
            rw (definition_append n w.done (new_definition ∷ []), z, t) refl)
            (λ t. rw (definition_append n w.done (new_definition ∷ []), t, w.same n) (sym (or_none (definition_of n w.done))))

        pub loading_next : Loading s vs end q
        unfolding id_of
        loading_next =
            let a = reached in
            let b = x.onward in
            let l = length-append w.done (new_definition ∷ []) in
            let row = row_with_lem found_outline ++ (0 ∷ []) in
            let k = length-append (row_with_lem found_outline) (0 ∷ []) in
            let i = end_inside in
            let j = same_room in
            record {
              small = w.small;
              kept = rw (entered_is found_outline) (kept_on mark row (omega arith) (omega arith) w.kept);
              filled = omega arith;
              done = w.done ++ (new_definition ∷ []);
              front = front_next;
              all = w.all ∙ ap (λ ys. w.done ++ ys) left_is ∙ sym (append_assoc w.done (new_definition ∷ []) (definitions_from s q));
              earlier = new_definition ∷ w.earlier;
              same = same_next;
              leaves = rw l leaves_left;
              clear = split ∙ ap (λ cs. cs ++ later_said) none_said;
            }

      pub loads_one : f ≡ None → (o : Outline) (vs : List ℕ) → o ≡ outlined (look_up mid) (drop (mark + 2) (take end mid))
          → vs ≡ entered mark end e.id o mid → LoadsNext s vs p (record { mark = end; sections = q })
      loads_one z o vs o_is vs-is =
          let a = r.onward in
          let b = x.onward in
          record { loading = rw (vs-is, o_is) (loading_next z); further = omega arith }

-- All definitions are loaded where the first section begins.
only_sections : (bs : List Block) → block_order 2 bs ≡ [] → (definition_blocks bs ≡ []) × (section_blocks bs ≡ bs)
unfolding block_order turn complain_if definition_blocks section_blocks flat_map definition_if section_if
only_sections [] e = (refl, refl)
only_sections (b ∷ bs) e =
    by_kind (block_kind b)
    (λ k. nil_is_not_cons (sym (rw k at e)))
    (λ k. nil_is_not_cons (sym (rw k at e)))
    (λ k. let h = only_sections bs (rw k at e) in (rw k h.0, rw k (ap (λ xs. b ∷ xs) h.1)))

sections_first : (b : Block) (bs : List Block) → block_order 1 (b ∷ bs) ≡ [] → (block_kind b ≡ definition → ⊥)
    → (definition_blocks (b ∷ bs) ≡ []) × (section_blocks (b ∷ bs) ≡ b ∷ bs)
unfolding block_order turn complain_if definition_blocks section_blocks flat_map definition_if section_if
sections_first b bs e n =
    by_kind (block_kind b)
    (λ k. nil_is_not_cons (sym (rw k at e)))
    (λ k. absurd (n k))
    (λ k. let h = only_sections bs (rw k at e) in (rw k h.0, rw k (ap (λ xs. b ∷ xs) h.1)))

module _ (s ws : List ℕ) (mark : ℕ) (p : Place) (w : Loading s ws mark p) (faultless : text_faults (blocks_of s) ≡ [])
    (inside : p.at < length s) (kind : block_kind (block_at s p.number p.at) ≡ definition → ⊥) where
  only : (definition_blocks (blocks_from s p) ≡ []) × (section_blocks (blocks_from s p) ≡ blocks_from s p)
  only =
      let o = w.leaves.opens inside in
      rw o (sections_first (block_at s p.number p.at) (blocks (lines_past s p.number p.at)) (rw o at w.leaves.order) kind)

  none_left : definitions_from s p ≡ []
  unfolding definitions_from
  none_left = ap (map definition_in) only.0

  all_done : w.done ≡ (song_of s).definitions
  all_done = sym (w.all ∙ ap (λ ys. w.done ++ ys) none_left ∙ append-nil w.done)

  begins_there : Begins s p
  unfolding blocks_from sections_from song_of song_in
  begins_there =
      let l = w.leaves in
      record {
        onward = record {
          number = l.number;
          counted = l.counted;
          inside = l.inside;
          opens = l.opens;
          fair = ap (flat_map section_faults) (sym only.1 ∙ l.sections) ∙ (clean (blocks_of s) faultless).sections;
        };
        all = sym only.1 ∙ l.sections;
        sections = ap (map section_in) (sym only.1 ∙ l.sections);
      }

  pub loads_all : LoadsAll s ws (record { mark = mark; sections = p })
  unfolding definitions_references
  loads_all =
      record {
        clear = w.clear ∙ ap (definitions_references w.earlier) none_left;
        ready = record {
          small = w.small;
          room = let r = w.kept.room in omega arith;
          front = subst (λ ds. Front (song_of s).definitions ds ws mark) all_done w.front;
        };
        kept = w.kept;
        begins = begins_there;
        filled = w.filled;
      }
