-- What the tables and the buffer hold of a definition: how it is known, how it stays, how one comes, and what it plays.
use Prim.Native.Nat.{ℕ}
use mathlib.Core.Path.{◌≡◌, refl, ap, ◌∙◌}
use mathlib.Core.List.{List, [], ◌∷◌, flat_map}
use mathlib.Core.Bool.{Bool, not}
use mathlib.Core.Option.{Option, none, some, bind}
use native.Mathlib.Omega.{arith}
use lib.ListN.{take, drop}
use Rattle.songcode.specs.Complaints.{earliest}
use Rattle.songcode.specs.Lists.{provided◌then◌else◌, is_some}
use Rattle.songcode.specs.Answer.Lines.{Line}
use Rattle.songcode.specs.Song.{Items, named, Definition}
use Rattle.songcode.specs.Answer.PatternText.{loops_deep, references}
use Rattle.songcode.specs.Answer.References.{definition_of, items_of, put_in_item, put_in, pattern_items, reference_fault, depth_fault, definition_references}
use Rattle.songcode.specs.Description.Fits.{Refers, ReferAll}
use Rattle.songcode.proofs.ListLaws.{Each, each_map, append_is_nil, gather_nil}
use Rattle.songcode.proofs.ReferencesAgree.{refers_sound}
use Rattle.songcode.proofs.WrittenBefore.{appended}
use Rattle.tokens.specs.TokenWords.{token_words}
use Rattle.score.specs.declared.stretches.Stretch.{Stretch}
use Rattle.score.specs.Places.{stretch_of}
use Rattle.score.specs.Sections.{items_row}
use Rattle.score.specs.Standing.{ItemsFit, Stands}
use Rattle.score.proofs.StandingLaws.{written_stands}
use Rattle.songcode.proofs.GlueLaws.{put_in_same}
use Rattle.player.proofs.Meaning.{row_meaning}
use Rattle.player.proofs.Walkables as walkables
use Rattle.player.proofs.Walkables.{refers_walkable, empty_row}
use Rattle.outlines.specs.declared.readings.Outline.{Outline}
use Rattle.outlines.specs.Words.{vacant, look_up, is_missing}
use Rattle.outlines.specs.Readings.{outlined}
use Rattle.outlines.specs.Rows.{outline_of, text_row}
use Rattle.outlines.specs.Faults.{all_faults, faultless, fault_told, fault_in}
use Rattle.outlines.specs.Told.{refusal, Tells, Told, KnowsItems, Knows, Known}
use Rattle.outlines.proofs.OutlineAgree.{outline_tells}
use Rattle.outlines.proofs.SketchLaws.{outline_sketches}
use Rattle.outlines.proofs.KnownLaws.{empty_known}
use Rattle.outlines.proofs.SmallLaws.{outlined_small}
use Rattle.outlines.proofs.DescribedLaws.{tells_described}
use Rattle.outlines.proofs.FaultAgree.{fault_given}
use Rattle.laying.specs.Laying.{run_tokens}
use Rattle.laying.specs.Scores.{named_text, Carries}
use Rattle.laying.specs.Fronts.{TextFits}
use Rattle.laying.specs.Loading.{HeldText, HeldItems, Held}
use Rattle.laying.proofs.FitLaws.{Good, items_fit}
use Rattle.laying.proofs.DefinitionLaws as definitions

module _ (ds : List Definition) (ws : List ℕ) where
  -- What is held is known.
  items_known : (i : Option Items) (at : Stretch) (o : Outline) → HeldItems ds ws at o i → KnowsItems i o
  unfolding HeldItems KnowsItems
  items_known none at o h = h.1
  items_known (some r) at o h = (h.sketched, λ e. rw (put_in_same (items_of ds) r e) at h.tells)

  held_known : (c : Option Definition) (m : Bool) (at : Stretch) (o : Outline) → Held ds ws c m at o → Knows c m o
  unfolding Held Knows
  held_known none m at o h = (h.0, h.2)
  held_known (some d) m at o h = (h.0, items_known d.items at o h.1)

  -- A definition that is found is held, and so are its items.
  found_held : (c : Option Definition) (m : Bool) (at : Stretch) (o : Outline) (d : Definition) (q : Items) → Held ds ws c m at o
      → c ≡ some d → d.items ≡ some q → HeldText ds ws at o q
  unfolding Held HeldItems
  found_held c m at o d q h e f = items d.items f (held c e h)
    where
      held : (b : Option Definition) → b ≡ some d → Held ds ws b m at o → HeldItems ds ws at o d.items
      held b g w = let z : Held ds ws (some d) m at o = rw g at w in z.1

      items : (i : Option Items) → i ≡ some q → HeldItems ds ws at o i → HeldText ds ws at o q
      items i g w = let z : HeldItems ds ws at o (some q) = rw g at w in z

pub references_right : (ds : List Definition) (r : Items) (head : ℕ) → definition_references ds (some r) head ≡ [] → Each (Refers ds) (references r)
unfolding definition_references
references_right ds r head e =
    each_map (λ n f. refers_sound ds n head (definition_of n ds) refl f) (references r)
    (gather_nil (λ n. reference_fault (definition_of n ds) head) (references r)
    (append_is_nil (flat_map (λ n. reference_fault (definition_of n ds) head) (references r)) (depth_fault ds r head) e).0)

-- A new definition, where the earlier ones among all are held.
module _ (ds earlier : List Definition) (ws : List ℕ)
    (held : (n : ℕ) → Held ds ws (definition_of n earlier) (is_missing ws n) (stretch_of ws n) (look_up ws n))
    (agree : (n : ℕ) (x : Definition) → definition_of n earlier ≡ some x → definition_of n ds ≡ some x) where
  earlier_known : Known earlier (is_missing ws) (look_up ws)
  unfolding Known
  earlier_known n = held_known ds ws (definition_of n earlier) (is_missing ws n) (stretch_of ws n) (look_up ws n) (held n)

  refers_all : (ns : List ℕ) → Each (Refers earlier) ns → ReferAll ds ns
  unfolding Each ReferAll
  refers_all [] h = tt
  refers_all (n ∷ ns) h =
      let w = h.0 in (
        record {
          definition = w.definition;
          items = w.items;
          found = agree n w.definition w.found;
          filled = w.filled;
          plain = w.plain;
        },
        refers_all ns h.1,
      )

  refer_told : (n : ℕ) → Refers earlier n → Told (look_up ws) (items_of ds) n
  unfolding Told put_in_item items_of bind
  refer_told n w =
      let t = (found_held ds ws (definition_of n earlier) (is_missing ws n) (stretch_of ws n) (look_up ws n) w.definition w.items
      (held n) w.found w.filled).tells in
      let k : Tells (look_up ws n) w.items = rw (put_in_same (items_of ds) w.items w.plain) at t in
      rw (agree n w.definition w.found, w.filled) k

  -- The words of its lines stand in its stretch.
  module _ (at : Stretch) (ls : List Line) (good : Each Good (run_tokens ls))
      (there : drop at.from (take at.to ws) ≡ token_words (run_tokens ls)) (head : ℕ) where
    stands : (r : Items) → definitions.Says ls (some r) → Stands ws at r
    unfolding definitions.Says
    stands r w = written_stands ws at r (there ∙ ap token_words w.0)

    fits : (r : Items) → definitions.Says ls (some r) → ItemsFit r
    unfolding definitions.Says
    fits r w = items_fit r (run_tokens ls) w.0 good

    nothing_there : definitions.Says ls none → drop at.from (take at.to ws) ≡ []
    unfolding definitions.Says token_words
    nothing_there w = there ∙ rw w

    -- Its fault is what stage 3 says of it.
    pub fault_is : (i : Option Items) → definitions.Says ls i
        → refusal (fault_in (is_missing ws) (look_up ws) (drop at.from (take at.to ws))) head
        ≡ earliest (definition_references earlier i head)
    unfolding fault_in all_faults faultless fault_told refusal earliest definition_references provided◌then◌else◌ definitions.Says
    fault_is none w = rw (nothing_there w) refl
    fault_is (some r) w = fault_given earlier (is_missing ws) (look_up ws) earlier_known head ws at r (stands r w) (fits r w) w.1

    -- Its words are those of the definition's row: its text, and where stage 3 complains of nothing, its outline.
    pub text_is : (i : Option Items) → definitions.Says ls i → token_words (run_tokens ls) ≡ text_row i
    unfolding definitions.Says token_words text_row items_row
    text_is none w = rw w refl
    text_is (some r) w = ap token_words (w.0 ∙ appended r)

    pub text_fits : (i : Option Items) → definitions.Says ls i → definition_references earlier i head ≡ [] → TextFits ds i
    unfolding TextFits definitions.Says
    text_fits none w e = tt
    text_fits (some r) w e =
        record { words = fits r w; shallow = w.1; refers = refers_all (references r) (references_right earlier r head e) }

    pub outline_is : (i : Option Items) → definitions.Says ls i → definition_references earlier i head ≡ []
        → outlined (look_up ws) (drop at.from (take at.to ws)) ≡ outline_of (items_of ds) i
    unfolding KnowsItems outline_of definitions.Says
    outline_is none w e = empty_known (look_up ws) ws at (nothing_there w)
    outline_is (some r) w e =
        let small = (outlined_small (look_up ws) (drop at.from (take at.to ws))).0 in
        tells_described (items_of ds) (outlined (look_up ws) (drop at.from (take at.to ws))) r
        (outline_sketches (look_up ws) ws at r (stands r w) (fits r w) w.1)
        (outline_tells (look_up ws) (items_of ds) ws at r (stands r w) (fits r w) w.1
        (each_map refer_told (references r) (references_right earlier r head e)))
        small.0
        small.1

-- Where all definitions are held, each number says what the song does.
module _ (ds : List Definition) (ws : List ℕ) (held : (n : ℕ) → Held ds ws (definition_of n ds) (is_missing ws n) (stretch_of ws n) (look_up ws n)) where
  pub missing_told : (n : ℕ) → is_missing ws n ≡ not (is_some (definition_of n ds))
  unfolding Held is_some
  missing_told n = of (definition_of n ds) (held n)
    where
      of : (c : Option Definition) → Held ds ws c (is_missing ws n) (stretch_of ws n) (look_up ws n) → is_missing ws n ≡ not (is_some c)
      of none h = h.0
      of (some x) h = h.0

  pub filled_told : (n : ℕ) → (named_text ws n).outline.empty ≡ not (is_some (pattern_items ds (named n)))
  unfolding Held HeldItems is_some pattern_items items_of bind vacant named_text
  filled_told n = of (definition_of n ds) (held n)
    where
      items : (i : Option Items) → HeldItems ds ws (stretch_of ws n) (look_up ws n) i
          → (look_up ws n).empty ≡ not (is_some (bind i (λ r. some (put_in (items_of ds) r))))
      items none h = rw h.1
      items (some r) h = h.sketched.filled

      of : (c : Option Definition) → Held ds ws c (is_missing ws n) (stretch_of ws n) (look_up ws n)
          → (look_up ws n).empty ≡ not (is_some (bind (bind c (λ x. x.items)) (λ r. some (put_in (items_of ds) r))))
      of none h = rw h.2
      of (some x) h = items x.items h.1

  refers : (n : ℕ) → Refers ds n → walkables.Refers ws (items_of ds) n
  unfolding items_of bind loops_deep
  refers n w =
      let t = found_held ds ws (definition_of n ds) (is_missing ws n) (stretch_of ws n) (look_up ws n) w.definition
      w.items (held n) w.found w.filled in
      let k = t.fits.shallow in
      record {
        items = w.items;
        says =
            record {
              said = rw w.found w.filled;
              plain = w.plain;
              stands = t.stands;
            };
        fits = t.fits.words;
        shallow = omega arith;
      }

  refers_each : (ns : List ℕ) → ReferAll ds ns → Each (walkables.Refers ws (items_of ds)) ns
  unfolding ReferAll Each
  refers_each [] h = tt
  refers_each (n ∷ ns) h = (refers n h.0, refers_each ns h.1)

  pub carries_all : (n : ℕ) → Carries ws (named_text ws n) (pattern_items ds (named n))
  unfolding Held HeldItems pattern_items items_of bind Carries named_text loops_deep
  carries_all n = of (definition_of n ds) (held n)
    where
      items : (i : Option Items) → HeldItems ds ws (stretch_of ws n) (look_up ws n) i
          → Carries ws (named_text ws n) (bind i (λ r. some (put_in (items_of ds) r)))
      items none h = (h.1, λ k. empty_row k ws (stretch_of ws n) h.0)
      items (some r) h =
          let z = h.fits.shallow in (
            h.sketched.filled,
            h.tells,
            λ k.
                row_meaning ws (items_of ds) k r (stretch_of ws n)
                (refers_walkable ws (items_of ds) r h.fits.words (omega arith) (refers_each (references r) h.fits.refers))
                h.stands,
          )

      of : (c : Option Definition) → Held ds ws c (is_missing ws n) (stretch_of ws n) (look_up ws n)
          → Carries ws (named_text ws n) (bind (bind c (λ x. x.items)) (λ r. some (put_in (items_of ds) r)))
      of none h = (h.2, λ k. empty_row k ws (stretch_of ws n) h.1)
      of (some x) h = items x.items h.1
