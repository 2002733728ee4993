-- The definitions at the front of the row: each number is found in it as among the definitions, and one more definition stands there once it is laid.
use Prim.Native.Nat.{ℕ, zero, suc, ◌+◌, ◌/◌, ◌%◌, ◌<◌, ◌≤◌}
use mathlib.Core.Path.{◌≡◌, refl, sym, ap, ◌∙◌}
use mathlib.Core.List.{List, [], ◌∷◌, ◌++◌, append_assoc, append-nil, flat_map}
use mathlib.Core.Bool.{false}
use mathlib.Core.Option.{Option, none, some}
use native.Mathlib.Omega.{arith}
use borrow.Author.Tests.{eq-eqb, ne_eqb}
use lib.Dec.{eqb}
use lib.ListN.{length, take, drop, get_or, length-append, take-append-drop}
use lib.Seq.{sets, sets-eq, get_or-drop, take-take, take_at}
use Rattle.songcode.specs.Lists.{provided◌then◌else◌}
use Rattle.songcode.specs.Song.{Items, Definition}
use Rattle.songcode.specs.Answer.References.{definition_of, items_of, put_in}
use Rattle.songcode.proofs.ListLaws.{by_cases}
use Rattle.score.specs.Places.{head_word, length_at, id_at, place_by, place_of, stretch_of}
use Rattle.score.specs.Sections.{items_row}
use Rattle.score.specs.Standing.{Stands}
use Rattle.score.proofs.ViewLaws.{behind_there, holds_there}
use Rattle.outlines.specs.Words.{vacant, outline_word, outline_in, look_up, is_missing}
use Rattle.outlines.specs.Rows.{outline_by, outline_of, text_row, definition_row, definitions_row}
use Rattle.outlines.proofs.WordLaws.{outline_again}
use Rattle.outlines.proofs.DescribedLaws.{described_tells, described_sketches, described_small, described_shallow}
use Rattle.laying.specs.Fronts.{DefinitionFits, TextFits, DefinitionsFit, Front}
use Rattle.laying.specs.Loading.{HeldItems, Held}

outline_back : (all : List Definition) (find : ℕ → Option Items) (i : Option Items) → TextFits all i
    → outline_in (outline_word (outline_of find i)) ≡ outline_of find i
unfolding outline_of vacant TextFits
outline_back all find none f = outline_again vacant (omega arith) (omega arith)
outline_back all find (some r) f =
    outline_again (outline_by r (put_in find r)) (described_small r (put_in find r)) (described_shallow r (put_in find r) f.shallow)

head_length : (n id : ℕ) → id ≤ 9999 → head_word n id / 32768 ≡ n
head_length n id h = omega arith

head_id : (n id : ℕ) → id ≤ 9999 → head_word n id % 32768 / 2 ≡ id
head_id n id h = omega arith

pub row_length_lem : (find : ℕ → Option Items) (d : Definition) → length (definition_row find d) ≡ 2 + length (text_row d.items)
unfolding definition_row
row_length_lem find d = omega arith

module _ (all : List Definition) (ws : List ℕ) (n : ℕ) where
  -- A definition stands at a place, or the mark does.
  FoundAt : ℕ → Option Definition → Type 0
  FoundAt place none = length_at ws place ≡ 0
  FoundAt place (some d) = DefinitionFits all d × (rest : List ℕ) × (drop place ws ≡ definition_row (items_of all) d ++ rest)

  word_at : (at k : ℕ) (row : List ℕ) → drop at ws ≡ row → get_or ws (at + k) 0 ≡ get_or row k 0
  word_at at k row e = sym (get_or-drop at ws k 0) ∙ ap (λ (l : List ℕ). get_or l k 0) e

  first_at : (at : ℕ) (row : List ℕ) → drop at ws ≡ row → get_or ws at 0 ≡ get_or row 0 0
  first_at at row e = let z : at + 0 ≡ at = omega arith in rw z at (word_at at 0 row e)

  module _ (at : ℕ) (d : Definition) (rest : List ℕ) (fits : DefinitionFits all d) (there : drop at ws ≡ definition_row (items_of all) d ++ rest) where
    length_there : length_at ws at ≡ 2 + length (text_row d.items)
    unfolding definition_row DefinitionFits
    length_there = rw (first_at at _ there) (head_length (2 + length (text_row d.items)) d.id fits.0)

    id_there : id_at ws at ≡ d.id
    unfolding definition_row DefinitionFits
    id_there = rw (first_at at _ there) (head_id (2 + length (text_row d.items)) d.id fits.0)

    some_there : eqb (length_at ws at) 0 ≡ false
    some_there = let l = length_there in ne_eqb (length_at ws at) 0 (λ z. let y : ⊥ = omega arith in y)

  found : (k at : ℕ) (ds : List Definition) (rest : List ℕ) → length ds ≤ k → DefinitionsFit all ds → drop at ws ≡ definitions_row all ds ++ (0 ∷ rest)
      → FoundAt (place_by k ws at n) (definition_of n ds)
  unfolding FoundAt place_by provided◌then◌else◌ definition_of definitions_row flat_map DefinitionsFit
  found zero at [] rest h f e = rw (first_at at (0 ∷ rest) e) refl
  found (suc k) at [] rest h f e = let z : length_at ws at ≡ 0 = rw (first_at at (0 ∷ rest) e) refl in rw (eq-eqb (length_at ws at) 0 z) z
  found zero at (d ∷ ds) rest h f e = let z : ⊥ = omega arith in absurd z
  found (suc k) at (d ∷ ds) rest h f e =
      let row = definition_row (items_of all) d in
      let more = definitions_row all ds ++ (0 ∷ rest) in
      let there : drop at ws ≡ row ++ more = e ∙ append_assoc row (definitions_row all ds) (0 ∷ rest) in
      rw (some_there at d more f.0 there, id_there at d more f.0 there)
      (by_cases (eqb d.id n)
      (λ t. rw t (f.0, more, there))
      (λ t. rw t (found k (at + length_at ws at) ds rest (omega arith) f.1
      (behind_there ws at (length_at ws at) row more there (length_there at d more f.0 there ∙ sym (row_length_lem (items_of all) d))))))

  -- What is found of the number.
  held_none : (place : ℕ) → place_of ws n ≡ place → length_at ws place ≡ 0 → Held all ws none (is_missing ws n) (stretch_of ws n) (look_up ws n)
  unfolding Held is_missing stretch_of look_up provided◌then◌else◌
  held_none place is e = rw (is, e) (refl, omega arith, refl)

  module _ (place : ℕ) (is : place_of ws n ≡ place) (d : Definition) (rest : List ℕ) (fits : DefinitionFits all d)
      (there : drop place ws ≡ definition_row (items_of all) d ++ rest) where
    abbrev ends : ℕ
    ends = place + (2 + length (text_row d.items))

    not_missing : is_missing ws n ≡ false
    unfolding is_missing
    not_missing = rw is (some_there place d rest fits there)

    stretch_is : stretch_of ws n ≡ record { from = place + 2; to = ends }
    unfolding stretch_of
    stretch_is = rw (is, length_there place d rest fits there) refl

    outline_is : look_up ws n ≡ outline_of (items_of all) d.items
    unfolding look_up provided◌then◌else◌ definition_row DefinitionFits
    outline_is = rw (not_missing, is, word_at place 1 _ there) (outline_back all (items_of all) d.items fits.1)

    text_there : (t : List ℕ) → text_row d.items ≡ t → drop (place + 2) (take ends ws) ≡ t
    unfolding definition_row
    text_there t e =
        let xs = text_row d.items in
        (holds_there ws (place + 2) ends xs rest (behind_there ws place 2 (_ ∷ _ ∷ []) (xs ++ rest) there refl) (omega arith)).words ∙ e

    held_text : (i : Option Items) → d.items ≡ i → TextFits all i → HeldItems all ws (record { from = place + 2; to = ends }) (outline_of (items_of all) i) i
    unfolding HeldItems outline_of TextFits text_row items_row Stands
    held_text none e f = (rw e (omega arith), refl)
    held_text (some r) e f =
        record {
          stands = text_there (items_row r) (ap text_row e);
          fits = f;
          sketched = described_sketches r (put_in (items_of all) r);
          tells = described_tells r (put_in (items_of all) r);
        }

    held_some : Held all ws (some d) (is_missing ws n) (stretch_of ws n) (look_up ws n)
    unfolding Held DefinitionFits
    held_some = rw (stretch_is, outline_is) (not_missing, held_text d.items refl fits.1)

  found_held : (c : Option Definition) → FoundAt (place_of ws n) c → Held all ws c (is_missing ws n) (stretch_of ws n) (look_up ws n)
  unfolding FoundAt
  found_held none f = held_none (place_of ws n) refl f
  found_held (some d) f = held_some (place_of ws n) refl d f.1 f.0 f.2

  -- All definitions of the front are held.
  pub front_held : {ds : List Definition} {mark : ℕ} → Front all ds ws mark
      → Held all ws (definition_of n ds) (is_missing ws n) (stretch_of ws n) (look_up ws n)
  unfolding place_of
  front_held {ds} {mark} f =
      let row = definitions_row all ds in
      let split : ws ≡ row ++ (0 ∷ drop (mark + 1) ws) =
      sym (take-append-drop (mark + 1) ws) ∙ ap (λ (l : List ℕ). l ++ drop (mark + 1) ws) f.words ∙ append_assoc row (0 ∷ []) (drop (mark + 1) ws) in
      found_held (definition_of n ds) (found 26 0 ds (drop (mark + 1) ws) f.few f.fits split)

-- The front stays where its words do.
pub front_kept : {all ds : List Definition} {ws vs : List ℕ} {mark at : ℕ} → Front all ds ws mark → mark < at → take at vs ≡ take at ws → Front all ds vs mark
front_kept {ws = ws} {vs = vs} {mark = mark} {at = at} f h e =
    record {
      words = sym (take-take (mark + 1) at vs (omega arith)) ∙ ap (take (mark + 1)) e ∙ take-take (mark + 1) at ws (omega arith) ∙ f.words;
      size = f.size;
      few = f.few;
      fits = f.fits;
    }

pub no_definition : (all : List Definition) (ws : List ℕ) → take 1 ws ≡ 0 ∷ [] → Front all [] ws 0
unfolding definitions_row flat_map DefinitionsFit
no_definition all ws e = record { words = e; size = refl; few = omega arith; fits = tt }

rows_append : (all ds : List Definition) (d : Definition) → definitions_row all (ds ++ (d ∷ [])) ≡ definitions_row all ds ++ definition_row (items_of all) d
unfolding definitions_row flat_map
rows_append all [] d = append-nil (definition_row (items_of all) d)
rows_append all (x ∷ ds) d =
    let row = definition_row (items_of all) in
    ap (λ (ws : List ℕ). row x ++ ws) (rows_append all ds d) ∙ sym (append_assoc (row x) (definitions_row all ds) (row d))

fits_append : (all ds : List Definition) (d : Definition) → DefinitionsFit all ds → DefinitionFits all d → DefinitionsFit all (ds ++ (d ∷ []))
unfolding DefinitionsFit
fits_append all [] d f g = (g, tt)
fits_append all (x ∷ ds) d f g = (f.0, fits_append all ds d f.1 g)

-- One more definition is laid where the mark is, and the mark behind it.
pub front_grows : {all ds : List Definition} {ws : List ℕ} {mark end : ℕ} (d : Definition) → Front all ds ws mark → length ds < 26 → DefinitionFits all d
    → end < length ws → end ≡ mark + length (definition_row (items_of all) d)
    → Front all (ds ++ (d ∷ [])) (sets ws mark (definition_row (items_of all) d ++ (0 ∷ []))) end
front_grows {all} {ds} {ws} {mark} {end} d f less fits inside e =
    let rows = definitions_row all ds in
    let row = definition_row (items_of all) d in
    let new = row ++ (0 ∷ []) in
    let size = f.size in
    let before : take mark ws ≡ rows =
    sym (take-take mark (mark + 1) ws (omega arith)) ∙ ap (take mark) f.words ∙ take_at rows (0 ∷ []) mark (sym size) in
    let joined : rows ++ new ≡ definitions_row all (ds ++ (d ∷ [])) ++ (0 ∷ []) = rw (rows_append all ds d) (sym (append_assoc rows row (0 ∷ []))) in
    let k = length-append rows new in
    let l = length-append row (0 ∷ []) in
    let m = length-append rows row in
    let n = length-append ds (d ∷ []) in
    let rest = drop (mark + length new) ws in
    record {
      words = ap (take (end + 1)) (sets-eq new ws mark (omega arith) ∙ ap (λ (l : List ℕ). (l ++ new) ++ rest) before)
          ∙ take_at (rows ++ new) rest (end + 1) (omega arith) ∙ joined;
      size = rw (rows_append all ds d) (omega arith);
      few = omega arith;
      fits = fits_append all ds d f.fits fits;
    }
