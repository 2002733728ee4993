-- What stops a file in stage 2 is stated exactly where the answer complains of it.
use Prim.Native.Nat.{ℕ, suc, ◌+◌, ◌<◌, ◌≤◌, max}
use Prim.Native.Char.{code}
use mathlib.Core.Path.{◌≡◌, refl, ap, sym, subst, ◌∙◌}
use mathlib.Core.Logic.{◌↔◌, ◌⊎◌, inl, inr, ⊎_elim}
use mathlib.Core.List.{List, [], ◌∷◌, ◌++◌, map, Memᴰ, flat_map}
use mathlib.Core.List.{head-eq_of_cons-eq, tail-eq_of_cons-eq}
use mathlib.Core.Bool.{true, ◌||◌, not}
use mathlib.Core.Option.{some}
use native.Mathlib.Omega.{arith}
use lib.Dec.{leb, ltb}
use lib.ListN.{length}
use borrow.Author.Tests.{eqb-true, ltb-true, ltb-false, lt-ltb, leb-true, le-leb}
use Rattle.songcode.specs.Lists.{is_empty, is_some}
use Rattle.songcode.specs.Bytes.{Byte, is_byte}
use Rattle.songcode.specs.Answer.Lines.{Line, Block}
use Rattle.songcode.specs.Complaints.{Complaint, complaint, complain_if}
use Rattle.songcode.specs.Song.{KeyName, Items}
use Rattle.songcode.specs.Answer.Keys.{of_metadata}
use Rattle.songcode.specs.Answer.PatternText.{definition_text}
use Rattle.songcode.specs.Answer.Sections.{kind_of_line, twice, key_said, behind_first, section_faults}
use Rattle.songcode.specs.Answer.SongText.{metadata, definition, section, kind_of_text, block_kind, turn, block_order, lines_if, metadata_lines, metadata_fault}
use Rattle.songcode.specs.Answer.SongText.{metadata_faults, head_in, definition_if, section_if, definition_blocks, section_blocks, heads_faults, first_line}
use Rattle.songcode.specs.Answer.SongText.{definition_faults, definitions_faults, or_no_section, text_faults}
use Rattle.songcode.specs.Description.WrittenPattern.{WrittenDefinitionText}
use Rattle.songcode.specs.Description.WrittenSong.{BeginsWith, lines_of, DefinitionHead}
use Rattle.songcode.specs.Description.StoppedText.{IsKey, KeyStops, MetadataStops, of_key, of_keys_lem, no_key, DefinitionStops, head_malformed, head_twice}
use Rattle.songcode.specs.Description.StoppedText.{head_27th}
use Rattle.songcode.specs.Description.StoppedText.{definition_text_lem, IsMetadata, IsDefinition, IsSection, OfKind, no_more, this_one, another, LaterKind}
use Rattle.songcode.specs.Description.StoppedText.{TextStops}
use Rattle.songcode.specs.Description.StoppedText.{kind_late, in_metadata_lem, in_definition_lem, in_section, Stops2, stated, no_section_lem}
use Rattle.songcode.proofs.ListLaws.{by_cases, is_empty_true, nil_is_not_cons}
use Rattle.songcode.proofs.ChoiceLaws.{zero_is_not_one, is_some_exact}
use Rattle.songcode.proofs.MemberLaws.{either_passes, pass_left, pass_right, found, either, only_one, in_gather, gather_in, in_complaint, complaint_in}
use Rattle.songcode.proofs.NumbersAgree.{count_exact}
use Rattle.songcode.proofs.PatternAgree.{definition_exact}
use Rattle.songcode.proofs.LineAgree.{by_kind as by-line-kind}
use Rattle.songcode.proofs.LineStops.{key_exact, fails_exact, key_stops_exact}
use Rattle.songcode.proofs.OrderStops.{Again, twice_in, in_twice}
use Rattle.songcode.proofs.SectionStops.{key_again, key_sign, section_stops_exact}
use Rattle.songcode.proofs.BlockKinds.{by_kind, metadata_begins, begins_metadata, definition_begins, begins_definition, section_begins, begins_section}
use Rattle.songcode.proofs.DefinitionAgree.{head_of}

-- Blocks by their kind.
metadata_kind : (b : Block) → IsMetadata b ↔ (block_kind b ≡ metadata)
unfolding block_kind
metadata_kind b = (begins_metadata b.first.text, metadata_begins b.first.text)

dollar_kind : (bs : List Byte) → BeginsWith (code "$") bs → kind_of_text bs ≡ definition
unfolding BeginsWith is_byte
dollar_kind [] s = absurd s
dollar_kind (c ∷ bs) s = begins_definition c bs (eqb-true c.value (code "$") s)

pub definition_kind : (b : Block) → IsDefinition b ↔ (block_kind b ≡ definition)
unfolding block_kind
definition_kind b = (dollar_kind b.first.text, definition_begins b.first.text)

pub section_kind : (b : Block) → IsSection b ↔ (block_kind b ≡ section)
unfolding block_kind
section_kind b = ((λ s. begins_section b.first.text s.0 s.1), section_begins b.first.text)

module _ {kind : Block → Type 0} where
  kind_once : {bs xs ys : List Block} → OfKind kind bs xs → OfKind kind bs ys → xs ≡ ys
  kind_once no_more no_more = refl
  kind_once (this_one {b} k h) (this_one j g) = ap (λ z. b ∷ z) (kind_once h g)
  kind_once (this_one k h) (another n g) = absurd (n k)
  kind_once (another n h) (this_one k g) = absurd (n k)
  kind_once (another n h) (another m g) = kind_once h g

  pub kind_member : {bs cs : List Block} {b : Block} → OfKind kind bs cs → Memᴰ b cs → kind b
  kind_member no_more m = absurd (mathlib.Core.List.Memᴰ.not-nil m)
  kind_member {b = b} (this_one k h) m = ⊎_elim (λ e. subst (λ x. kind x) (sym e) k) (λ i. kind_member h i) (mathlib.Core.List.Memᴰ.cases_cons m)
  kind_member (another n h) m = kind_member h m

-- The answer's blocks of each kind are those of that kind.
metadata_blocks : List Block → List Block
metadata_blocks [] = []
metadata_blocks (b ∷ bs) = elim (block_kind b) [ metadata ↦ b ∷ metadata_blocks bs | definition ↦ metadata_blocks bs | section ↦ metadata_blocks bs ]

metadata_are : (bs : List Block) → OfKind IsMetadata bs (metadata_blocks bs)
unfolding metadata_blocks
metadata_are [] = no_more
metadata_are (b ∷ bs) =
    by_kind (block_kind b)
    (λ k. rw (k, metadata_blocks) (this_one ((metadata_kind b).1 k) (metadata_are bs)))
    (λ k. rw (k, metadata_blocks) (another {b = b} (λ m. let f = (metadata_kind b).0 m in zero_is_not_one (cc)) (metadata_are bs)))
    (λ k. rw (k, metadata_blocks) (another {b = b} (λ m. let f = (metadata_kind b).0 m in zero_is_not_one (cc)) (metadata_are bs)))

metadata_lines_lem : (bs : List Block) → metadata_lines bs ≡ lines_of (metadata_blocks bs)
unfolding metadata_lines metadata_blocks flat_map lines_of lines_if
metadata_lines_lem [] = refl
metadata_lines_lem (b ∷ bs) =
    by_kind (block_kind b)
    (λ k. rw (k, metadata_blocks) (ap (λ z. (b.first ∷ b.others) ++ z) (metadata_lines_lem bs)))
    (λ k. rw (k, metadata_blocks) (metadata_lines_lem bs))
    (λ k. rw (k, metadata_blocks) (metadata_lines_lem bs))

definitions_are : (bs : List Block) → OfKind IsDefinition bs (definition_blocks bs)
unfolding definition_blocks flat_map definition_if
definitions_are [] = no_more
definitions_are (b ∷ bs) =
    by_kind (block_kind b)
    (λ k. rw k (another {b = b} (λ m. let f = (definition_kind b).0 m in zero_is_not_one (cc)) (definitions_are bs)))
    (λ k. rw k (this_one ((definition_kind b).1 k) (definitions_are bs)))
    (λ k. rw k (another {b = b} (λ m. let f = (definition_kind b).0 m in zero_is_not_one (cc)) (definitions_are bs)))

sections_are : (bs : List Block) → OfKind IsSection bs (section_blocks bs)
unfolding section_blocks flat_map section_if
sections_are [] = no_more
sections_are (b ∷ bs) =
    by_kind (block_kind b)
    (λ k. rw k (another {b = b} (λ m. let f = (section_kind b).0 m in zero_is_not_one (cc)) (sections_are bs)))
    (λ k. rw k (another {b = b} (λ m. let f = (section_kind b).0 m in zero_is_not_one (cc)) (sections_are bs)))
    (λ k. rw k (this_one ((section_kind b).1 k) (sections_are bs)))

-- 3: the order of blocks.
later_turn : (a b : Block) → turn (block_kind b) < turn (block_kind a) → LaterKind a b
unfolding turn LaterKind
later_turn a b h =
    by_kind (block_kind a)
    (λ k. let z : ⊥ = omega (arith, rw (k, turn) at h) in absurd z)
    (λ k.
    by_kind (block_kind b)
    (λ j. inr ((definition_kind a).1 k, (metadata_kind b).1 j))
    (λ j. let z : ⊥ = omega (arith, rw (k, j, turn) at h) in absurd z)
    (λ j. let z : ⊥ = omega (arith, rw (k, j, turn) at h) in absurd z))
    (λ k.
    by_kind (block_kind b)
    (λ j. inl ((section_kind a).1 k, λ m. let f = (section_kind b).0 m in zero_is_not_one (cc)))
    (λ j. inl ((section_kind a).1 k, λ m. let f = (section_kind b).0 m in zero_is_not_one (cc)))
    (λ j. let z : ⊥ = omega (arith, rw (k, j, turn) at h) in absurd z))

turn_later : (a b : Block) → LaterKind a b → turn (block_kind b) < turn (block_kind a)
unfolding turn LaterKind
turn_later a b h =
    ⊎_elim
    (λ i.
    let k = (section_kind a).0 i.0 in
    by_kind (block_kind b)
    (λ j. rw (k, j, turn) (omega arith))
    (λ j. rw (k, j, turn) (omega arith))
    (λ j. absurd (i.1 ((section_kind b).1 j))))
    (λ i. let k = (definition_kind a).0 i.0 in
    let j = (metadata_kind b).0 i.1 in rw (k, j, turn) (omega arith))
    h

-- A block behind others, one of which is of a later kind, or which comes after a turn.
record Late (latest : ℕ) (bs : List Block) (c : Complaint) : Type 0 where
  before : List Block
  block : Block
  behind : List Block
  written : bs ≡ before ++ (block ∷ behind)
  late : (turn (block_kind block) < latest) ⊎ ((a : Block) × Memᴰ a before × (turn (block_kind block) < turn (block_kind a)))
  complained : c ≡ complaint 3 block.first.number

max_or : (x y z : ℕ) → x < max y z → (x < y) ⊎ (x < z)
max_or x y z h = by_cases (ltb x y) (λ t. inl (ltb-true x y t)) (λ f. let g = ltb-false x y f in inr (omega arith))

order_in : (latest : ℕ) (bs : List Block) {c : Complaint} → Memᴰ c (block_order latest bs) → Late latest bs c
unfolding block_order
order_in latest [] m = absurd (mathlib.Core.List.Memᴰ.not-nil m)
order_in latest (b ∷ bs) m =
    either (complain_if (ltb (turn (block_kind b)) latest) 3 b.first.number)
    (λ i.
    let h = in_complaint (ltb (turn (block_kind b)) latest) 3 b.first.number i in
    record { before = []; block = b; behind = bs; written = refl; late = inl (ltb-true _ _ h.0); complained = h.1 })
    (λ i.
    let r = order_in (max latest (turn (block_kind b))) bs i in
    record {
      before = b ∷ r.before;
      block = r.block;
      behind = r.behind;
      written = ap (λ z. b ∷ z) r.written;
      late =
          ⊎_elim
          (λ h. ⊎_elim (λ x. inl x) (λ x. inr (b, mathlib.Core.List.Memᴰ.head refl, x)) (max_or (turn (block_kind r.block)) latest (turn (block_kind b)) h))
          (λ h. inr (h.0, mathlib.Core.List.Memᴰ.tail h.1, h.2))
          r.late;
      complained = r.complained;
    })
    m

in_order : (latest : ℕ) (before : List Block) (b : Block) (behind : List Block)
    → (turn (block_kind b) < latest) ⊎ ((a : Block) × Memᴰ a before × (turn (block_kind b) < turn (block_kind a)))
    → Memᴰ (complaint 3 b.first.number) (block_order latest (before ++ (b ∷ behind)))
unfolding block_order
in_order latest [] b behind h =
    mathlib.Core.List.Memᴰ.append_left _
    (complaint_in 3 b.first.number
    (lt-ltb _ _
    (⊎_elim (λ x. x) (λ (i : (a : Block) × Memᴰ a [] × (turn (block_kind b) < turn (block_kind a))). absurd (mathlib.Core.List.Memᴰ.not-nil i.1)) h)))
in_order latest (x ∷ before) b behind h =
    mathlib.Core.List.Memᴰ.append_right (complain_if (ltb (turn (block_kind x)) latest) 3 x.first.number)
    (in_order (max latest (turn (block_kind x))) before b behind
    (⊎_elim
    (λ l. inl (omega arith))
    (λ (i : (a : Block) × Memᴰ a (x ∷ before) × (turn (block_kind b) < turn (block_kind a))).
    ⊎_elim
    (λ e. let k = subst (λ a. turn (block_kind b) < turn (block_kind a)) e i.2 in inl (omega arith))
    (λ m. inr (i.0, m, i.2))
    (mathlib.Core.List.Memᴰ.cases_cons i.1))
    h))

-- A line of metadata by itself.
every_key : (k : KeyName) → (of_metadata k ≡ true) ↔ Unit {0}
unfolding of_metadata
every_key k = ((λ e. tt), (λ u. refl))

line_stated : (l : Line) {c : Complaint} → Memᴰ c (metadata_fault l) → KeyStops (λ k. Unit {0}) l c ⊎ ((IsKey l → ⊥) × (c ≡ complaint 8 l.number))
unfolding metadata_fault
line_stated l {c} m =
    by-line-kind (kind_of_line l)
    (λ k. inl ((key_stops_exact of_metadata (λ j. Unit {0}) every_key l ((key_exact l).1 k)).0 (rw (k, metadata_fault) at m)))
    (λ k. inr ((λ s. let f = (key_exact l).0 s in zero_is_not_one (cc)), only_one {c = c} (rw (k, metadata_fault) at m)))
    (λ k. inr ((λ s. let f = (key_exact l).0 s in zero_is_not_one (cc)), only_one {c = c} (rw (k, metadata_fault) at m)))

stated_key : (l : Line) {c : Complaint} → KeyStops (λ k. Unit {0}) l c → Memᴰ c (metadata_fault l)
unfolding metadata_fault
stated_key l h = rw ((key_exact l).0 (key_sign h), metadata_fault) ((key_stops_exact of_metadata (λ j. Unit {0}) every_key l (key_sign h)).1 h)

stated_other : (l : Line) → (IsKey l → ⊥) → Memᴰ (complaint 8 l.number) (metadata_fault l)
unfolding metadata_fault
stated_other l n =
    by-line-kind (kind_of_line l)
    (λ k. absurd (n ((key_exact l).1 k)))
    (λ k. rw (k, metadata_fault) (mathlib.Core.List.Memᴰ.head refl))
    (λ k. rw (k, metadata_fault) (mathlib.Core.List.Memᴰ.head refl))

metadata_stated : (bs : List Block) {c : Complaint} → Memᴰ c (metadata_faults bs) → TextStops bs c
unfolding metadata_faults
metadata_stated bs {c} m =
    either (twice 4 key_said [] (metadata_lines bs))
    (λ i.
    let a = twice_in 4 key_said [] (metadata_lines bs) i in
    in_metadata_lem (metadata_blocks bs) a.before a.behind a.line (metadata_are bs) (sym (metadata_lines_lem bs) ∙ a.written)
    (of_keys_lem (key_again.0 a.holds)))
    (λ i.
    let g = in_gather metadata_fault (metadata_lines bs) i in
    let f = found g.1 in
    let stops : MetadataStops f.before g.0 c =
    ⊎_elim (λ h. of_key h) (λ h. subst (λ x. MetadataStops f.before g.0 x) (sym h.1) (no_key h.0)) (line_stated g.0 g.2) in
    in_metadata_lem (metadata_blocks bs) f.before f.behind g.0 (metadata_are bs) (sym (metadata_lines_lem bs) ∙ f.written) stops)
    m

stated_metadata : (bs : List Block) (before behind : List Line) (l : Line) → metadata_lines bs ≡ before ++ (l ∷ behind) → {c : Complaint}
    → MetadataStops before l c → Memᴰ c (metadata_faults bs)
unfolding metadata_faults
stated_metadata bs before behind l e {c} (of_keys_lem h) =
    mathlib.Core.List.Memᴰ.append_left (flat_map metadata_fault (metadata_lines bs))
    (subst (λ z. Memᴰ c (twice 4 key_said [] z)) (sym e) (in_twice 4 key_said [] before l behind (key_again.1 h)))
stated_metadata bs before behind l e {c} (of_key h) =
    mathlib.Core.List.Memᴰ.append_right (twice 4 key_said [] (metadata_lines bs))
    (gather_in metadata_fault (subst (λ z. Memᴰ l z) (sym e) (mathlib.Core.List.Memᴰ.append_right before (mathlib.Core.List.Memᴰ.head refl))) (stated_key l h))
stated_metadata bs before behind l e {c} (no_key n) =
    mathlib.Core.List.Memᴰ.append_right (twice 4 key_said [] (metadata_lines bs))
    (gather_in metadata_fault (subst (λ z. Memᴰ l z) (sym e) (mathlib.Core.List.Memᴰ.append_right before (mathlib.Core.List.Memᴰ.head refl)))
    (stated_other l n))

-- Heads of definitions.
head_exact : (b : Block) (n : ℕ) → IsDefinition b → (head_in b.first ≡ some n) ↔ DefinitionHead b.first.text n
unfolding head_in behind_first
head_exact b n s = (
  (λ e. head_of b.first.text n s e),
  (λ w. rw w.written ((count_exact w.digits n).1 w.number)),
)

head_fails : (b : Block) → IsDefinition b → (not (is_some (head_in b.first)) ≡ true) ↔ ((n : ℕ) → DefinitionHead b.first.text n → ⊥)
head_fails b s =
    let p = fails_exact (is_some (head_in b.first)) (is_some_exact (head_in b.first) (λ n. head_exact b n s)) in
    ((λ e n w. p.0 e (n, w)), (λ h. p.1 (λ q. h q.0 q.1)))

-- A definition behind others, of which something is stated.
record AmongBlocks (ds : List Block) (c : Complaint) : Type 0 where
  before : List Block
  block : Block
  behind : List Block
  written : ds ≡ before ++ (block ∷ behind)
  holds : DefinitionStops before block c

heads_in : (front ds : List Block) → ((b : Block) → Memᴰ b ds → IsDefinition b) → {c : Complaint} → Memᴰ c (heads_faults (length front) ds)
    → (before : List Block) × (b : Block) × (behind : List Block) × (ds ≡ before ++ (b ∷ behind)) × (c ≡ complaint 6 b.first.number) ×
    (((n : ℕ) → DefinitionHead b.first.text n → ⊥) ⊎ (26 ≤ length front + length before))
unfolding heads_faults
heads_in front [] k m = absurd (mathlib.Core.List.Memᴰ.not-nil m)
heads_in front (d ∷ ds) k {c} m =
    either (complain_if (not (is_some (head_in d.first)) || leb 26 (length front)) 6 d.first.number)
    (λ i.
    let h = in_complaint (not (is_some (head_in d.first)) || leb 26 (length front)) 6 d.first.number i in (
      [],
      d,
      ds,
      refl,
      h.1,
      ⊎_elim (λ t. inl ((head_fails d (k d (mathlib.Core.List.Memᴰ.head refl))).0 t)) (λ t. let g = leb-true 26 (length front) t in inr (omega arith))
          (either_passes _ _ h.0),
    ))
    (λ i.
    let r = heads_in (d ∷ front) ds (λ b j. k b (mathlib.Core.List.Memᴰ.tail j)) i in
    (d ∷ r.0, r.1, r.2, ap (λ z. d ∷ z) r.3, r.4, ⊎_elim (λ t. inl t) (λ t. inr (omega arith)) r.5))
    m

in_heads : (front before : List Block) (b : Block) (behind : List Block) → IsDefinition b
    → ((n : ℕ) → DefinitionHead b.first.text n → ⊥) ⊎ (26 ≤ length front + length before)
    → Memᴰ (complaint 6 b.first.number) (heads_faults (length front) (before ++ (b ∷ behind)))
unfolding heads_faults
in_heads front [] b behind k h =
    let fails : not (is_some (head_in b.first)) || leb 26 (length front) ≡ true =
    ⊎_elim (λ n. pass_left (leb 26 (length front)) ((head_fails b k).1 n))
    (λ n. pass_right (not (is_some (head_in b.first))) (le-leb 26 (length front) (omega arith))) h in
    mathlib.Core.List.Memᴰ.append_left (heads_faults (suc (length front)) behind) (complaint_in 6 b.first.number fails)
in_heads front (d ∷ before) b behind k h =
    mathlib.Core.List.Memᴰ.append_right (complain_if (not (is_some (head_in d.first)) || leb 26 (length front)) 6 d.first.number)
    (in_heads (d ∷ front) before b behind k (⊎_elim (λ n. inl n) (λ n. inr (omega arith)) h))

-- First lines of blocks, parted as the blocks are.
map_parted : (ds : List Block) (xs : List Line) (l : Line) (ys : List Line) → map first_line ds ≡ xs ++ (l ∷ ys)
    → (before : List Block) × (b : Block) × (behind : List Block) × (ds ≡ before ++ (b ∷ behind)) × (map first_line before ≡ xs) × (first_line b ≡ l)
map_parted [] [] l ys e = nil_is_not_cons e
map_parted [] (x ∷ xs) l ys e = nil_is_not_cons e
map_parted (d ∷ ds) [] l ys e = ([], d, ds, refl, refl, head-eq_of_cons-eq e)
map_parted (d ∷ ds) (x ∷ xs) l ys e =
    let r = map_parted ds xs l ys (tail-eq_of_cons-eq e) in
    (d ∷ r.0, r.1, r.2, ap (λ z. d ∷ z) r.3, (λ i. head-eq_of_cons-eq e i ∷ r.4 i), r.5)

joined_map : (before : List Block) (b : Block) (behind : List Block)
    → map first_line (before ++ (b ∷ behind)) ≡ map first_line before ++ (first_line b ∷ map first_line behind)
joined_map [] b behind = refl
joined_map (d ∷ before) b behind = ap (λ z. first_line d ∷ z) (joined_map before b behind)

again_head : (ds : List Block) → ((b : Block) → Memᴰ b ds → IsDefinition b) → {c : Complaint} → Memᴰ c (twice 6 head_in [] (map first_line ds))
    → AmongBlocks ds c
unfolding first_line
again_head ds k {c} m =
    let a = twice_in 6 head_in [] (map first_line ds) m in
    let h = a.holds in
    let p = map_parted ds a.before a.line a.behind a.written in
    ⊎_elim
    (λ i. absurd (mathlib.Core.List.Memᴰ.not-nil i))
    (λ (i : (e : Line) × Memᴰ e a.before × (head_in e ≡ some h.what)).
    let o = mathlib.Core.List.Memᴰ.of_map first_line p.0 (subst (λ z. Memᴰ i.0 z) (sym p.4) i.1) in
    let e_in : Memᴰ o.0 ds = subst (λ z. Memᴰ o.0 z) (sym p.3) (mathlib.Core.List.Memᴰ.append_left (p.1 ∷ p.2) o.1) in
    let b_in : Memᴰ p.1 ds = subst (λ z. Memᴰ p.1 z) (sym p.3) (mathlib.Core.List.Memᴰ.append_right p.0 (mathlib.Core.List.Memᴰ.head refl)) in
    let e_says : head_in o.0.first ≡ some h.what = ap (λ z. head_in z) o.2 ∙ i.2 in
    let b_says : head_in p.1.first ≡ some h.what = ap (λ z. head_in z) p.5 ∙ h.says in
    let where_c : c ≡ complaint 6 p.1.first.number = h.complained ∙ ap (λ z. complaint 6 z.number) (sym p.5) in
    record {
      before = p.0;
      block = p.1;
      behind = p.2;
      written = p.3;
      holds =
          subst (λ x. DefinitionStops p.0 p.1 x) (sym where_c)
          (head_twice h.what o.0 o.1 ((head_exact o.0 h.what (k o.0 e_in)).0 e_says) ((head_exact p.1 h.what (k p.1 b_in)).0 b_says));
    })
    h.earlier

-- A definition's text.
text_fails : (l : Line) (ls : List Line) → (not (is_some (definition_text l ls)) ≡ true) ↔ ((r : Items) → WrittenDefinitionText l ls r → ⊥)
text_fails l ls =
    let p = fails_exact (is_some (definition_text l ls)) (is_some_exact (definition_text l ls) (definition_exact l ls)) in
    ((λ e r w. p.0 e (r, w)), (λ h. p.1 (λ q. h q.0 q.1)))

text_stated : (before : List Block) (b : Block) (ls : List Line) → b.others ≡ ls → {c : Complaint} → Memᴰ c (definition_faults ls)
    → DefinitionStops before b c
unfolding definition_faults
text_stated before b [] e m = absurd (mathlib.Core.List.Memᴰ.not-nil m)
text_stated before b (l ∷ ls) e m =
    let h = in_complaint (not (is_some (definition_text l ls))) 7 l.number m in
    subst (λ x. DefinitionStops before b x) (sym h.1) (definition_text_lem l ls e ((text_fails l ls).0 h.0))

definition_stated : (ds : List Block) → ((b : Block) → Memᴰ b ds → IsDefinition b) → {c : Complaint} → Memᴰ c (definitions_faults ds)
    → AmongBlocks ds c
unfolding definitions_faults
definition_stated ds k {c} m =
    either (heads_faults 0 ds ++ twice 6 head_in [] (map first_line ds))
    (either (heads_faults 0 ds)
    (λ i.
    let r = heads_in [] ds k i in
    record {
      before = r.0;
      block = r.1;
      behind = r.2;
      written = r.3;
      holds = subst (λ x. DefinitionStops r.0 r.1 x) (sym r.4) (⊎_elim (λ n. head_malformed n) (λ n. head_27th (omega arith)) r.5);
    })
    (λ i. again_head ds k i))
    (λ i.
    let g = in_gather (λ b. definition_faults b.others) ds i in
    let f = found g.1 in
    record { before = f.before; block = g.0; behind = f.behind; written = f.written; holds = text_stated f.before g.0 g.0.others refl g.2 })
    m

module _ (before : List Block) (b : Block) (behind : List Block) (k : (d : Block) → Memᴰ d (before ++ (b ∷ behind)) → IsDefinition d) where
  of_heads : {c : Complaint} → Memᴰ c (heads_faults 0 (before ++ (b ∷ behind)) ++ twice 6 head_in [] (map first_line (before ++ (b ∷ behind))))
      → Memᴰ c (definitions_faults (before ++ (b ∷ behind)))
  unfolding definitions_faults
  of_heads m = mathlib.Core.List.Memᴰ.append_left (flat_map (λ d. definition_faults d.others) (before ++ (b ∷ behind))) m

  here : Memᴰ b (before ++ (b ∷ behind))
  here = mathlib.Core.List.Memᴰ.append_right before (mathlib.Core.List.Memᴰ.head refl)

  stated_definition : {c : Complaint} → DefinitionStops before b c → Memᴰ c (definitions_faults (before ++ (b ∷ behind)))
  unfolding definitions_faults definition_faults first_line
  stated_definition (head_malformed n) = of_heads (mathlib.Core.List.Memᴰ.append_left _ (in_heads [] before b behind (k b here) (inl n)))
  stated_definition (head_27th n) = of_heads (mathlib.Core.List.Memᴰ.append_left _ (in_heads [] before b behind (k b here) (inr (omega arith))))
  stated_definition (head_twice n e m w v) =
      let says = (head_exact e n (k e (mathlib.Core.List.Memᴰ.append_left (b ∷ behind) m))).1 w in
      let again : Again 6 head_in [] (map first_line before) b.first (complaint 6 b.first.number) =
      record { what = n; says = (head_exact b n (k b here)).1 v; earlier = inr (e.first, mathlib.Core.List.Memᴰ.map first_line m, says); complained = refl } in
      of_heads
      (mathlib.Core.List.Memᴰ.append_right (heads_faults 0 (before ++ (b ∷ behind)))
      (subst (λ z. Memᴰ (complaint 6 b.first.number) (twice 6 head_in [] z)) (sym (joined_map before b behind))
      (in_twice 6 head_in [] (map first_line before) b.first (map first_line behind) again)))
  stated_definition (definition_text_lem l ls e n) =
      let m : Memᴰ (complaint 7 l.number) (definition_faults b.others) =
      subst (λ z. Memᴰ (complaint 7 l.number) (definition_faults z)) (sym e) (complaint_in 7 l.number ((text_fails l ls).1 n)) in
      mathlib.Core.List.Memᴰ.append_right (heads_faults 0 (before ++ (b ∷ behind)) ++ twice 6 head_in [] (map first_line (before ++ (b ∷ behind))))
      (gather_in (λ d. definition_faults d.others) here m)

-- Rows 3 to 8 over the whole file.
module _ (bs : List Block) where
  abbrev all_faults_lem : List Complaint
  all_faults_lem = block_order 0 bs ++ metadata_faults bs ++ definitions_faults (definition_blocks bs) ++ flat_map section_faults (section_blocks bs)

  text_stated_by : {c : Complaint} → Memᴰ c all_faults_lem → TextStops bs c
  text_stated_by {c} m =
      either (block_order 0 bs ++ metadata_faults bs ++ definitions_faults (definition_blocks bs))
      (either (block_order 0 bs ++ metadata_faults bs)
      (either (block_order 0 bs)
      (λ i.
      let r = order_in 0 bs i in
      ⊎_elim
      (λ h. let z : ⊥ = omega arith in absurd z)
      (λ (h : (a : Block) × Memᴰ a r.before × (turn (block_kind r.block) < turn (block_kind a))).
      subst (λ x. TextStops bs x) (sym r.complained)
      (kind_late r.before r.behind h.0 r.block r.written h.1 (later_turn h.0 r.block h.2)))
      r.late)
      (λ i. metadata_stated bs i))
      (λ i.
      let r = definition_stated (definition_blocks bs) (λ b j. kind_member (definitions_are bs) j) i in
      in_definition_lem (definition_blocks bs) r.before r.behind r.block (definitions_are bs) r.written r.holds))
      (λ i. let g = in_gather section_faults (section_blocks bs) i in in_section (section_blocks bs) g.0 (sections_are bs) g.1
      ((section_stops_exact g.0).0 g.2))
      m

  text_by_stated : {c : Complaint} → TextStops bs c → Memᴰ c all_faults_lem
  text_by_stated (kind_late before behind a b e m h) =
      mathlib.Core.List.Memᴰ.append_left _
      (mathlib.Core.List.Memᴰ.append_left _
      (mathlib.Core.List.Memᴰ.append_left _
      (subst (λ z. Memᴰ (complaint 3 b.first.number) (block_order 0 z)) (sym e) (in_order 0 before b behind (inr (a, m, turn_later a b h))))))
  text_by_stated {c} (in_metadata_lem ms before behind l k e h) =
      let w : metadata_lines bs ≡ before ++ (l ∷ behind) = metadata_lines_lem bs ∙ ap (λ z. lines_of z) (kind_once (metadata_are bs) k) ∙ e in
      mathlib.Core.List.Memᴰ.append_left _
      (mathlib.Core.List.Memᴰ.append_left _ (mathlib.Core.List.Memᴰ.append_right (block_order 0 bs) (stated_metadata bs before behind l w h)))
  text_by_stated {c} (in_definition_lem ds before behind b k e h) =
      let same : definition_blocks bs ≡ before ++ (b ∷ behind) = kind_once (definitions_are bs) k ∙ e in
      let all : (d : Block) → Memᴰ d (before ++ (b ∷ behind)) → IsDefinition d = λ d m. kind_member k (subst (λ z. Memᴰ d z) (sym e) m) in
      mathlib.Core.List.Memᴰ.append_left _
      (mathlib.Core.List.Memᴰ.append_right (block_order 0 bs ++ metadata_faults bs)
      (subst (λ z. Memᴰ c (definitions_faults z)) (sym same) (stated_definition before b behind all h)))
  text_by_stated (in_section ss b k m h) =
      mathlib.Core.List.Memᴰ.append_right (block_order 0 bs ++ metadata_faults bs ++ definitions_faults (definition_blocks bs))
      (gather_in section_faults (subst (λ z. Memᴰ b z) (kind_once k (sections_are bs)) m) ((section_stops_exact b).1 h))

  -- 9, and the stage.
  nothing_else : (cs : List Complaint) → ((c : Complaint) → Memᴰ c cs → ⊥) → cs ≡ []
  nothing_else [] h = refl
  nothing_else (c ∷ cs) h = absurd (h c (mathlib.Core.List.Memᴰ.head refl))

  or_stated : (cs : List Complaint) → ((c : Complaint) → Memᴰ c cs ↔ TextStops bs c) → {c : Complaint} → Memᴰ c (or_no_section cs (section_blocks bs))
      → Stops2 bs c
  unfolding or_no_section
  or_stated [] p m =
      let h = in_complaint (is_empty (section_blocks bs)) 9 0 m in
      subst (λ x. Stops2 bs x) (sym h.1)
      (no_section_lem (subst (λ z. OfKind IsSection bs z) (is_empty_true (section_blocks bs) h.0) (sections_are bs))
      (λ c t. mathlib.Core.List.Memᴰ.not-nil ((p c).1 t)))
  or_stated (x ∷ xs) p {c} m = stated ((p c).0 m)

  stated_or : (cs : List Complaint) → ((c : Complaint) → Memᴰ c cs ↔ TextStops bs c) → {c : Complaint} → Stops2 bs c
      → Memᴰ c (or_no_section cs (section_blocks bs))
  unfolding or_no_section is_empty
  stated_or [] p {c} (stated t) = absurd (mathlib.Core.List.Memᴰ.not-nil ((p c).1 t))
  stated_or (x ∷ xs) p {c} (stated t) = (p c).1 t
  stated_or [] p (no_section_lem k n) = rw (kind_once (sections_are bs) k) (complaint_in 9 0 refl)
  stated_or (x ∷ xs) p (no_section_lem k n) = absurd (n x ((p x).0 (mathlib.Core.List.Memᴰ.head refl)))

  pub text_stops_exact : {c : Complaint} → Memᴰ c (text_faults bs) ↔ Stops2 bs c
  unfolding text_faults
  text_stops_exact = (or_stated all_faults_lem (λ c. (text_stated_by, text_by_stated)), stated_or all_faults_lem (λ c. (text_stated_by, text_by_stated)))
