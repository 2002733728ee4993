-- What stops a song in stage 3 is stated exactly where the answer complains of it.
use Prim.Native.Nat.{ℕ, ◌≤◌, max}
use mathlib.Core.Path.{◌≡◌, refl, ap, sym, subst, ◌∙◌}
use mathlib.Core.Logic.{◌↔◌, ◌⊎◌, inl, inr, ⊎_elim}
use mathlib.Core.List.{List, [], ◌∷◌, ◌++◌, map, Memᴰ, flat_map}
use mathlib.Core.Bool.{true, false, not}
use mathlib.Core.Option.{Option, none, some, get_or, bind}
use native.Mathlib.Omega.{arith}
use lib.Dec.{eqb, leb}
use borrow.Author.Tests.{eqb-true, eq-eqb, not-true, leb-true, leb-false, lt-leb}
use Rattle.songcode.specs.Lists.{provided◌then◌else◌}
use Rattle.songcode.specs.Complaints.{Complaint, complaint}
use Rattle.songcode.specs.Song.{Separator, Item, measure, loop, refer, Items, one, next, Pattern, items, named, Definition, Section, Song}
use Rattle.songcode.specs.Answer.PatternText.{depth_i, depth, loops_deep, references_i, references, no_reference}
use Rattle.songcode.specs.Answer.References.{definition_of, items_of, glue, put_in_item, put_in, items_fault, reference_fault, depth_fault}
use Rattle.songcode.specs.Answer.References.{definition_references}
use Rattle.songcode.specs.Answer.References.{definitions_references, named_fault, section_reference, reference_faults}
use Rattle.songcode.specs.Description.WrittenSection.{Each, none_each, and_each, Absent, Distinct}
use Rattle.songcode.specs.Description.WrittenSong.{id_of, DefinitionLines, WrittenDefinition, WrittenSong}
use Rattle.songcode.specs.Answer.Lines.{Line, Block}
use Rattle.songcode.specs.Description.StoppedSong.{InLoopItem, InLoop, IsLoop, HoldsLoop, RefersTo, Stops3, undefined, undefined_named, too_deep_lem}
use Rattle.songcode.specs.Description.StoppedSong.{loop_in_loop}
use Rattle.songcode.specs.Description.StoppedSong.{to_empty}
use Rattle.songcode.proofs.ListLaws.{by_cases, true_is_not_false}
use Rattle.songcode.proofs.PatternLaws.{none_some, and_then_some}
use Rattle.songcode.proofs.MemberLaws.{either, only_one, in_gather, gather_in, in_complaint, complaint_in}

-- Definitions looked up by their number.
no_definition : (n : ℕ) (ds : List Definition) → definition_of n ds ≡ none → (e : Definition) → Memᴰ e ds → e.id ≡ n → ⊥
unfolding definition_of provided◌then◌else◌
no_definition n [] h e m i = mathlib.Core.List.Memᴰ.not-nil m
no_definition n (d ∷ ds) h e m i =
    by_cases (eqb d.id n)
    (λ t. none_some {o = some d} (rw t at h) refl)
    (λ f. ⊎_elim (λ p. true_is_not_false (eq-eqb d.id n (ap (λ x. x.id) (sym p) ∙ i)) f) (λ j. no_definition n ds (rw f at h) e j i)
    (mathlib.Core.List.Memᴰ.cases_cons m))

pub a_definition : (n : ℕ) (ds : List Definition) (d : Definition) → definition_of n ds ≡ some d → Memᴰ d ds × (d.id ≡ n)
unfolding definition_of provided◌then◌else◌
a_definition n [] d h = none_some refl h
a_definition n (x ∷ ds) d h =
    by_cases (eqb x.id n)
    (λ t. let e : some x ≡ some d = rw t at h in
    let q : x ≡ d = cc in (mathlib.Core.List.Memᴰ.head (sym q), ap (λ z. z.id) (sym q) ∙ eqb-true x.id n t))
    (λ f. let r = a_definition n ds d (rw f at h) in (mathlib.Core.List.Memᴰ.tail r.0, r.1))

missing : (n : ℕ) (ds : List Definition) → ((e : Definition) → Memᴰ e ds → e.id ≡ n → ⊥) → definition_of n ds ≡ none
missing n ds h = go (definition_of n ds) refl
  where
    go : (o : Option Definition) → definition_of n ds ≡ o → definition_of n ds ≡ none
    go none e = e
    go (some d) e = let r = a_definition n ds d e in absurd (h d r.0 r.1)

-- No two definitions have one number.
abbrev pub One : List Definition → Type 0
One ds = (a b : Definition) → Memᴰ a ds → Memᴰ b ds → a.id ≡ b.id → a ≡ b

pub there : (ds : List Definition) → One ds → (d : Definition) → Memᴰ d ds → definition_of d.id ds ≡ some d
there ds o d m = go (definition_of d.id ds) refl
  where
    go : (x : Option Definition) → definition_of d.id ds ≡ x → definition_of d.id ds ≡ some d
    go none e = absurd (no_definition d.id ds e d m refl)
    go (some y) e = let r = a_definition d.id ds y e in e ∙ ap (λ z. some z) (o y d r.0 m r.1)

pub absent_member : (k m : ℕ) (ns : List ℕ) → Absent k ns → Memᴰ m ns → k ≡ m → ⊥
unfolding Absent
absent_member k m [] a i e = mathlib.Core.List.Memᴰ.not-nil i
absent_member k m (n ∷ ns) a i e = ⊎_elim (λ p. a.0 (e ∙ p)) (λ j. absent_member k m ns a.1 j e) (mathlib.Core.List.Memᴰ.cases_cons i)

distinct_one : (ds : List Definition) → Distinct (map id_of ds) → One ds
unfolding Distinct id_of
distinct_one [] h a b m i e = absurd (mathlib.Core.List.Memᴰ.not-nil m)
distinct_one (d ∷ ds) h a b m i e =
    ⊎_elim
    (λ p.
    ⊎_elim
    (λ q. p ∙ sym q)
    (λ j. absurd (absent_member d.id b.id (map id_of ds) h.0 (mathlib.Core.List.Memᴰ.map id_of j) (ap (λ z. z.id) (sym p) ∙ e)))
    (mathlib.Core.List.Memᴰ.cases_cons i))
    (λ k.
    ⊎_elim
    (λ q. absurd (absent_member d.id a.id (map id_of ds) h.0 (mathlib.Core.List.Memᴰ.map id_of k) (ap (λ z. z.id) (sym q) ∙ sym e)))
    (λ j. distinct_one ds h.1 a b k j e)
    (mathlib.Core.List.Memᴰ.cases_cons i))
    (mathlib.Core.List.Memᴰ.cases_cons m)

-- Loops: how deep items are, and with references put in.
loop_item : (i : Item) → (1 ≤ depth_i i) ↔ IsLoop i
unfolding IsLoop depth_i
loop_item (measure m) = ((λ h. let z : ⊥ = omega arith in z), (λ h. absurd h))
loop_item (loop r k) = ((λ h. tt), (λ h. omega arith))
loop_item (refer k) = ((λ h. let z : ⊥ = omega arith in z), (λ h. absurd h))

max_some : (a b k : ℕ) → k ≤ max a b → (k ≤ a) ⊎ (k ≤ b)
max_some a b k h = by_cases (leb k a) (λ t. inl (leb-true k a t)) (λ f. let n = leb-false k a f in inr (omega arith))

pub loop_items : (r : Items) → (1 ≤ depth r) ↔ HoldsLoop r
unfolding HoldsLoop depth
loop_items (one i) = loop_item i
loop_items (next r s i) =
    let a = loop_items r in
    let b = loop_item i in (
      (λ h. ⊎_elim (λ x. inl (a.0 x)) (λ x. inr (b.0 x)) (max_some (depth r) (depth_i i) 1 h)),
      (λ h. ⊎_elim (λ x. let y = a.1 x in omega arith) (λ x. let y = b.1 x in omega arith) h),
    )

glued_deep : (k : ℕ) (r : Items) (s : Separator) (q : Items) → k ≤ depth (glue r s q) → (k ≤ depth r) ⊎ (k ≤ depth q)
unfolding glue depth
glued_deep k r s (one i) h = max_some (depth r) (depth_i i) k h
glued_deep k r s (next q t i) h =
    ⊎_elim
    (λ x. ⊎_elim (λ y. inl y) (λ y. inr (omega arith)) (glued_deep k r s q x))
    (λ x. inr (omega arith))
    (max_some (depth (glue r s q)) (depth_i i) k h)

deep_glued : (r : Items) (s : Separator) (q : Items) → (depth r ≤ depth (glue r s q)) × (depth q ≤ depth (glue r s q))
unfolding glue depth
deep_glued r s (one i) = (omega arith, omega arith)
deep_glued r s (next q t i) = let h = deep_glued r s q in (omega arith, omega arith)

module _ (f : ℕ → Option Items) where
  -- A reference to items that hold a loop.
  Looped : ℕ → Type 0
  Looped n = (q : Items) × (f n ≡ some q) × (1 ≤ depth q)

  put_refer : (n : ℕ) → (1 ≤ depth (get_or (f n) (one (refer n)))) ↔ Looped n
  unfolding Looped depth depth_i
  put_refer n = (go (f n) refl, λ h. rw h.1 h.2)
    where
      go : (o : Option Items) → f n ≡ o → 1 ≤ depth (get_or o (one (refer n))) → Looped n
      go none e h = let z : ⊥ = omega arith in absurd z
      go (some q) e h = (q, e, h)

  mutual
    unfolding depth depth_i put_in put_in_item references references_i

    flat_item : (i : Item) → depth_i i ≤ 0 → 1 ≤ depth (put_in_item f i) → (n : ℕ) × Memᴰ n (references_i i) × Looped n
    flat_item (measure m) z h = let y : ⊥ = omega arith in absurd y
    flat_item (loop r k) z h = let y : ⊥ = omega arith in absurd y
    flat_item (refer n) z h = (n, mathlib.Core.List.Memᴰ.head refl, (put_refer n).0 h)

    flat_items : (r : Items) → depth r ≤ 0 → 1 ≤ depth (put_in f r) → (n : ℕ) × Memᴰ n (references r) × Looped n
    flat_items (one i) z h = flat_item i z h
    flat_items (next r s i) z h =
        ⊎_elim
        (λ x. let a = flat_items r (omega arith) x in (a.0, mathlib.Core.List.Memᴰ.append_left (references_i i) a.1, a.2))
        (λ x. let a = flat_item i (omega arith) x in (a.0, mathlib.Core.List.Memᴰ.append_right (references r) a.1, a.2))
        (glued_deep 1 (put_in f r) s (put_in_item f i) h)

  mutual
    unfolding depth depth_i put_in put_in_item references references_i

    item_flat : (i : Item) (n : ℕ) → Memᴰ n (references_i i) → Looped n → 1 ≤ depth (put_in_item f i)
    item_flat (measure m) n i h = absurd (mathlib.Core.List.Memᴰ.not-nil i)
    item_flat (loop r k) n i h = omega arith
    item_flat (refer k) n i h = (put_refer k).1 (subst (λ x. Looped x) (only_one i) h)

    items_flat : (r : Items) (n : ℕ) → Memᴰ n (references r) → Looped n → 1 ≤ depth (put_in f r)
    items_flat (one i) n m h = item_flat i n m h
    items_flat (next r s i) n m h =
        let g = deep_glued (put_in f r) s (put_in_item f i) in
        either (references r) (λ x. let a = items_flat r n x h in omega arith) (λ x. let a = item_flat i n x h in omega arith) m

  deep_item_lem : (i : Item) → ((n : ℕ) (q : Items) → f n ≡ some q → depth q ≤ 1) → depth_i i ≤ 1 → 2 ≤ depth (put_in_item f i) → (n : ℕ) × InLoopItem n i
      × Looped n
  unfolding depth depth_i put_in_item InLoopItem Looped
  deep_item_lem (measure m) a z h = let y : ⊥ = omega arith in absurd y
  deep_item_lem (loop r k) a z h = flat_items r (omega arith) (omega arith)
  deep_item_lem (refer n) a z h =
      let l = (put_refer n).0 (omega arith) in
      let e = l.1 in
      let g = a n l.0 e in
      let d : 2 ≤ depth l.0 = rw e at h in
      let y : ⊥ = omega arith in absurd y

  deep_items_lem : (r : Items) → ((n : ℕ) (q : Items) → f n ≡ some q → depth q ≤ 1) → depth r ≤ 1 → 2 ≤ depth (put_in f r) → (n : ℕ) × InLoop n r × Looped n
  unfolding depth put_in InLoop
  deep_items_lem (one i) a z h = deep_item_lem i a z h
  deep_items_lem (next r s i) a z h =
      ⊎_elim
      (λ x. let b = deep_items_lem r a (omega arith) x in (b.0, inl b.1, b.2))
      (λ x. let b = deep_item_lem i a (omega arith) x in (b.0, inr b.1, b.2))
      (glued_deep 2 (put_in f r) s (put_in_item f i) h)

  item_deep : (i : Item) (n : ℕ) → InLoopItem n i → Looped n → 2 ≤ depth (put_in_item f i)
  unfolding depth depth_i put_in_item InLoopItem
  item_deep (measure m) n l h = absurd l
  item_deep (loop r k) n l h = let a = items_flat r n l h in omega arith
  item_deep (refer k) n l h = absurd l

  items_deep : (r : Items) (n : ℕ) → InLoop n r → Looped n → 2 ≤ depth (put_in f r)
  unfolding depth put_in InLoop
  items_deep (one i) n l h = item_deep i n l h
  items_deep (next r s i) n l h =
      let g = deep_glued (put_in f r) s (put_in_item f i) in
      ⊎_elim (λ x. let a = items_deep r n x h in omega arith) (λ x. let a = item_deep i n x h in omega arith) l

-- Definitions behind those before them, which the answer keeps from the last to the first.
onto : List Definition → List Definition → List Definition
onto earlier [] = earlier
onto earlier (d ∷ ds) = onto (d ∷ earlier) ds

onto_member : (earlier ds : List Definition) (e : Definition) → Memᴰ e (onto earlier ds) → Memᴰ e earlier ⊎ Memᴰ e ds
unfolding onto
onto_member earlier [] e m = inl m
onto_member earlier (d ∷ ds) e m =
    ⊎_elim
    (λ i. ⊎_elim (λ p. inr (mathlib.Core.List.Memᴰ.head p)) (λ j. inl j) (mathlib.Core.List.Memᴰ.cases_cons i))
    (λ i. inr (mathlib.Core.List.Memᴰ.tail i))
    (onto_member (d ∷ earlier) ds e m)

member_onto : (earlier ds : List Definition) (e : Definition) → Memᴰ e earlier ⊎ Memᴰ e ds → Memᴰ e (onto earlier ds)
unfolding onto
member_onto earlier [] e m = ⊎_elim (λ i. i) (λ i. absurd (mathlib.Core.List.Memᴰ.not-nil i)) m
member_onto earlier (d ∷ ds) e m =
    member_onto (d ∷ earlier) ds e
    (⊎_elim (λ i. inl (mathlib.Core.List.Memᴰ.tail i))
    (λ i. ⊎_elim (λ p. inl (mathlib.Core.List.Memᴰ.head p)) (λ j. inr j) (mathlib.Core.List.Memᴰ.cases_cons i)) m)

definitions_in : (earlier ds : List Definition) {c : Complaint} → Memᴰ c (definitions_references earlier ds)
    → (xs : List Definition) × (d : Definition) × (ys : List Definition) × (ds ≡ xs ++ (d ∷ ys)) × Memᴰ c
    (definition_references (onto earlier xs) d.items d.head)
unfolding definitions_references onto
definitions_in earlier [] m = absurd (mathlib.Core.List.Memᴰ.not-nil m)
definitions_in earlier (d ∷ ds) m =
    either (definition_references earlier d.items d.head)
    (λ i. ([], d, ds, refl, i))
    (λ i. let r = definitions_in (d ∷ earlier) ds i in (d ∷ r.0, r.1, r.2, ap (λ z. d ∷ z) r.3, r.4))
    m

in_definitions : (earlier xs : List Definition) (d : Definition) (ys : List Definition) {c : Complaint}
    → Memᴰ c (definition_references (onto earlier xs) d.items d.head)
    → Memᴰ c (definitions_references earlier (xs ++ (d ∷ ys)))
unfolding definitions_references onto
in_definitions earlier [] d ys m = mathlib.Core.List.Memᴰ.append_left (definitions_references (d ∷ earlier) ys) m
in_definitions earlier (x ∷ xs) d ys m = mathlib.Core.List.Memᴰ.append_right (definition_references earlier x.items x.head)
    (in_definitions (x ∷ earlier) xs d ys m)

-- Items with references.
referring : (q : Items) → not (no_reference q) ≡ true → (n : ℕ) × Memᴰ n (references q)
unfolding no_reference
referring q e = go (references q) refl
  where
    go : (ns : List ℕ) → references q ≡ ns → (n : ℕ) × Memᴰ n (references q)
    go [] h = true_is_not_false e (rw (h, no_reference))
    go (n ∷ ns) h = (n, rw h (mathlib.Core.List.Memᴰ.head refl))

refers_somewhere : (q : Items) (n : ℕ) → Memᴰ n (references q) → not (no_reference q) ≡ true
unfolding no_reference
refers_somewhere q n m = go (references q) refl m
  where
    go : (ns : List ℕ) → references q ≡ ns → Memᴰ n ns → not (no_reference q) ≡ true
    go [] h i = absurd (mathlib.Core.List.Memᴰ.not-nil i)
    go (k ∷ ns) h i = rw (h, no_reference)

abbrev pub Shallow : List Definition → Type 0
Shallow ds = (d : Definition) (q : Items) → Memᴰ d ds → d.items ≡ some q → depth q ≤ 1

module _ (s : Song) (only-ones : One s.definitions) (shallow : Shallow s.definitions) (xs : List Definition) (d : Definition) (ys : List Definition)
    (w : s.definitions ≡ xs ++ (d ∷ ys)) where
  abbrev earlier : List Definition
  earlier = onto [] xs

  -- The definitions before this one.
  is_before_lem : (e : Definition) → Memᴰ e earlier → Memᴰ e xs
  is_before_lem e m = ⊎_elim (λ i. absurd (mathlib.Core.List.Memᴰ.not-nil i)) (λ i. i) (onto_member [] xs e m)

  before_is : (e : Definition) → Memᴰ e xs → Memᴰ e earlier
  before_is e m = member_onto [] xs e (inr m)

  among : (e : Definition) → Memᴰ e xs → Memᴰ e s.definitions
  among e m = subst (λ z. Memᴰ e z) (sym w) (mathlib.Core.List.Memᴰ.append_left (d ∷ ys) m)

  found_before : (e : Definition) → Memᴰ e xs → definition_of e.id earlier ≡ some e
  found_before e m = there earlier (λ a b i j h. only-ones a b (among a (is_before_lem a i)) (among b (is_before_lem b j)) h) e (before_is e m)

  refers : (r : Items) → d.items ≡ some r → RefersTo s d r xs
  refers r e = record { behind = ys; written = w; text = e }

  items_in_lem : (e : Definition) (n : ℕ) → Memᴰ e xs → (r : Items) → d.items ≡ some r → Memᴰ e.id (references r) → (o : Option Items)
      → e.items ≡ o → {c : Complaint} → Memᴰ c (items_fault o d.head) → Stops3 s c
  unfolding items_fault
  items_in_lem e n m r t i none h j = subst (λ x. Stops3 s x) (sym (only_one j)) (to_empty d e r xs (refers r t) i m h)
  items_in_lem e n m r t i (some q) h j =
      let a = in_complaint (not (no_reference q)) 11 d.head j in
      let b = referring q a.0 in
      subst (λ x. Stops3 s x) (sym a.1) (too_deep_lem d e r q xs b.0 (refers r t) i m h b.1)

  reference_in : (r : Items) → d.items ≡ some r → (n : ℕ) → Memᴰ n (references r) → (o : Option Definition) → definition_of n earlier ≡ o
      → {c : Complaint} → Memᴰ c (reference_fault o d.head) → Stops3 s c
  unfolding reference_fault
  reference_in r t n i none h j =
      subst (λ x. Stops3 s x) (sym (only_one j)) (undefined d r xs n (refers r t) i (λ e m k. no_definition n earlier h e (before_is e m) k))
  reference_in r t n i (some e) h j =
      let a = a_definition n earlier e h in
      items_in_lem e n (is_before_lem e a.0) r t (subst (λ z. Memᴰ z (references r)) (sym a.1) i) e.items refl j

  -- What a number stands for, before this definition.
  means : (n : ℕ) (q : Items) → items_of earlier n ≡ some q → (e : Definition) × Memᴰ e xs × (e.id ≡ n) × (e.items ≡ some q)
  unfolding items_of
  means n q h =
      let a = and_then_some (definition_of n earlier) (λ x. x.items) h in
      let b = a_definition n earlier a.0 a.1 in
      (a.0, is_before_lem a.0 b.0, b.1, a.2)

  meant : (e : Definition) (q : Items) → Memᴰ e xs → e.items ≡ some q → items_of earlier e.id ≡ some q
  unfolding items_of bind
  meant e q m h = rw (found_before e m) h

  depth_in : (r : Items) → d.items ≡ some r → depth r ≤ 1 → {c : Complaint} → Memᴰ c (depth_fault earlier r d.head) → Stops3 s c
  unfolding depth_fault loops_deep Looped
  depth_in r t h j =
      let a = in_complaint (not (leb (depth (put_in (items_of earlier) r)) 1)) 11 d.head j in
      let over = leb-false (depth (put_in (items_of earlier) r)) 1 (not-true _ a.0) in
      let b = deep_items_lem (items_of earlier) r (λ n q g. let k = means n q g in shallow k.0 q (among k.0 k.1) k.3) h (omega arith) in
      let k = means b.0 b.2.0 b.2.1 in
      subst (λ x. Stops3 s x) (sym a.1)
      (loop_in_loop d k.0 r b.2.0 xs (refers r t) (subst (λ z. InLoop z r) (sym k.2) b.1) k.1 k.3 ((loop_items b.2.0).0 b.2.2))

  definition_in_lem : (o : Option Items) → d.items ≡ o → {c : Complaint} → Memᴰ c (definition_references earlier o d.head) → Stops3 s c
  unfolding definition_references
  definition_in_lem none t m = absurd (mathlib.Core.List.Memᴰ.not-nil m)
  definition_in_lem (some r) t m =
      either (flat_map (λ n. reference_fault (definition_of n earlier) d.head) (references r))
      (λ i. let g = in_gather (λ n. reference_fault (definition_of n earlier) d.head) (references r) i in reference_in r t g.0 g.1
      (definition_of g.0 earlier) refl g.2)
      (λ i. depth_in r t (shallow d r (subst (λ z. Memᴰ d z) (sym w) (mathlib.Core.List.Memᴰ.append_right xs (mathlib.Core.List.Memᴰ.head refl))) t) i)
      m

  -- Back.
  of_reference : (r : Items) → d.items ≡ some r → (n : ℕ) → Memᴰ n (references r) → {c : Complaint}
      → Memᴰ c (reference_fault (definition_of n earlier) d.head) → Memᴰ c (definition_references earlier d.items d.head)
  unfolding definition_references
  of_reference r t n i {c} m =
      subst (λ o. Memᴰ c (definition_references earlier o d.head)) (sym t)
      (mathlib.Core.List.Memᴰ.append_left (depth_fault earlier r d.head) (gather_in (λ k. reference_fault (definition_of k earlier) d.head) i m))

  of_depth : (r : Items) → d.items ≡ some r → {c : Complaint} → Memᴰ c (depth_fault earlier r d.head)
      → Memᴰ c (definition_references earlier d.items d.head)
  unfolding definition_references
  of_depth r t {c} m =
      subst (λ o. Memᴰ c (definition_references earlier o d.head)) (sym t)
      (mathlib.Core.List.Memᴰ.append_right (flat_map (λ k. reference_fault (definition_of k earlier) d.head) (references r)) m)

  is_undefined : (r : Items) (n : ℕ) → d.items ≡ some r → Memᴰ n (references r) → ((e : Definition) → Memᴰ e xs → e.id ≡ n → ⊥)
      → Memᴰ (complaint 10 d.head) (definition_references earlier d.items d.head)
  unfolding reference_fault
  is_undefined r n t i h = of_reference r t n i (rw (missing n earlier (λ e m k. h e (is_before_lem e m) k)) (mathlib.Core.List.Memᴰ.head refl))

  is_deep : (e : Definition) (r q : Items) (n : ℕ) → d.items ≡ some r → Memᴰ e.id (references r) → Memᴰ e xs → e.items ≡ some q
      → Memᴰ n (references q) → Memᴰ (complaint 11 d.head) (definition_references earlier d.items d.head)
  unfolding reference_fault items_fault
  is_deep e r q n t i m h j = of_reference r t e.id i (rw (found_before e m, h) (complaint_in 11 d.head (refers_somewhere q n j)))

  is_empty_lem : (e : Definition) (r : Items) → d.items ≡ some r → Memᴰ e.id (references r) → Memᴰ e xs → e.items ≡ none
      → Memᴰ (complaint 11 d.head) (definition_references earlier d.items d.head)
  unfolding reference_fault items_fault
  is_empty_lem e r t i m h = of_reference r t e.id i (rw (found_before e m, h) (mathlib.Core.List.Memᴰ.head refl))

  is_looped : (e : Definition) (r q : Items) → d.items ≡ some r → InLoop e.id r → Memᴰ e xs → e.items ≡ some q → HoldsLoop q
      → Memᴰ (complaint 11 d.head) (definition_references earlier d.items d.head)
  unfolding depth_fault loops_deep Looped
  is_looped e r q t i m h l =
      let deep = items_deep (items_of earlier) r e.id i (q, meant e q m h, (loop_items q).1 l) in
      let fails : leb (depth (put_in (items_of earlier) r)) 1 ≡ false = lt-leb (depth (put_in (items_of earlier) r)) 1 (omega arith) in
      of_depth r t (complaint_in {b = not (leb (depth (put_in (items_of earlier) r)) 1)} 11 d.head (rw fails))

-- What a written song's definitions are.
lines_shallow : (ls : List Line) (o : Option Items) (q : Items) → DefinitionLines ls o → o ≡ some q → depth q ≤ 1
unfolding DefinitionLines loops_deep
lines_shallow [] none q w e = none_some refl e
lines_shallow [] (some r) q w e = absurd w
lines_shallow (l ∷ ls) none q w e = none_some refl e
lines_shallow (l ∷ ls) (some r) q w e = let h : r ≡ q = cc in subst (λ x. depth x ≤ 1) h w.shallow

each_shallow : {bs : List Block} {ds : List Definition} → Each WrittenDefinition bs ds → Shallow ds
each_shallow none_each d q m e = absurd (mathlib.Core.List.Memᴰ.not-nil m)
each_shallow (and_each {x} {y} w ws) d q m e =
    ⊎_elim (λ p. lines_shallow x.others y.items q w.text (ap (λ z. z.items) (sym p) ∙ e)) (λ i. each_shallow ws d q i e) (mathlib.Core.List.Memᴰ.cases_cons m)

-- Sections.
named_in : (s : Song) (x : Section) (n : ℕ) → Memᴰ x s.sections → x.pattern ≡ named n → (o : Option Definition) → definition_of n s.definitions ≡ o
    → {c : Complaint} → Memᴰ c (named_fault o x.header) → Stops3 s c
unfolding named_fault
named_in s x n i t none h m = subst (λ z. Stops3 s z) (sym (only_one m)) (undefined_named x n i t (λ e j k. no_definition n s.definitions h e j k))
named_in s x n i t (some d) h m = absurd (mathlib.Core.List.Memᴰ.not-nil m)

section_in_lem : (s : Song) (x : Section) → Memᴰ x s.sections → (p : Pattern) → x.pattern ≡ p → {c : Complaint}
    → Memᴰ c (section_reference s.definitions p x.header) → Stops3 s c
unfolding section_reference
section_in_lem s x i (items r) t m = absurd (mathlib.Core.List.Memᴰ.not-nil m)
section_in_lem s x i (named n) t m = named_in s x n i t (definition_of n s.definitions) refl m

module _ (s : Song) {bs : List Block} (w : WrittenSong bs s) where
  pub ones : One s.definitions
  ones = distinct_one s.definitions w.definitions_once

  shallows : Shallow s.definitions
  shallows = each_shallow w.definitions

  reference_stated : {c : Complaint} → Memᴰ c (reference_faults s) → Stops3 s c
  unfolding reference_faults
  reference_stated m =
      either (definitions_references [] s.definitions)
      (λ i. let r = definitions_in [] s.definitions i in definition_in_lem s ones shallows r.0 r.1 r.2 r.3 r.1.items refl r.4)
      (λ i. let g = in_gather (λ x. section_reference s.definitions x.pattern x.header) s.sections i in section_in_lem s g.0 g.1
      g.0.pattern refl g.2)
      m

  of_definition : {d : Definition} {r : Items} {xs : List Definition} {c : Complaint} → (v : RefersTo s d r xs)
      → Memᴰ c (definition_references (onto [] xs) d.items d.head) → Memᴰ c (reference_faults s)
  unfolding reference_faults
  of_definition {d} {r} {xs} {c} v m =
      mathlib.Core.List.Memᴰ.append_left (flat_map (λ x. section_reference s.definitions x.pattern x.header) s.sections)
      (subst (λ z. Memᴰ c (definitions_references [] z)) (sym v.written) (in_definitions [] xs d v.behind m))

  stated_reference : {c : Complaint} → Stops3 s c → Memᴰ c (reference_faults s)
  unfolding reference_faults section_reference named_fault
  stated_reference (undefined d r xs n v i h) = of_definition v (is_undefined s ones shallows xs d v.behind v.written r n v.text i h)
  stated_reference (too_deep_lem d e r q xs n v i m h j) = of_definition v (is_deep s ones shallows xs d v.behind v.written e r q n v.text i m h j)
  stated_reference (to_empty d e r xs v i m h) = of_definition v (is_empty_lem s ones shallows xs d v.behind v.written e r v.text i m h)
  stated_reference (loop_in_loop d e r q xs v i m h l) = of_definition v (is_looped s ones shallows xs d v.behind v.written e r q v.text i m h l)
  stated_reference (undefined_named x n i t h) =
      let gone : definition_of n s.definitions ≡ none = missing n s.definitions h in
      let m : Memᴰ (complaint 10 x.header) (section_reference s.definitions x.pattern x.header) =
      subst (λ p. Memᴰ (complaint 10 x.header) (section_reference s.definitions p x.header)) (sym t) (rw gone (mathlib.Core.List.Memᴰ.head refl)) in
      mathlib.Core.List.Memᴰ.append_right (definitions_references [] s.definitions) (gather_in (λ z. section_reference s.definitions z.pattern z.header) i m)

  pub reference_stops_exact : {c : Complaint} → Memᴰ c (reference_faults s) ↔ Stops3 s c
  reference_stops_exact = (reference_stated, stated_reference)
