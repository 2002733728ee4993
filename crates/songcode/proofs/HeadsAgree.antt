-- Heads by the places of beats: what is played of a measure begins a position exactly where so many beats of it as are a multiple of N/p came before.
use Prim.Native.Nat.{ℕ, zero, suc, ◌+◌, ◌*◌, ◌<◌, ◌≤◌}
use mathlib.Core.Path.{◌≡◌, refl, ap, sym, subst, ◌∙◌}
use mathlib.Core.Logic.{◌↔◌, inl, inr}
use mathlib.Core.List.{List, [], ◌∷◌, ◌++◌, append_assoc, head-eq_of_cons-eq, tail-eq_of_cons-eq, flat_map}
use mathlib.Core.Bool.{true, false}
use mathlib.Core.Option.{Option, none, some}
use native.Mathlib.Nat.{suc-mul}
use native.Mathlib.Omega.{arith}
use lib.ListN.{length, replicate, length-append}
use Rattle.songcode.specs.Lists.{times}
use Rattle.songcode.specs.Answer.Chords.{Chord}
use Rattle.songcode.specs.Song.{Measure, Item, measure, loop, refer, Items, one, next, Cut, Modifiers, Side, Section, Song, Beat, beat}
use Rattle.songcode.specs.Answer.References.{pattern_items}
use Rattle.songcode.specs.Answer.Playing.{lasting}
use Rattle.songcode.specs.Description.Performance.{PlaysMeasure, PlaysItem, PlaysItems, PlaysSide, CutsFront, CutsBack, CutIf, Parts, PlaysPattern}
use Rattle.songcode.specs.Description.Performance.{as_often, PlaysSection}
use Rattle.songcode.specs.Description.StoppedSong.{MeasureOf, MeasureIn, sounds_written}
use Rattle.songcode.specs.Apart.{FirstBeats, HeadsOf, TakenOf, Heads}
use Rattle.songcode.proofs.ListLaws.{Each, each_append, append_each, append_cases, nil_is_not_cons, true_is_not_false}
use Rattle.songcode.proofs.RowLaws.{lasting_length}
use Rattle.songcode.proofs.BeatsCounted.{lasting_all}
use Rattle.songcode.proofs.PatternLaws.{none_some}
use Rattle.songcode.proofs.PlayingAgree.{heard_length, plays_divides, plays_lasting}
use Rattle.songcode.proofs.MeterStops.{sounds_counted, places_are}

-- One position: its first beat alone is a head.
one_again : {A : Type 0} (n : ℕ) (x y : A) (front behind : List A) → replicate n x ≡ front ++ (y ∷ behind) → y ≡ x
one_again zero x y [] behind e = nil_is_not_cons e
one_again zero x y (z ∷ front) behind e = nil_is_not_cons e
one_again (suc n) x y [] behind e = sym (head-eq_of_cons-eq e)
one_again (suc n) x y (z ∷ front) behind e = one_again n x y front behind (tail-eq_of_cons-eq e)

first_alone : (share : ℕ) (c : Option Chord) (b : Beat) (front behind : List Beat) → lasting share c ≡ front ++ (b ∷ behind)
    → (b.head ≡ true) ↔ (length front ≡ 0)
unfolding lasting
first_alone zero c b [] behind e = nil_is_not_cons e
first_alone zero c b (x ∷ front) behind e = nil_is_not_cons e
first_alone (suc n) c b [] behind e = ((λ h. refl), (λ h. ap (λ z. z.head) (sym (head-eq_of_cons-eq e))))
first_alone (suc n) c b (x ∷ front) behind e =
    let held : b ≡ beat c false = one_again n (beat c false) b front behind (tail-eq_of_cons-eq e) in
    ((λ h. true_is_not_false h (ap (λ z. z.head) held)), (λ h. absurd (omega arith)))

-- Positions behind one another.
no_more : (share i k : ℕ) → k < share → k ≡ i * share → k ≡ 0
no_more share zero k h e = omega arith
no_more share (suc i) k h e = let m = suc-mul i share in absurd (omega arith)

one_fewer : (share i k : ℕ) → 1 ≤ share → share + k ≡ i * share → (j : ℕ) × (k ≡ j * share)
one_fewer share zero k h e = absurd (omega arith)
one_fewer share (suc i) k h e = let m = suc-mul i share in (i, omega arith)

begins : (share : ℕ) (heard : List (Option Chord)) (b : Beat) (front behind : List Beat) → 1 ≤ share
    → flat_map (lasting share) heard ≡ front ++ (b ∷ behind) → (b.head ≡ true) ↔ ((i : ℕ) × (length front ≡ i * share))
unfolding flat_map
begins share [] b [] behind h e = nil_is_not_cons e
begins share [] b (x ∷ front) behind h e = nil_is_not_cons e
begins share (c ∷ heard) b front behind h e =
    append_cases (lasting share c) (flat_map (lasting share) heard) front (b ∷ behind) e
    (λ more p q.
    let more-begin = begins share heard b more behind h q in
    let long : length front ≡ share + length more = ap length p ∙ length-append (lasting share c) more ∙ ap (λ k. k + length more) (lasting_length share c) in (
      (λ t. let i = more-begin.0 t in
          let m = suc-mul i.0 share in (suc i.0, omega arith)),
      (λ i. more-begin.1 (one_fewer share i.0 (length more) h (sym long ∙ i.1))),
    ))
    (λ x mid p q.
    let here : lasting share c ≡ front ++ (b ∷ mid) = p ∙ ap (λ z. front ++ (z ∷ mid)) (sym (head-eq_of_cons-eq q)) in
    let alone = first_alone share c b front mid here in
    let long : share ≡ length front + length (b ∷ mid) = sym (lasting_length share c) ∙ ap length here ∙ length-append front (b ∷ mid) in (
      (λ t. let z = alone.0 t in (0, omega arith)),
      (λ i. alone.1 (no_more share i.0 (length front) (omega arith) i.1)),
    ))

nothing_lasts : (heard : List (Option Chord)) → flat_map (lasting 0) heard ≡ []
unfolding flat_map lasting
nothing_lasts [] = refl
nothing_lasts (c ∷ heard) = nothing_lasts heard

begins_all : (share : ℕ) (heard : List (Option Chord)) (b : Beat) (front behind : List Beat) → flat_map (lasting share) heard ≡ front ++ (b ∷ behind)
    → (b.head ≡ true) ↔ ((i : ℕ) × (0 + length front ≡ i * share))
begins_all zero heard b [] behind e = nil_is_not_cons (sym (nothing_lasts heard) ∙ e)
begins_all zero heard b (x ∷ front) behind e = nil_is_not_cons (sym (nothing_lasts heard) ∙ e)
begins_all (suc share) heard b front behind e =
    let h = begins (suc share) heard b front behind (omega arith) e in ((λ t. let i = h.0 t in (i.0, omega arith)), (λ i. h.1 (i.0, omega arith)))

measure_begins : (n : ℕ) (last later : Option Chord) (m : Measure) (beats : List Beat) → PlaysMeasure n last m beats later → FirstBeats n m 0 beats
measure_begins n last later m beats p =
    let long : length beats ≡ length (sounds_written m.sounds) * p.share =
    ap length (plays_lasting p) ∙ lasting_all p.share p.heard
    ∙ ap (λ k. k * p.share) (heard_length last m.sounds p.heard later p.hears ∙ sym (sounds_counted m.sounds)) in
    record {
      share = p.share;
      divides = ap (λ k. p.share * k) (places_are m) ∙ plays_divides p;
      within = omega arith;
      heads = λ front behind b e. begins_all p.share p.heard b front behind (sym (plays_lasting p) ∙ e);
    }

-- What is left of a measure, at its back or at its front.
back_left : (n : ℕ) (m : Measure) (lost : ℕ) (begun stays : List Beat) → FirstBeats n m lost (begun ++ stays) → FirstBeats n m (lost + length begun) stays
back_left n m lost begun stays f =
    record {
      share = f.share;
      divides = f.divides;
      within =
          let long = length-append begun stays in
          let most = f.within in
          omega arith;
      heads = λ front behind b e.
          let whole = f.heads (begun ++ front) behind b (ap (λ z. begun ++ z) e ∙ sym (append_assoc begun front (b ∷ behind))) in
          let long = length-append begun front in
          ((λ t. let i = whole.0 t in (i.0, omega arith)), (λ i. whole.1 (i.0, omega arith)));
    }

first_left : (n : ℕ) (m : Measure) (begun stays : List Beat) → FirstBeats n m 0 (begun ++ stays) → FirstBeats n m (length begun) stays
first_left n m begun stays f = subst (λ k. FirstBeats n m k stays) (omega arith) (back_left n m 0 begun stays f)

front_left : (n : ℕ) (m : Measure) (lost : ℕ) (stays ended : List Beat) → FirstBeats n m lost (stays ++ ended) → FirstBeats n m lost stays
front_left n m lost stays ended f =
    record {
      share = f.share;
      divides = f.divides;
      within =
          let long = length-append stays ended in
          let most = f.within in
          omega arith;
      heads = λ front behind b e. f.heads front (behind ++ ended) b (ap (λ z. z ++ ended) e ∙ append_assoc front (b ∷ behind) ended);
    }

-- The whole measures of a text.
unfoldable Headed : ℕ → Items → List Beat → Type 0
Headed n r beats = (m : Measure) × MeasureIn m r × FirstBeats n m 0 beats

each_times : {A : Type 0} (P : A → Type 0) (k : ℕ) (xs : List A) → Each P xs → Each P (times k xs)
unfolding times Each
each_times P zero xs e = tt
each_times P (suc k) xs e = each_append P xs (times k xs) e (each_times P k xs e)

module _ (n : ℕ) (whole : Items) where
  mutual
    unfolding PlaysItem PlaysItems MeasureOf MeasureIn Headed Each

    item_headed : (i : Item) (last later : Option Chord) (row : List (List Beat)) → ((m : Measure) → MeasureOf m i → MeasureIn m whole)
        → PlaysItem n last i row later → Each (Headed n whole) row
    item_headed (measure m) last later row inside (beats, p, e) = rw e ((m, inside m refl, measure_begins n last later m beats p), tt)
    item_headed (loop r k) last later row inside (pass, p, e) =
        rw e (each_times (Headed n whole) k pass (items_headed r last later pass inside p))
    item_headed (refer k) last later row inside p = absurd p

    items_headed : (r : Items) (last later : Option Chord) (row : List (List Beat)) → ((m : Measure) → MeasureIn m r → MeasureIn m whole)
        → PlaysItems n last r row later → Each (Headed n whole) row
    items_headed (one i) last later row inside p = item_headed i last later row inside p
    items_headed (next r s i) last later row inside (front, more, mid, p, q, e) =
        rw e
        (each_append (Headed n whole) front more (items_headed r last mid front (λ m h. inside m (inl h)) p)
        (item_headed i mid later more (λ m h. inside m (inr h)) q))

  whole_heads : (row : List (List Beat)) → Each (Headed n whole) row → HeadsOf n whole 0 row
  unfolding Each Headed HeadsOf
  whole_heads [] h = tt
  whole_heads (beats ∷ row) h = (h.0, whole_heads row h.1)

  -- What the front cut leaves: the first measure has lost what it took of it.
  front_heads : (o : Option Cut) (row kept : List (List Beat)) → CutIf CutsFront o row kept → Each (Headed n whole) row
      → (lost : ℕ) × TakenOf o row lost × HeadsOf n whole lost kept
  unfolding CutIf Each Headed TakenOf HeadsOf
  front_heads none row kept p h = (0, refl, rw p (whole_heads row h))
  front_heads (some c) row kept p h =
      let a = append_each (Headed n whole) p.gone (p.lost ++ ((p.begun ++ p.stays) ∷ p.rest)) (subst (λ r. Each (Headed n whole) r) p.written h) in
      let b = (append_each (Headed n whole) p.lost ((p.begun ++ p.stays) ∷ p.rest) a.1).1 in
      let (m, inside, f) = b.0 in (
        length p.begun,
        (kept, p, refl),
        rw p.keeps ((m, inside, first_left n m p.begun p.stays f), whole_heads p.rest b.1),
      )

  -- The back cut takes no head from what it leaves.
  last_heads : (rest : List (List Beat)) (lost : ℕ) (stays ended : List Beat) (more : List (List Beat))
      → HeadsOf n whole lost (rest ++ ((stays ++ ended) ∷ more)) → HeadsOf n whole lost (rest ++ (stays ∷ []))
  unfolding HeadsOf
  last_heads [] lost stays ended more h = let (m, inside, f) = h.0 in ((m, inside, front_left n m lost stays ended f), tt)
  last_heads (beats ∷ rest) lost stays ended more h = (h.0, last_heads rest 0 stays ended more h.1)

  back_heads : (o : Option Cut) (row kept : List (List Beat)) (lost : ℕ) → CutIf CutsBack o row kept → HeadsOf n whole lost row → HeadsOf n whole lost kept
  unfolding CutIf
  back_heads none row kept lost p h = rw p h
  back_heads (some c) row kept lost p h =
      rw p.keeps (last_heads p.rest lost p.stays p.ended (p.lost ++ p.gone) (subst (λ r. HeadsOf n whole lost r) p.written h))

-- The measures of a section.
side_heads : (n : ℕ) (y : Side) (o : Option Side) (row : List (List Beat)) → PlaysSide n o row → o ≡ some y → HeadsOf n y.items 0 row
unfolding PlaysSide
side_heads n y none row p e = none_some refl e
side_heads n y (some z) row p e =
    let same : z ≡ y = cc in
    subst (λ w. HeadsOf n w.items 0 row) same
    (whole_heads n z.items row (items_headed n z.items z.items none p.later row (λ m h. h) p.plays))

pattern_heads : (n : ℕ) (ms : Modifiers) (r : Items) (o : Option Items) (pass middle : List (List Beat)) → PlaysPattern n ms o pass middle → o ≡ some r
    → (lost : ℕ) × TakenOf ms.cut_start (times (as_often ms) pass) lost × HeadsOf n r lost middle
unfolding PlaysPattern
pattern_heads n ms r none pass middle p e = none_some refl e
pattern_heads n ms r (some q) pass middle (shorter, alone, front, back, some_left) e =
    let same : q ≡ r = cc in
    let row = each_times (Headed n q) (as_often ms) pass (items_headed n q q none alone.later pass (λ m h. h) alone.plays) in
    let (lost, taken, heads) = front_heads n q ms.cut_start (times (as_often ms) pass) shorter front row in
    (lost, taken, subst (λ w. HeadsOf n w lost middle) same (back_heads n q ms.cut_end shorter middle lost back heads))

pub heads_stand : (s : Song) (x : Section) (p : Parts) → PlaysSection s x p → Heads s x p
heads_stand s x p w =
    record {
      lead_in = λ y e. side_heads p.meter y x.modifiers.before p.lead_in w.lead_in e;
      pattern = λ r e. pattern_heads p.meter x.modifiers r (pattern_items s.definitions x.pattern) p.pass p.middle w.pattern e;
      tail = λ y e. side_heads p.meter y x.modifiers.after p.tail w.tail e;
    }
