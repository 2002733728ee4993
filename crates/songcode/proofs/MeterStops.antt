-- What stops a song in stage 4 is stated exactly where the answer complains of it.
use Prim.Native.Nat.{ℕ, ◌+◌, ◌*◌, ◌/◌, ◌%◌}
use mathlib.Core.Path.{◌≡◌, refl, ap, sym, subst, ◌∙◌}
use mathlib.Core.Logic.{◌↔◌, ◌⊎◌, inl, inr, ⊎_elim}
use mathlib.Core.List.Memᴰ
use mathlib.Core.List.{List, [], ◌∷◌, ◌++◌, Memᴰ}
use mathlib.Core.Bool.{Bool, true, false, ◌||◌, ◌&&◌, not}
use mathlib.Core.Option.{Option, none, some}
use native.Mathlib.Nat.{div-add-mod'}
use lib.ListN.{length, length-append}
use native.Mathlib.Omega.{arith}
use borrow.Author.Tests.{eqb-true, eq-eqb, not-true}
use Rattle.songcode.specs.Lists.{is_some}
use Rattle.songcode.specs.Answer.Lines.{Block}
use Rattle.songcode.specs.Complaints.{Complaint, complain_if}
use Rattle.songcode.specs.Answer.Chords.{Chord}
use Rattle.songcode.specs.Song.{Sound, chord, again, silence, Sounds, only, also, Measure, Item, measure, loop, refer, Items, one, next}
use Rattle.songcode.specs.Song.{Section, Song, Side}
use Rattle.songcode.specs.Answer.References.{pattern_items}
use Rattle.songcode.specs.Answer.Playing.{time_of, sound_count, positions, chord_after, last_sounds, last_item, last_items}
use Rattle.songcode.specs.Answer.Meter.{fits, all_fit_item, all_fit, strays, stray_among, stray_item, stray, row_faults, played_faults, side_faults}
use Rattle.songcode.specs.Answer.Meter.{section_meter}
use Rattle.songcode.specs.Answer.Meter.{meter_faults}
use Rattle.songcode.specs.Description.WrittenSong.{WrittenSong}
use Rattle.songcode.specs.Description.Fits.{DefinitionsRefer}
use Rattle.songcode.specs.Description.StoppedSong.{MeasureOf, MeasureIn, sounds_written, item_written, items_written, NoChord, RowStops, undivided}
use Rattle.songcode.specs.Description.StoppedSong.{places, again_first}
use Rattle.songcode.specs.Description.StoppedSong.{Stops4, of_pattern_lem, of_lead_in, of_tail}
use Rattle.songcode.proofs.ListLaws.{by_cases, true_is_not_false, or_false}
use Rattle.songcode.proofs.MemberLaws.{either, in_gather, gather_in, in_complaint, complaint_in}
use Rattle.songcode.proofs.PlayingAgree.{positions_some, share_is}
use Rattle.songcode.proofs.InheritsAgree.{says_meter}
use Rattle.songcode.proofs.MeterAgree.{PlainSection, PlainSections}
use Rattle.songcode.proofs.PlainAgree.{song_plain}

-- "A measure of p positions needs p to divide N".
pub sounds_counted : (ss : Sounds) → length (sounds_written ss) ≡ sound_count ss
unfolding sounds_written sound_count
sounds_counted (only s) = refl
sounds_counted (also ss s) = let k = sounds_counted ss in rw length-append (omega arith)

pub places_are : (m : Measure) → places m ≡ positions m
unfolding places positions
places_are m = ap (λ k. k + m.removers) (sounds_counted m.sounds)

divides : (n : ℕ) (m : Measure) → fits n m ≡ true → (k : ℕ) × (k * places m ≡ n)
unfolding fits
divides n m e =
    rw (places_are m) (
      n / positions m,
      let r = eqb-true (n % positions m) 0 e in
          let d = div-add-mod' n (positions m) in omega arith,
    )

undivides : (n k : ℕ) (m : Measure) → k * places m ≡ n → fits n m ≡ true
unfolding fits
undivides n k m e = eq-eqb (n % positions m) 0 (share_is n (positions m) k (positions_some m) (rw (places_are m) at e)).1

both_fail : (a b : Bool) → a && b ≡ false → (a ≡ false) ⊎ (b ≡ false)
both_fail true b e = inr e
both_fail false b e = inl refl

fail_left : {a : Bool} (b : Bool) → a ≡ false → a && b ≡ false
fail_left b e = rw e

fail_right : (a : Bool) {b : Bool} → b ≡ false → a && b ≡ false
fail_right true e = e
fail_right false e = refl

mutual
  unfolding all_fit_item all_fit MeasureOf MeasureIn

  unfit_item : (n : ℕ) (i : Item) → all_fit_item n i ≡ false → (m : Measure) × MeasureOf m i × (fits n m ≡ false)
  unfit_item n (measure m) e = (m, refl, e)
  unfit_item n (loop r k) e = unfit_items n r e
  unfit_item n (refer k) e = true_is_not_false refl e

  unfit_items : (n : ℕ) (r : Items) → all_fit n r ≡ false → (m : Measure) × MeasureIn m r × (fits n m ≡ false)
  unfit_items n (one i) e = unfit_item n i e
  unfit_items n (next r s i) e =
      ⊎_elim
      (λ f. let a = unfit_items n r f in (a.0, inl a.1, a.2))
      (λ f. let a = unfit_item n i f in (a.0, inr a.1, a.2))
      (both_fail (all_fit n r) (all_fit_item n i) e)

mutual
  unfolding all_fit_item all_fit MeasureOf MeasureIn

  item_unfit : (n : ℕ) (i : Item) (m : Measure) → MeasureOf m i → fits n m ≡ false → all_fit_item n i ≡ false
  item_unfit n (measure k) m h e = subst (λ x. fits n x ≡ false) h e
  item_unfit n (loop r k) m h e = items_unfit n r m h e
  item_unfit n (refer k) m h e = absurd h

  items_unfit : (n : ℕ) (r : Items) (m : Measure) → MeasureIn m r → fits n m ≡ false → all_fit n r ≡ false
  items_unfit n (one i) m h e = item_unfit n i m h e
  items_unfit n (next r s i) m h e = ⊎_elim (λ x. fail_left (all_fit_item n i) (items_unfit n r m x e)) (λ x. fail_right (all_fit n r) (item_unfit n i m x e)) h

-- `%` in the written order.
stray_list : Option Chord → List Sound → Bool
stray_list last [] = false
stray_list last (s ∷ ss) = strays last s || stray_list (chord_after last s) ss

last_list : Option Chord → List Sound → Option Chord
last_list last [] = last
last_list last (s ∷ ss) = last_list (chord_after last s) ss

or_assoc : (a b c : Bool) → (a || b) || c ≡ a || (b || c)
or_assoc true b c = refl
or_assoc false b c = refl

stray_append : (last : Option Chord) (xs ys : List Sound) → stray_list last (xs ++ ys) ≡ stray_list last xs || stray_list (last_list last xs) ys
unfolding stray_list last_list
stray_append last [] ys = refl
stray_append last (x ∷ xs) ys =
    rw (stray_append (chord_after last x) xs ys)
    (sym (or_assoc (strays last x) (stray_list (chord_after last x) xs) (stray_list (last_list (chord_after last x) xs) ys)))

last_append : (last : Option Chord) (xs ys : List Sound) → last_list last (xs ++ ys) ≡ last_list (last_list last xs) ys
unfolding last_list
last_append last [] ys = refl
last_append last (x ∷ xs) ys = last_append (chord_after last x) xs ys

sounds_last : (last : Option Chord) (ss : Sounds) → last_sounds last ss ≡ last_list last (sounds_written ss)
unfolding last_sounds sounds_written last_list
sounds_last last (only s) = refl
sounds_last last (also ss s) = ap (λ x. chord_after x s) (sounds_last last ss) ∙ sym (last_append last (sounds_written ss) (s ∷ []))

sounds_stray : (last : Option Chord) (ss : Sounds) → stray_among last ss ≡ stray_list last (sounds_written ss)
unfolding stray_among sounds_written stray_list
sounds_stray last (only s) = sym (or_false (strays last s))
sounds_stray last (also ss s) =
    rw (sounds_stray last ss, sounds_last last ss, stray_append last (sounds_written ss) (s ∷ []), or_false (strays (last_list last (sounds_written ss)) s))

mutual
  unfolding last_item last_items item_written items_written last_list

  item_last : (last : Option Chord) (i : Item) → last_item last i ≡ last_list last (item_written i)
  item_last last (measure m) = sounds_last last m.sounds
  item_last last (loop r k) = items_last last r
  item_last last (refer k) = refl

  items_last : (last : Option Chord) (r : Items) → last_items last r ≡ last_list last (items_written r)
  items_last last (one i) = item_last last i
  items_last last (next r s i) =
      ap (λ x. last_item x i) (items_last last r) ∙ item_last (last_list last (items_written r)) i ∙ sym (last_append last (items_written r) (item_written i))

mutual
  unfolding stray_item stray item_written items_written stray_list

  item_stray : (last : Option Chord) (i : Item) → stray_item last i ≡ stray_list last (item_written i)
  item_stray last (measure m) = sounds_stray last m.sounds
  item_stray last (loop r k) = items_stray last r
  item_stray last (refer k) = refl

  items_stray : (last : Option Chord) (r : Items) → stray last r ≡ stray_list last (items_written r)
  items_stray last (one i) = item_stray last i
  items_stray last (next r s i) =
      rw (items_stray last r, items_last last r, item_stray (last_list last (items_written r)) i) (sym (stray_append last (items_written r) (item_written i)))

never_stray : (c : Chord) (ss : List Sound) → stray_list (some c) ss ≡ false
unfolding stray_list strays chord_after is_some
never_stray c [] = refl
never_stray c (chord d ∷ ss) = never_stray d ss
never_stray c (again ∷ ss) = never_stray c ss
never_stray c (silence ∷ ss) = never_stray c ss

stray_found : (ss : List Sound) → stray_list none ss ≡ true → (front back : List Sound) × (ss ≡ front ++ (again ∷ back)) × NoChord front
unfolding stray_list strays chord_after is_some NoChord
stray_found [] e = true_is_not_false e refl
stray_found (chord c ∷ ss) e = true_is_not_false e (never_stray c ss)
stray_found (again ∷ ss) e = ([], ss, refl, tt)
stray_found (silence ∷ ss) e = let r = stray_found ss e in (silence ∷ r.0, r.1, ap (λ z. silence ∷ z) r.2, r.3)

found_stray : (front back : List Sound) → NoChord front → stray_list none (front ++ (again ∷ back)) ≡ true
unfolding stray_list strays chord_after is_some NoChord
found_stray [] back h = refl
found_stray (chord c ∷ front) back h = absurd h
found_stray (again ∷ front) back h = refl
found_stray (silence ∷ front) back h = found_stray front back h

-- A row.
row_in : (n line : ℕ) (r : Items) {c : Complaint} → Memᴰ c (row_faults n line r) → RowStops n line r c
unfolding row_faults
row_in n line r m =
    either (complain_if (not (all_fit n r)) 12 line)
    (λ i.
    let h = in_complaint (not (all_fit n r)) 12 line i in
    let u = unfit_items n r (not-true (all_fit n r) h.0) in
    subst (λ x. RowStops n line r x) (sym h.1) (undivided u.0 u.1 (λ k e. true_is_not_false (undivides n k u.0 e) u.2)))
    (λ i.
    let h = in_complaint (stray none r) 13 line i in
    let f = stray_found (items_written r) (sym (items_stray none r) ∙ h.0) in
    subst (λ x. RowStops n line r x) (sym h.1) (again_first (record { front = f.0; back = f.1; written = f.2; none_before = f.3 })))
    m

in_row : (n line : ℕ) (r : Items) {c : Complaint} → RowStops n line r c → Memᴰ c (row_faults n line r)
unfolding row_faults
in_row n line r (undivided m h u) =
    let f : fits n m ≡ false = by_cases (fits n m) (λ t. let d = divides n m t in absurd (u d.0 d.1)) (λ f. f) in
    Memᴰ.append_left (complain_if (stray none r) 13 line) (complaint_in {b = not (all_fit n r)} 12 line (rw (items_unfit n r m h f)))
in_row n line r (again_first a) =
    Memᴰ.append_right (complain_if (not (all_fit n r)) 12 line)
    (complaint_in 13 line (items_stray none r ∙ ap (λ z. stray_list none z) a.written ∙ found_stray a.front a.back a.none_before))

-- Sections of a written song.
pub plain_member : (s : Song) (xs : List Section) (x : Section) → PlainSections s xs → Memᴰ x xs → PlainSection s x
unfolding PlainSections
plain_member s [] x p m = absurd (Memᴰ.not-nil m)
plain_member s (y ∷ xs) x p m = ⊎_elim (λ e. subst (λ z. PlainSection s z) (sym e) p.0) (λ i. plain_member s xs x p.1 i) (Memᴰ.cases_cons m)

module _ (s : Song) {bs : List Block} (w : WrittenSong bs s) (refers : DefinitionsRefer [] s.definitions) where
  plain : (x : Section) → Memᴰ x s.sections → PlainSection s x
  plain x m = plain_member s s.sections x (song_plain s w refers) m

  pattern_in_lem : (x : Section) → Memᴰ x s.sections → (o : Option Items) → pattern_items s.definitions x.pattern ≡ o → {c : Complaint}
      → Memᴰ c (played_faults (time_of s x) x.header o) → Stops4 s c
  unfolding played_faults
  pattern_in_lem x i none e m = absurd (Memᴰ.not-nil m)
  pattern_in_lem x i (some r) e m = of_pattern_lem x (time_of s x) r i (plain x i).meter e (row_in (time_of s x) x.header r m)

  lead_in_lem : (x : Section) → Memᴰ x s.sections → (o : Option Side) → x.modifiers.before ≡ o → {c : Complaint}
      → Memᴰ c (side_faults (time_of s x) o) → Stops4 s c
  unfolding side_faults
  lead_in_lem x i none e m = absurd (Memᴰ.not-nil m)
  lead_in_lem x i (some y) e m =
      of_lead_in x (time_of s x) y.line y.items i (plain x i).meter e (row_in (time_of s x) y.line y.items m)

  tail_in : (x : Section) → Memᴰ x s.sections → (o : Option Side) → x.modifiers.after ≡ o → {c : Complaint}
      → Memᴰ c (side_faults (time_of s x) o) → Stops4 s c
  unfolding side_faults
  tail_in x i none e m = absurd (Memᴰ.not-nil m)
  tail_in x i (some y) e m =
      of_tail x (time_of s x) y.line y.items i (plain x i).meter e (row_in (time_of s x) y.line y.items m)

  meter_stated : {c : Complaint} → Memᴰ c (meter_faults s) → Stops4 s c
  unfolding meter_faults section_meter
  meter_stated m =
      let g = in_gather (section_meter s) s.sections m in
      let x = g.0 in
      either (played_faults (time_of s x) x.header (pattern_items s.definitions x.pattern) ++ side_faults (time_of s x) x.modifiers.before)
      (either (played_faults (time_of s x) x.header (pattern_items s.definitions x.pattern))
      (pattern_in_lem x g.1 (pattern_items s.definitions x.pattern) refl)
      (lead_in_lem x g.1 x.modifiers.before refl))
      (tail_in x g.1 x.modifiers.after refl)
      g.2

  of_section_lem : (x : Section) → Memᴰ x s.sections → {c : Complaint} → Memᴰ c (section_meter s x) → Memᴰ c (meter_faults s)
  unfolding meter_faults
  of_section_lem x i m = gather_in (section_meter s) i m

  stated_meter : {c : Complaint} → Stops4 s c → Memᴰ c (meter_faults s)
  unfolding section_meter played_faults side_faults
  stated_meter {c} (of_pattern_lem x n r i h e t) =
      let row = subst (λ k. Memᴰ c (row_faults k x.header r)) (says_meter s x n h) (in_row n x.header r t) in
      of_section_lem x i (Memᴰ.append_left _ (Memᴰ.append_left _ (subst (λ o. Memᴰ c (played_faults (time_of s x) x.header o)) (sym e) row)))
  stated_meter {c} (of_lead_in x n l r i h m t) =
      let row = subst (λ k. Memᴰ c (row_faults k l r)) (says_meter s x n h) (in_row n l r t) in
      of_section_lem x i
      (Memᴰ.append_left _
      (Memᴰ.append_right (played_faults (time_of s x) x.header (pattern_items s.definitions x.pattern))
      (subst (λ o. Memᴰ c (side_faults (time_of s x) o)) (sym m) row)))
  stated_meter {c} (of_tail x n l r i h m t) =
      let row = subst (λ k. Memᴰ c (row_faults k l r)) (says_meter s x n h) (in_row n l r t) in
      of_section_lem x i
      (Memᴰ.append_right
      (played_faults (time_of s x) x.header (pattern_items s.definitions x.pattern) ++ side_faults (time_of s x) x.modifiers.before)
      (subst (λ o. Memᴰ c (side_faults (time_of s x) o)) (sym m) row))

  pub meter_stops_exact : {c : Complaint} → Memᴰ c (meter_faults s) ↔ Stops4 s c
  meter_stops_exact = (meter_stated, stated_meter)
