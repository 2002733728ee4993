-- What stops a song in stage 5 is stated exactly where the answer complains of it.
use Prim.Native.Nat.{ℕ, ◌+◌, ◌<◌, ◌≤◌}
use mathlib.Core.Path.{◌≡◌, refl, ap, sym, subst, ◌∙◌}
use mathlib.Core.Logic.{◌↔◌, ◌⊎◌, inl, inr, ⊎_elim}
use mathlib.Core.List.{List, [], ◌∷◌, ◌++◌, map, Memᴰ, flat_map}
use mathlib.Core.Bool.{◌&&◌}
use mathlib.Core.Option.{Option, none, some}
use native.Mathlib.Omega.{arith}
use lib.Dec.{leb, ltb}
use lib.ListN.{length}
use borrow.Author.Tests.{leb-true, le-leb, ltb-true, lt-ltb}
use Rattle.songcode.specs.Lists.{sum, is_empty}
use Rattle.songcode.specs.Complaints.{Complaint, complaint, complain_if}
use Rattle.songcode.specs.Song.{Items, Section, Song, Beat}
use Rattle.songcode.specs.Answer.PatternText.{references}
use Rattle.songcode.specs.Answer.References.{pattern_items}
use Rattle.songcode.specs.Answer.Playing.{time_of, repeats, measures_of, side_measures, kept_measures}
use Rattle.songcode.specs.Answer.Meter.{played_faults, side_faults, section_meter, meter_faults, measures_in, side_count, section_count, most_measures}
use Rattle.songcode.specs.Answer.Meter.{cut_faults}
use Rattle.songcode.specs.Answer.Meter.{length_faults, any_said}
use Rattle.songcode.specs.Description.WrittenSection.{Each, none_each, and_each}
use Rattle.songcode.specs.Description.Performance.{as_often, PlaysAlone, PlaysPattern}
use Rattle.songcode.specs.Description.StoppedSong.{PlaysPass, Uncut, Stops5, too_long, no_beat, empty_modified}
use Rattle.songcode.proofs.ListLaws.{by_cases, true_is_not_false, both_pass, pass_both, append_is_nil, complain_if_nil, nil_complain_if}
use Rattle.songcode.proofs.MemberLaws.{either, in_complaint, complaint_in}
use Rattle.songcode.proofs.InheritsAgree.{says_meter}
use Rattle.songcode.proofs.SectionPlays.{meter_some, pass_of, row_plays, plays_row, side_plays, plays_side, pattern_plays, plays_pattern, none_said}
use Rattle.songcode.proofs.MeterAgree.{PlainSection, PlainSections, length_side, length_pass}
use Rattle.songcode.proofs.MeterStops.{plain_member}

pub gather_silent : {A B : Type 0} (f : A → List B) {x : A} {xs : List A} → flat_map f xs ≡ [] → Memᴰ x xs → f x ≡ []
unfolding flat_map
gather_silent f {xs = []} e m = elim m [ ]
gather_silent f {xs = y ∷ xs} e (mathlib.Core.List.Memᴰ.head p) = ap f p ∙ (append_is_nil (f y) (flat_map f xs) e).0
gather_silent f {xs = y ∷ xs} e (mathlib.Core.List.Memᴰ.tail m) = gather_silent f (append_is_nil (f y) (flat_map f xs) e).1 m

-- What stage 4 leaves of a section.
record Fine (s : Song) (x : Section) : Type 0 where
  pattern : played_faults (time_of s x) x.header (pattern_items s.definitions x.pattern) ≡ []
  lead : side_faults (time_of s x) x.modifiers.before ≡ []
  tail : side_faults (time_of s x) x.modifiers.after ≡ []

fine_of : (s : Song) (x : Section) → section_meter s x ≡ [] → Fine s x
unfolding section_meter
fine_of s x e =
    let a =
    append_is_nil
    (played_faults (time_of s x) x.header (pattern_items s.definitions x.pattern) ++ side_faults (time_of s x) x.modifiers.before)
    (side_faults (time_of s x) x.modifiers.after) e in
    let b =
    append_is_nil (played_faults (time_of s x) x.header (pattern_items s.definitions x.pattern))
    (side_faults (time_of s x) x.modifiers.before) a.0 in
    record { pattern = b.0; lead = b.1; tail = a.1 }

-- A section's measures before cuts.
passes_of : (n header : ℕ) (o : Option Items) → ((r : Items) → o ≡ some r → references r ≡ []) → played_faults n header o ≡ [] → PlaysPass n o (pass_of n o)
unfolding PlaysPass pass_of played_faults
passes_of n header none p e = refl
passes_of n header (some r) p e = row_plays n header r (p r refl) e

pass_once : (n : ℕ) (o : Option Items) (pass : List (List Beat)) → PlaysPass n o pass → pass ≡ pass_of n o
unfolding PlaysPass pass_of
pass_once n none pass h = h
pass_once n (some r) pass h = (plays_row n 0 r pass h).1

uncut_of : (s : Song) (x : Section) → PlainSection s x → section_meter s x ≡ [] → Uncut s x (section_count s x)
unfolding section_count repeats as_often
uncut_of s x p e =
    let f = fine_of s x e in
    let a = length_side (time_of s x) x.modifiers.before in
    let b = length_pass (time_of s x) (pattern_items s.definitions x.pattern) in
    let c = length_side (time_of s x) x.modifiers.after in
    record {
      meter = time_of s x;
      lead_in = side_measures (time_of s x) x.modifiers.before;
      pass = pass_of (time_of s x) (pattern_items s.definitions x.pattern);
      tail = side_measures (time_of s x) x.modifiers.after;
      inherits = p.meter;
      leads = side_plays (time_of s x) x.modifiers.before p.plain_lead f.lead;
      passes = passes_of (time_of s x) x.header (pattern_items s.definitions x.pattern) p.plain_pattern f.pattern;
      tails = side_plays (time_of s x) x.modifiers.after p.plain_tail f.tail;
      counts = rw (a, b, c);
    }

uncut_once : (s : Song) (x : Section) (k : ℕ) → Uncut s x k → k ≡ section_count s x
unfolding section_count repeats as_often
uncut_once s x k u =
    let n = u.meter in
    let a : length u.lead_in ≡ side_count x.modifiers.before = ap length (plays_side n _ u.lead_in u.leads).1 ∙ length_side n _ in
    let b : length u.pass ≡ measures_in (pattern_items s.definitions x.pattern) = ap length (pass_once n _ u.pass u.passes) ∙ length_pass n _ in
    let c : length u.tail ≡ side_count x.modifiers.after = ap length (plays_side n _ u.tail u.tails).1 ∙ length_side n _ in
    u.counts ∙ rw (a, b, c)

each_uncut : (s : Song) (xs : List Section) → ((x : Section) → Memᴰ x xs → Uncut s x (section_count s x)) → Each (Uncut s) xs (map (section_count s) xs)
each_uncut s [] h = none_each
each_uncut s (x ∷ xs) h = and_each (h x (mathlib.Core.List.Memᴰ.head refl)) (each_uncut s xs (λ y m. h y (mathlib.Core.List.Memᴰ.tail m)))

uncut_each : (s : Song) {xs : List Section} {ks : List ℕ} → Each (Uncut s) xs ks → ks ≡ map (section_count s) xs
uncut_each s none_each = refl
uncut_each s (and_each {x} {y} {xs} {ys} u us) = ap (λ z. z ∷ ys) (uncut_once s x y u) ∙ ap (λ z. section_count s x ∷ z) (uncut_each s us)

-- Where the running sum passes, and the cuts of each section.
abbrev Passes : Song → ℕ → List Section → Section → Complaint → Type 0
Passes s sofar front x c =
    (sofar + sum (map (section_count s) front) ≤ 65535)
    × (65535 < sofar + sum (map (section_count s) front) + section_count s x)
    × (c ≡ complaint 14 x.header)

abbrev cuts_of_lem : Song → Section → List Complaint
cuts_of_lem s x = cut_faults (time_of s x) x.header x.modifiers (pattern_items s.definitions x.pattern)

record Judged (s : Song) (sofar : ℕ) (xs : List Section) (c : Complaint) : Type 0 where
  front : List Section
  section : Section
  behind : List Section
  written : xs ≡ front ++ (section ∷ behind)
  what : Passes s sofar front section c ⊎ Memᴰ c (cuts_of_lem s section)

long_in : (s : Song) (sofar : ℕ) (xs : List Section) {c : Complaint} → Memᴰ c (length_faults s sofar xs) → Judged s sofar xs c
unfolding length_faults most_measures sum
long_in s sofar [] m = absurd (mathlib.Core.List.Memᴰ.not-nil m)
long_in s sofar (x ∷ xs) {c} m =
    either
    (complain_if (leb sofar 65535 && ltb 65535 (sofar + section_count s x)) 14 x.header ++ cut_faults (time_of s x) x.header x.modifiers
    (pattern_items s.definitions x.pattern))
    (either (complain_if (leb sofar 65535 && ltb 65535 (sofar + section_count s x)) 14 x.header)
    (λ i.
    let h = in_complaint (leb sofar 65535 && ltb 65535 (sofar + section_count s x)) 14 x.header i in
    let t = both_pass (leb sofar 65535) (ltb 65535 (sofar + section_count s x)) h.0 in
    let a = leb-true sofar 65535 t.0 in
    let b = ltb-true 65535 (sofar + section_count s x) t.1 in
    record { front = []; section = x; behind = xs; written = refl; what = inl (omega arith, omega arith, h.1) })
    (λ i. record { front = []; section = x; behind = xs; written = refl; what = inr i }))
    (λ i.
    let r = long_in s (sofar + section_count s x) xs i in
    record {
      front = x ∷ r.front;
      section = r.section;
      behind = r.behind;
      written = ap (λ z. x ∷ z) r.written;
      what = ⊎_elim (λ h. let a = h.0 in
          let b = h.1 in inl (omega arith, omega arith, h.2)) (λ h. inr h) r.what;
    })
    m

in_long : (s : Song) (sofar : ℕ) (front : List Section) (x : Section) (behind : List Section) → sofar + sum (map (section_count s) front) ≤ 65535
    → 65535 < sofar + sum (map (section_count s) front) + section_count s x
    → Memᴰ (complaint 14 x.header) (length_faults s sofar (front ++ (x ∷ behind)))
unfolding length_faults most_measures sum
in_long s sofar [] x behind h k =
    mathlib.Core.List.Memᴰ.append_left (length_faults s (sofar + section_count s x) behind)
    (mathlib.Core.List.Memᴰ.append_left (cut_faults (time_of s x) x.header x.modifiers (pattern_items s.definitions x.pattern))
    (complaint_in 14 x.header (pass_both (le-leb sofar 65535 (omega arith)) (lt-ltb 65535 (sofar + section_count s x) (omega arith)))))
in_long s sofar (y ∷ front) x behind h k =
    mathlib.Core.List.Memᴰ.append_right
    (complain_if (leb sofar 65535 && ltb 65535 (sofar + section_count s y)) 14 y.header ++ cut_faults (time_of s y) y.header y.modifiers
    (pattern_items s.definitions y.pattern))
    (in_long s (sofar + section_count s y) front x behind (omega arith) (omega arith))

in_cuts : (s : Song) {x : Section} (sofar : ℕ) {xs : List Section} → Memᴰ x xs → {c : Complaint}
    → Memᴰ c (cut_faults (time_of s x) x.header x.modifiers (pattern_items s.definitions x.pattern))
    → Memᴰ c (length_faults s sofar xs)
unfolding length_faults
in_cuts s sofar {xs = []} i m = elim i [ ]
in_cuts s {x = x} sofar {xs = y ∷ xs} (mathlib.Core.List.Memᴰ.head e) {c} m =
    mathlib.Core.List.Memᴰ.append_left (length_faults s (sofar + section_count s y) xs)
    (mathlib.Core.List.Memᴰ.append_right (complain_if (leb sofar most_measures && ltb most_measures (sofar + section_count s y)) 14 y.header)
    (subst (λ z. Memᴰ c (cut_faults (time_of s z) z.header z.modifiers (pattern_items s.definitions z.pattern))) e m))
in_cuts s sofar {xs = y ∷ xs} (mathlib.Core.List.Memᴰ.tail i) m =
    mathlib.Core.List.Memᴰ.append_right
    (complain_if (leb sofar most_measures && ltb most_measures (sofar + section_count s y)) 14 y.header ++ cut_faults (time_of s y) y.header y.modifiers
    (pattern_items s.definitions y.pattern))
    (in_cuts s (sofar + section_count s y) i m)

-- The cuts of a section that stage 4 leaves.
module _ (s : Song) (x : Section) (i : Memᴰ x s.sections) (p : PlainSection s x) (q : section_meter s x ≡ []) where
  cuts_in : (o : Option Items) → pattern_items s.definitions x.pattern ≡ o → {c : Complaint}
      → Memᴰ c (cut_faults (time_of s x) x.header x.modifiers o) → Stops5 s c
  unfolding cut_faults played_faults
  cuts_in none e m =
      let h = in_complaint (any_said x.modifiers) 15 x.header m in
      subst (λ z. Stops5 s z) (sym h.1) (empty_modified x i e (λ d. true_is_not_false h.0 ((none_said x.modifiers).1 d)))
  cuts_in (some r) e m =
      let h = in_complaint (is_empty (kept_measures (time_of s x) x.modifiers (some r))) 15 x.header m in
      let f : played_faults (time_of s x) x.header (some r) ≡ [] = subst (λ o. played_faults (time_of s x) x.header o ≡ []) e (fine_of s x q).pattern in
      let alone = row_plays (time_of s x) x.header r (p.plain_pattern r e) f in
      subst (λ z. Stops5 s z) (sym h.1)
      (no_beat x (time_of s x) r (measures_of (time_of s x) none r) i p.meter e alone
      (λ middle w.
      let g = plays_pattern (time_of s x) x.header x.modifiers (some r) (measures_of (time_of s x) none r) middle (meter_some s x) w in
      true_is_not_false h.0 (complain_if_nil (is_empty (kept_measures (time_of s x) x.modifiers (some r))) 15 x.header g.left_over)))

  beat_gone : (r : Items) (pass : List (List Beat)) → pattern_items s.definitions x.pattern ≡ some r → PlaysAlone (time_of s x) r pass
      → ((middle : List (List Beat)) → PlaysPattern (time_of s x) x.modifiers (some r) pass middle → ⊥)
      → Memᴰ (complaint 15 x.header) (cut_faults (time_of s x) x.header x.modifiers (some r))
  unfolding cut_faults pass_of
  beat_gone r pass e w none_left =
      let f : played_faults (time_of s x) x.header (some r) ≡ [] = subst (λ o. played_faults (time_of s x) x.header o ≡ []) e (fine_of s x q).pattern in
      by_cases (is_empty (kept_measures (time_of s x) x.modifiers (some r)))
      (λ t. complaint_in 15 x.header t)
      (λ g.
      let played =
      pattern_plays (time_of s x) x.header x.modifiers (some r) (meter_some s x) (λ z d. p.plain_pattern z (e ∙ d)) f
      (nil_complain_if 15 x.header g) in
      let same : pass ≡ measures_of (time_of s x) none r = (plays_row (time_of s x) 0 r pass w).1 in
      absurd
      (none_left (kept_measures (time_of s x) x.modifiers (some r))
      (subst (λ z. PlaysPattern (time_of s x) x.modifiers (some r) z (kept_measures (time_of s x) x.modifiers (some r))) (sym same) played)))

module _ (s : Song) (plain : PlainSections s s.sections) (metered : meter_faults s ≡ []) where
  plain_at : (x : Section) → Memᴰ x s.sections → PlainSection s x
  plain_at x m = plain_member s s.sections x plain m

  metered_at : (x : Section) → Memᴰ x s.sections → section_meter s x ≡ []
  unfolding meter_faults
  metered_at x m = gather_silent (section_meter s) metered m

  length_stated : {c : Complaint} → Memᴰ c (length_faults s 0 s.sections) → Stops5 s c
  length_stated {c} m =
      let r = long_in s 0 s.sections m in
      let x = r.section in
      let here : Memᴰ x s.sections = subst (λ z. Memᴰ x z) (sym r.written) (mathlib.Core.List.Memᴰ.append_right r.front (mathlib.Core.List.Memᴰ.head refl)) in
      let before : (y : Section) → Memᴰ y r.front → Memᴰ y s.sections =
      λ y i. subst (λ z. Memᴰ y z) (sym r.written) (mathlib.Core.List.Memᴰ.append_left (x ∷ r.behind) i) in
      ⊎_elim
      (λ h.
      let a = h.0 in
      let b = h.1 in
      subst (λ z. Stops5 s z) (sym h.2)
      (too_long r.front r.behind x (map (section_count s) r.front) (section_count s x) r.written
      (each_uncut s r.front (λ y i. uncut_of s y (plain_at y (before y i)) (metered_at y (before y i))))
      (uncut_of s x (plain_at x here) (metered_at x here))
      (omega arith)
      (omega arith)))
      (λ h. cuts_in s x here (plain_at x here) (metered_at x here) (pattern_items s.definitions x.pattern) refl h)
      r.what

  stated_length : {c : Complaint} → Stops5 s c → Memᴰ c (length_faults s 0 s.sections)
  unfolding cut_faults
  stated_length (too_long front behind x counts k w us u h j) =
      let a : counts ≡ map (section_count s) front = uncut_each s us in
      let b : k ≡ section_count s x = uncut_once s x k u in
      let c : sum (map (section_count s) front) ≤ 65535 = subst (λ z. sum z ≤ 65535) a h in
      let d : 65535 < sum (map (section_count s) front) + section_count s x =
      subst (λ z. 65535 < sum (map (section_count s) front) + z) b (subst (λ z. 65535 < sum z + k) a j) in
      subst (λ z. Memᴰ (complaint 14 x.header) (length_faults s 0 z)) (sym w) (in_long s 0 front x behind (omega arith) (omega arith))
  stated_length (no_beat x n r pass i h e w none_left) =
      let same : n ≡ time_of s x = says_meter s x n h in
      let gone =
      beat_gone s x i (plain_at x i) (metered_at x i) r pass e (subst (λ k. PlaysAlone k r pass) same w)
      (λ middle v. none_left middle (subst (λ k. PlaysPattern k x.modifiers (some r) pass middle) (sym same) v)) in
      in_cuts s 0 i (subst (λ o. Memᴰ (complaint 15 x.header) (cut_faults (time_of s x) x.header x.modifiers o)) (sym e) gone)
  stated_length (empty_modified x i e h) =
      in_cuts s 0 i
      (subst (λ o. Memᴰ (complaint 15 x.header) (cut_faults (time_of s x) x.header x.modifiers o)) (sym e)
      (complaint_in 15 x.header (by_cases (any_said x.modifiers) (λ t. t) (λ f. absurd (h ((none_said x.modifiers).0 f))))))

  pub length_stops_exact : {c : Complaint} → Memᴰ c (length_faults s 0 s.sections) ↔ Stops5 s c
  length_stops_exact = (length_stated, stated_length)
