-- What stops a song in stages 6 and 7 is stated exactly where the answer complains of it.
use mathlib.Core.Path.{◌≡◌, refl, ap, sym, subst, ◌∙◌}
use mathlib.Core.Logic.{◌↔◌}
use mathlib.Core.List.Memᴰ
use mathlib.Core.List.{List, [], ◌∷◌, Memᴰ, flat_map}
use mathlib.Core.Bool.{true, ◌&&◌, not}
use lib.Dec.{eqb}
use lib.ListN.{length}
use borrow.Author.Tests.{eqb-true, eq-eqb, not-true, not-false}
use Rattle.songcode.specs.Lists.{provided◌then◌else◌, is_empty, is_some}
use Rattle.songcode.specs.Complaints.{Complaint, complain_if}
use Rattle.songcode.specs.Song.{LyricLine, Section, Song}
use Rattle.songcode.specs.Answer.References.{pattern_items}
use Rattle.songcode.specs.Answer.Playing.{played}
use Rattle.songcode.specs.Answer.Lyrics.{is_counted, is_played, lines_taken, has_counts, count_faults, counted, sum_fault, sum_faults}
use Rattle.songcode.specs.Description.Performance.{PlaysSection, joined}
use Rattle.songcode.specs.Description.StoppedSong.{Taken, HasCount, Stops6, uncounted, Stops7, sums_not}
use Rattle.songcode.proofs.ListLaws.{by_cases, true_is_not_false, both_pass, pass_both, complain_if_nil}
use Rattle.songcode.proofs.ChoiceLaws.{is_some_some, some_is_some}
use Rattle.songcode.proofs.MemberLaws.{in_gather, gather_in, any_found, found_any, in_complaint, complaint_in}
use Rattle.songcode.proofs.MeterAgree.{plays_section, joined_played, parts_of_lem}
use Rattle.songcode.proofs.LyricsAgree.{counted_line, line_counted, bare, all_counted, counted_all}
use Rattle.songcode.proofs.LengthStops.{gather_silent}

count_exact : (l : LyricLine) → (is_counted l ≡ true) ↔ HasCount l
unfolding HasCount is_counted is_some
count_exact l = (
  (λ e. let h = counted_line l e in (h.1, h.0, h.3)),
  (λ h. ap is_some (line_counted l h.2)),
)

module _ (s : Song) where
  abbrev taken_of : Section → List LyricLine
  taken_of x = provided is_played s x then x.lyrics else []

  taken_here : (x : Section) (l : LyricLine) → Memᴰ x s.sections → Memᴰ l (taken_of x) → Taken s l
  unfolding provided◌then◌else◌ is_played
  taken_here x l i m =
      by_cases (is_played s x)
      (λ t. let r = is_some_some (pattern_items s.definitions x.pattern) t in record
      { section = x; pattern = r.0; listed = i; filled = r.1; sung = rw t at m })
      (λ f. absurd (Memᴰ.not-nil {a = l} (rw f at m)))

  line_taken : (l : LyricLine) → Memᴰ l (lines_taken s) → Taken s l
  unfolding lines_taken
  line_taken l m = let g = in_gather (λ x. provided is_played s x then x.lyrics else []) s.sections m in taken_here g.0 l g.1 g.2

  taken_line : (l : LyricLine) → Taken s l → Memᴰ l (lines_taken s)
  unfolding lines_taken is_played provided◌then◌else◌
  taken_line l w =
      let t : is_played s w.section ≡ true = some_is_some w.filled in
      gather_in (λ x. provided is_played s x then x.lyrics else []) w.listed (rw t w.sung)

  counts_found : has_counts s ≡ true → (l : LyricLine) × Taken s l × HasCount l
  unfolding has_counts
  counts_found e = let r = any_found is_counted (lines_taken s) e in (r.0, line_taken r.0 r.1, (count_exact r.0).0 r.2)

  found_counts : (l : LyricLine) → Taken s l → HasCount l → has_counts s ≡ true
  unfolding has_counts
  found_counts l w h = found_any is_counted (taken_line l w) ((count_exact l).1 h)

  -- Stage 6.
  count_stated : {c : Complaint} → Memᴰ c (count_faults s) → Stops6 s c
  unfolding count_faults provided◌then◌else◌
  count_stated {c} m =
      by_cases (has_counts s)
      (λ t.
      let g = in_gather (λ l. complain_if (not (is_counted l)) 16 l.number) (lines_taken s) {c = c} (rw t at m) in
      let h = in_complaint (not (is_counted g.0)) 16 g.0.number g.2 in
      let o = counts_found t in
      subst (λ z. Stops6 s z) (sym h.1)
      (uncounted g.0 o.0 (line_taken g.0 g.1) (λ k. true_is_not_false ((count_exact g.0).1 k) (not-true _ h.0)) o.1 o.2))
      (λ f. absurd (Memᴰ.not-nil {a = c} (rw f at m)))

  stated_count : {c : Complaint} → Stops6 s c → Memᴰ c (count_faults s)
  unfolding count_faults provided◌then◌else◌
  stated_count (uncounted l o w n v k) =
      let bare_line_lem : not (is_counted l) ≡ true = by_cases (is_counted l) (λ t. absurd (n ((count_exact l).0 t))) (λ f. rw f) in
      rw (found_counts o v k) (gather_in (λ z. complain_if (not (is_counted z)) 16 z.number) (taken_line l w) (complaint_in 16 l.number bare_line_lem))

  pub count_stops_exact : {c : Complaint} → Memᴰ c (count_faults s) ↔ Stops6 s c
  count_stops_exact = (count_stated, stated_count)

-- Stage 7, where stage 6 states nothing and every section is played.
gather_none : {A B : Type 0} (f : A → List B) (xs : List A) → ((x : A) → Memᴰ x xs → f x ≡ []) → flat_map f xs ≡ []
unfolding flat_map
gather_none f [] h = refl
gather_none f (x ∷ xs) h = rw (h x (Memᴰ.head refl), gather_none f xs (λ y m. h y (Memᴰ.tail m)))

module _ (s : Song) (quiet : count_faults s ≡ []) (plays : (x : Section) → Memᴰ x s.sections → PlaysSection s x (parts_of_lem s x)) where
  bare_none : has_counts s ≡ true → (l : LyricLine) → Taken s l → bare l ≡ []
  unfolding count_faults provided◌then◌else◌ bare
  bare_none t l w = gather_silent (λ z. complain_if (not (is_counted z)) 16 z.number) (rw t at quiet) (taken_line s l w)

  first_line_lem : (ls : List LyricLine) → not (is_empty ls) ≡ true → (l : LyricLine) × Memᴰ l ls
  unfolding is_empty
  first_line_lem [] e = true_is_not_false e refl
  first_line_lem (l ∷ ls) e = (l, Memᴰ.head refl)

  line_first : {l : LyricLine} {ls : List LyricLine} → Memᴰ l ls → not (is_empty ls) ≡ true
  unfolding is_empty
  line_first (Memᴰ.head e) = refl
  line_first (Memᴰ.tail m) = refl

  section_stated : (x : Section) → Memᴰ x s.sections → has_counts s ≡ true → {c : Complaint} → Memᴰ c (sum_fault s x) → Stops7 s c
  unfolding sum_fault is_played bare
  section_stated x i t m =
      let h = in_complaint (is_played s x && not (is_empty x.lyrics) && not (eqb (counted x.lyrics) (length (played s x)))) 17 x.header m in
      let a = both_pass (is_played s x && not (is_empty x.lyrics)) (not (eqb (counted x.lyrics) (length (played s x)))) h.0 in
      let b = both_pass (is_played s x) (not (is_empty x.lyrics)) a.0 in
      let r = is_some_some (pattern_items s.definitions x.pattern) b.0 in
      let l = first_line_lem x.lyrics b.1 in
      let taken : (y : LyricLine) → Memᴰ y x.lyrics → Taken s y = λ y j. record { section = x; pattern = r.0; listed = i; filled = r.1; sung = j } in
      let sums = all_counted x.lyrics (gather_none bare x.lyrics (λ y j. bare_none t y (taken y j))) in
      let has =
      (count_exact l.0).0
      (not-false (is_counted l.0) (complain_if_nil (not (is_counted l.0)) 16 l.0.number (bare_none t l.0 (taken l.0 l.1)))) in
      subst (λ z. Stops7 s z) (sym h.1)
      (sums_not l.0 (taken l.0 l.1) (counted x.lyrics) (parts_of_lem s x) has sums (plays x i)
      (λ e. true_is_not_false (eq-eqb (counted x.lyrics) (length (played s x)) (e ∙ ap length (joined_played s x))) (not-true _ a.1)))

  sum_stated : {c : Complaint} → Memᴰ c (sum_faults s) → Stops7 s c
  unfolding sum_faults provided◌then◌else◌
  sum_stated {c} m =
      by_cases (has_counts s)
      (λ t. let g = in_gather (sum_fault s) s.sections {c = c} (rw t at m) in section_stated g.0 g.1 t g.2)
      (λ f. absurd (Memᴰ.not-nil {a = c} (rw f at m)))

  stated_sum : {c : Complaint} → Stops7 s c → Memᴰ c (sum_faults s)
  unfolding sum_faults sum_fault is_played provided◌then◌else◌
  stated_sum (sums_not l w total p has sums pl differ) =
      let x = w.section in
      let t = found_counts s l w has in
      let row : joined p ≡ played s x = ap (λ z. joined z) (plays_section s x p pl).same ∙ joined_played s x in
      let unequal : not (eqb (counted x.lyrics) (length (played s x))) ≡ true =
      by_cases (eqb (counted x.lyrics) (length (played s x)))
      (λ e. absurd (differ (sym (counted_all sums).1 ∙ eqb-true _ _ e ∙ ap length (sym row))))
      (λ f. rw f) in
      rw t (gather_in (sum_fault s) w.listed (complaint_in 17 x.header (pass_both (pass_both (some_is_some w.filled) (line_first w.sung)) unequal)))

  pub sum_stops_exact : {c : Complaint} → Memᴰ c (sum_faults s) ↔ Stops7 s c
  sum_stops_exact = (sum_stated, stated_sum)
