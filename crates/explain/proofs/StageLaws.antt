-- The stages of the verdicts 12, 13, 16 and 17: what the first five stages state has a number below 16; what the next two state is said of the
-- song's lines.
use Prim.Native.Nat.{ℕ, ◌*◌, ◌<◌, ◌≤◌}
use mathlib.Core.Path.{◌≡◌, refl, ap, ◌∙◌, subst}
use mathlib.Core.Logic.{◌⊎◌, inl, inr}
use mathlib.Core.Option.{some}
use mathlib.Core.List.{List, [], ◌∷◌, Memᴰ}
use native.Mathlib.Omega.{arith}
use borrow.Author.Tests.{ltb-true, ltb-false}
use lib.Dec.{ltb}
use lib.ListN.{length}
use Rattle.songcode.specs.Answer.Lines.{Line, Block}
use Rattle.songcode.specs.Complaints.{Complaint, complaint}
use Rattle.songcode.specs.Song.{KeyName, Measure, Items, LyricLine, Section, Song}
use Rattle.songcode.specs.Answer.References.{pattern_items}
use Rattle.songcode.specs.Answer.Playing.{positions, time_of}
use Rattle.songcode.specs.Answer.Answer.{Room, refused, song_answer}
use Rattle.songcode.specs.Description.Performance.{Parts}
use Rattle.songcode.specs.Description.WrittenSong.{WrittenChart}
use Rattle.songcode.specs.Description.StoppedText.{KeyStops, key_unknown, key_not_allowed, key_setting, KeyDoubled, key_twice, ModifierStops, modifier_unknown}
use Rattle.songcode.specs.Description.StoppedText.{repeat_setting, cut_start_setting, cut_end_setting, lead_in_text, tail_text, ModifierDoubled, modifier_twice}
use Rattle.songcode.specs.Description.StoppedText.{PlaceStops, key_after, modifier_before, pattern_past, SectionStops, name_wrong, out_of_place, key_doubled}
use Rattle.songcode.specs.Description.StoppedText.{modifier_doubled, key_stops, modifier_stops, pattern_text_lem, no_pattern, no_lyrics, MetadataStops, of_key}
use Rattle.songcode.specs.Description.StoppedText.{of_keys_lem}
use Rattle.songcode.specs.Description.StoppedText.{no_key, DefinitionStops, head_malformed, head_twice, head_27th, definition_text_lem, TextStops, kind_late}
use Rattle.songcode.specs.Description.StoppedText.{in_metadata_lem, in_definition_lem, in_section, Stops2, stated, no_section_lem}
use Rattle.songcode.specs.Description.StoppedSong.{Stops1, over_long, bad_bytes, Stops3, undefined, undefined_named, too_deep_lem, loop_in_loop, to_empty}
use Rattle.songcode.specs.Description.StoppedSong.{RowStops}
use Rattle.songcode.specs.Description.StoppedSong.{undivided, again_first, Stops4, of_pattern_lem, of_lead_in, of_tail, Stops5, too_long, no_beat}
use Rattle.songcode.specs.Description.StoppedSong.{empty_modified}
use Rattle.songcode.specs.Description.StoppedSong.{MeasureIn, AgainFirst, Taken}
use Rattle.songcode.specs.Description.StoppedSong.{Stops6, uncounted, Stops7, sums_not, Stops8, keys_short, sections_short, measures_short}
use Rattle.songcode.specs.Description.StoppedSong.{beats_short}
use Rattle.songcode.specs.Description.StoppedSong.{items_short}
use Rattle.songcode.specs.Description.Refusals.{Stage, stage1, stage2, stage3, stage4, stage5, stage6, stage7, stage8, Stated, Nothing, NothingIn}
use Rattle.songcode.specs.Description.Refusals as refusals
use Rattle.songcode.specs.StageLists.{complaints_in}
use Rattle.songcode.proofs.ListLaws.{by_cases}
use Rattle.songcode.proofs.InheritsAgree.{says_meter}
use Rattle.songcode.proofs.MeterStops.{places_are}
use Rattle.songcode.proofs.RefusalsAgree.{refused_as_stated, stage_as_stated}
use Rattle.songcode.proofs.SongAlone.{refused_with_tables}
use Rattle.explain.specs.Sums.{Playable}

abbrev Early : Complaint → Type 0
Early c = c.number ≤ 11

of_key_stops : {allowed : KeyName → Type 0} {l : Line} {c : Complaint} → KeyStops allowed l c → Early c
of_key_stops (key_unknown s h) = omega arith
of_key_stops (key_not_allowed k t w h) = omega arith
of_key_stops (key_setting k t w h) = omega arith

of_key_doubled : {before : List Line} {l : Line} {c : Complaint} → KeyDoubled before l c → Early c
of_key_doubled (key_twice k o t e m w v) = omega arith

of_modifier_stops : {l : Line} {c : Complaint} → ModifierStops l c → Early c
of_modifier_stops (modifier_unknown s h) = omega arith
of_modifier_stops (repeat_setting t w h) = omega arith
of_modifier_stops (cut_start_setting t w h) = omega arith
of_modifier_stops (cut_end_setting t w h) = omega arith
of_modifier_stops (lead_in_text t w h) = omega arith
of_modifier_stops (tail_text t w h) = omega arith

of_modifier_doubled : {before : List Line} {l : Line} {c : Complaint} → ModifierDoubled before l c → Early c
of_modifier_doubled (modifier_twice k o t e m w v) = omega arith

of_place : {before : List Line} {l : Line} {c : Complaint} → PlaceStops before l c → Early c
of_place (key_after e s m n) = omega arith
of_place (modifier_before s h) = omega arith
of_place (pattern_past s h) = omega arith

of_section_lem : {b : Block} {c : Complaint} → SectionStops b c → Early c
of_section_lem (name_wrong n) = omega arith
of_section_lem (out_of_place x y before rest l w e h) = of_place h
of_section_lem (key_doubled x y before rest l w e h) = of_key_doubled h
of_section_lem (modifier_doubled x y before rest l w e h) = of_modifier_doubled h
of_section_lem (key_stops x y l w m h) = of_key_stops h
of_section_lem (modifier_stops x y l w m h) = of_modifier_stops h
of_section_lem (pattern_text_lem x y run l w r n) = omega arith
of_section_lem (no_pattern x y w n) = omega arith
of_section_lem (no_lyrics x d w) = omega arith

of_metadata_lem : {before : List Line} {l : Line} {c : Complaint} → MetadataStops before l c → Early c
of_metadata_lem (of_key h) = of_key_stops h
of_metadata_lem (of_keys_lem h) = of_key_doubled h
of_metadata_lem (no_key n) = omega arith

of_definition : {before : List Block} {b : Block} {c : Complaint} → DefinitionStops before b c → Early c
of_definition (head_malformed n) = omega arith
of_definition (head_twice n e m w v) = omega arith
of_definition (head_27th n) = omega arith
of_definition (definition_text_lem l ls e n) = omega arith

of_text : {bs : List Block} {c : Complaint} → TextStops bs c → Early c
of_text (kind_late before behind a b e m h) = omega arith
of_text (in_metadata_lem ms before behind l k e h) = of_metadata_lem h
of_text (in_definition_lem ds before behind b k e h) = of_definition h
of_text (in_section ss b k m h) = of_section_lem h

of_1 : {bs : List ℕ} {c : Complaint} → Stops1 bs c → c.number ≤ 2
of_1 (over_long h) = omega arith
of_1 (bad_bytes place w lines h k cuts) = omega arith

of_2 : {bs : List Block} {c : Complaint} → Stops2 bs c → Early c
of_2 (stated h) = of_text h
of_2 (no_section_lem k n) = omega arith

of_3 : {s : Song} {c : Complaint} → Stops3 s c → (10 ≤ c.number) × (c.number ≤ 11)
of_3 (undefined d r xs n v i h) = (omega arith, omega arith)
of_3 (undefined_named x n i t h) = (omega arith, omega arith)
of_3 (too_deep_lem d e r q xs n v i m h j) = (omega arith, omega arith)
of_3 (loop_in_loop d e r q xs v i m h l) = (omega arith, omega arith)
of_3 (to_empty d e r xs v i m h) = (omega arith, omega arith)

of_row : {n line : ℕ} {r : Items} {c : Complaint} → RowStops n line r c → (12 ≤ c.number) × (c.number ≤ 13)
of_row (undivided m h u) = (omega arith, omega arith)
of_row (again_first a) = (omega arith, omega arith)

of_4 : {s : Song} {c : Complaint} → Stops4 s c → (12 ≤ c.number) × (c.number ≤ 13)
of_4 (of_pattern_lem x n r i h e t) = of_row t
of_4 (of_lead_in x n l r i h m t) = of_row t
of_4 (of_tail x n l r i h m t) = of_row t

of_5 : {s : Song} {c : Complaint} → Stops5 s c → (14 ≤ c.number) × (c.number ≤ 15)
of_5 (too_long front behind x counts k w us u h j) = (omega arith, omega arith)
of_5 (no_beat x n r pass i h e w g) = (omega arith, omega arith)
of_5 (empty_modified x i e h) = (omega arith, omega arith)

-- 13: a row whose first `%` stands before every chord, a section's pattern or the lead-in or tail on that line.
pub data StrayIn (s : Song) (line : ℕ) : Type 0 where
  in_text : (x : Section) (r : Items) → Memᴰ x s.sections → pattern_items s.definitions x.pattern ≡ some r → AgainFirst r
      → x.header ≡ line → StrayIn s line
  in_side : (x : Section) (r : Items) → Memᴰ x s.sections
      → (x.modifiers.before ≡ some (record { line = line; items = r })) ⊎ (x.modifiers.after ≡ some (record { line = line; items = r }))
      → AgainFirst r → StrayIn s line

row_again : {n line : ℕ} {r : Items} {c : Complaint} → RowStops n line r c → c.number ≡ 13 → AgainFirst r × (line ≡ c.line)
row_again (undivided m h u) e = let z : ⊥ = omega arith in absurd z
row_again (again_first a) e = (a, refl)

stray_4 : {s : Song} {c : Complaint} → Stops4 s c → c.number ≡ 13 → StrayIn s c.line
stray_4 (of_pattern_lem x n r i h e t) k = let g = row_again t k in in_text x r i e g.0 g.1
stray_4 (of_lead_in x n l r i h m t) k = let g = row_again t k in in_side x r i (inl (m ∙ ap (λ (j : ℕ). some (record { line = j; items = r })) g.1)) g.0
stray_4 (of_tail x n l r i h m t) k = let g = row_again t k in in_side x r i (inr (m ∙ ap (λ (j : ℕ). some (record { line = j; items = r })) g.1)) g.0

-- 12: a row with a measure whose positions do not divide the section's N.
pub record Undivided (n : ℕ) (r : Items) : Type 0 where
  pub measure : Measure
  pub there : MeasureIn measure r
  pub undivides : (k : ℕ) → k * positions measure ≡ n → ⊥

pub data MisfitIn (s : Song) (line : ℕ) : Type 0 where
  in_text : (x : Section) (r : Items) → Memᴰ x s.sections → pattern_items s.definitions x.pattern ≡ some r → Undivided (time_of s x) r
      → x.header ≡ line → MisfitIn s line
  in_side : (x : Section) (r : Items) → Memᴰ x s.sections
      → (x.modifiers.before ≡ some (record { line = line; items = r })) ⊎ (x.modifiers.after ≡ some (record { line = line; items = r }))
      → Undivided (time_of s x) r → MisfitIn s line

row_undivided : {n line : ℕ} {r : Items} {c : Complaint} → RowStops n line r c → c.number ≡ 12 → Undivided n r × (line ≡ c.line)
row_undivided (undivided m h u) e = (record { measure = m; there = h; undivides = λ k z. u k (ap (λ (j : ℕ). k * j) (places_are m) ∙ z) }, refl)
row_undivided (again_first a) e = let z : ⊥ = omega arith in absurd z

misfit_4 : {s : Song} {c : Complaint} → Stops4 s c → c.number ≡ 12 → MisfitIn s c.line
misfit_4 {s} (of_pattern_lem x n r i h e t) k =
    let g = row_undivided t k in in_text x r i e (subst (λ (j : ℕ). Undivided j r) (says_meter s x n h) g.0) g.1
misfit_4 {s} (of_lead_in x n l r i h m t) k =
    let g = row_undivided t k in
    in_side x r i (inl (m ∙ ap (λ (j : ℕ). some (record { line = j; items = r })) g.1)) (subst (λ (j : ℕ). Undivided j r) (says_meter s x n h) g.0)
misfit_4 {s} (of_tail x n l r i h m t) k =
    let g = row_undivided t k in
    in_side x r i (inr (m ∙ ap (λ (j : ℕ). some (record { line = j; items = r })) g.1)) (subst (λ (j : ℕ). Undivided j r) (says_meter s x n h) g.0)

of_6 : {s : Song} {c : Complaint} → Stops6 s c → (c.number ≡ 16) × ((l : LyricLine) × Taken s l × (l.number ≡ c.line))
of_6 (uncounted l o w n v k) = (refl, (l, w, refl))

of_7 : {s : Song} {c : Complaint} → Stops7 s c → (c.number ≡ 17) × ((x : Section) × Memᴰ x s.sections × (x.header ≡ c.line))
of_7 (sums_not l w total p has sums pl differ) = (refl, (w.section, w.listed, refl))

of_8 : {room : Room} {s : Song} {ps : List Parts} {c : Complaint} → Stops8 room s ps c → c.number ≡ 18
of_8 (keys_short h) = refl
of_8 (sections_short t w h) = refl
of_8 (measures_short t w h) = refl
of_8 (beats_short t w h) = refl
of_8 (items_short t w h) = refl

-- The numbers that a stage states.
abbrev pub Numbers : Stage → ℕ → Type 0
Numbers stage1 n = n ≤ 2
Numbers stage2 n = n ≤ 11
Numbers stage3 n = (10 ≤ n) × (n ≤ 11)
Numbers stage4 n = (12 ≤ n) × (n ≤ 13)
Numbers stage5 n = (14 ≤ n) × (n ≤ 15)
Numbers stage6 n = n ≡ 16
Numbers stage7 n = n ≡ 17
Numbers stage8 n = n ≡ 18

numbered : (room : Room) (bs : List ℕ) (k : Stage) (c : Complaint) → Stated room bs k c → Numbers k c.number
unfolding Stated
numbered room bs stage1 c h = of_1 h
numbered room bs stage2 c h = of_2 h.4
numbered room bs stage3 c h = of_3 h.2
numbered room bs stage4 c h = of_4 h.2
numbered room bs stage5 c h = of_5 h.2
numbered room bs stage6 c h = (of_6 h.2).0
numbered room bs stage7 c h = (of_7 h.2).0
numbered room bs stage8 c h = of_8 h.4

-- Any other stage has another number.
abbrev pub Only : Stage → ℕ → Type 0
Only j n = (k : Stage) → Numbers k n → k ≡ j

pub only_2 : Only stage2 7
only_2 stage1 h = absurd (omega arith)
only_2 stage2 h = refl
only_2 stage3 h = let e = h.0 in absurd (omega arith)
only_2 stage4 h = let e = h.0 in absurd (omega arith)
only_2 stage5 h = let e = h.0 in absurd (omega arith)
only_2 stage6 h = absurd (omega arith)
only_2 stage7 h = absurd (omega arith)
only_2 stage8 h = absurd (omega arith)

only_4 : (n : ℕ) → 12 ≤ n → n ≤ 13 → Only stage4 n
only_4 n i j stage1 h = absurd (omega arith)
only_4 n i j stage2 h = absurd (omega arith)
only_4 n i j stage3 h = let e = h.1 in absurd (omega arith)
only_4 n i j stage4 h = refl
only_4 n i j stage5 h = let e = h.0 in absurd (omega arith)
only_4 n i j stage6 h = absurd (omega arith)
only_4 n i j stage7 h = absurd (omega arith)
only_4 n i j stage8 h = absurd (omega arith)

only_6 : Only stage6 16
only_6 stage1 h = absurd (omega arith)
only_6 stage2 h = absurd (omega arith)
only_6 stage3 h = let e = h.1 in absurd (omega arith)
only_6 stage4 h = let e = h.1 in absurd (omega arith)
only_6 stage5 h = let e = h.1 in absurd (omega arith)
only_6 stage6 h = refl
only_6 stage7 h = absurd (omega arith)
only_6 stage8 h = absurd (omega arith)

only_7 : Only stage7 17
only_7 stage1 h = absurd (omega arith)
only_7 stage2 h = absurd (omega arith)
only_7 stage3 h = let e = h.1 in absurd (omega arith)
only_7 stage4 h = let e = h.1 in absurd (omega arith)
only_7 stage5 h = let e = h.1 in absurd (omega arith)
only_7 stage6 h = absurd (omega arith)
only_7 stage7 h = refl
only_7 stage8 h = absurd (omega arith)

module _ (bs : List ℕ) (line : ℕ) where
  abbrev pub room : Room
  room = record { keys = 0; sections = 0; measures = 0; beats = 0; items = 0 }

  over_long_first : (k : Stage) (n : ℕ) → Stated room bs k (complaint n line) → NothingIn room bs (refusals.stages_before k) → 3 ≤ n → 65536 < length bs → ⊥
  unfolding Stated NothingIn Nothing refusals.stages_before
  over_long_first stage1 n h e l o =
      let k = of_1 h in
      let z : ⊥ = omega arith in
      z
  over_long_first stage2 n h e l o = e.0 _ (over_long o)
  over_long_first stage3 n h e l o = e.0 _ (over_long o)
  over_long_first stage4 n h e l o = e.0 _ (over_long o)
  over_long_first stage5 n h e l o = e.0 _ (over_long o)
  over_long_first stage6 n h e l o = e.0 _ (over_long o)
  over_long_first stage7 n h e l o = e.0 _ (over_long o)
  over_long_first stage8 n h e l o = e.0 _ (over_long o)

  -- A text that is refused with a number of a later stage is not too long.
  pub short_text : (n : ℕ) → song_answer bs ≡ refused n line → 3 ≤ n → length bs ≤ 65536
  short_text n e l =
      let r = (refused_as_stated room bs n line).0 (refused_with_tables room bs n line e) in
      by_cases (ltb 65536 (length bs))
      (λ o. absurd (over_long_first r.stage n r.stated r.none_earlier l (ltb-true 65536 (length bs) o)))
      (λ o. let k = ltb-false 65536 (length bs) o in omega arith)

  -- A number that only one stage states is stated by it, and nothing by the stages before.
  pub stated_at : (j : Stage) (n : ℕ) → Only j n → song_answer bs ≡ refused n line
      → Stated room bs j (complaint n line) × NothingIn room bs (refusals.stages_before j)
  stated_at j n only e =
      let r = (refused_as_stated room bs n line).0 (refused_with_tables room bs n line e) in
      let k = only r.stage (numbered room bs r.stage (complaint n line) r.stated) in (
        subst (λ (i : Stage). Stated room bs i (complaint n line)) k r.stated,
        subst (λ (i : Stage). NothingIn room bs (refusals.stages_before i)) k r.none_earlier,
      )

  -- 12 and 13: a section of the chart, its pattern, lead-in or tail.
  refused_4 : (n : ℕ) → 12 ≤ n → n ≤ 13 → song_answer bs ≡ refused n line → (s : Song) × WrittenChart bs s × Stops4 s (complaint n line)
  unfolding Stated
  refused_4 n i j e = let h = (stated_at stage4 n (only_4 n i j) e).0 in (h.0, h.1, h.2)

  pub stray_refused : song_answer bs ≡ refused 13 line → (s : Song) × WrittenChart bs s × StrayIn s line
  stray_refused e = let r = refused_4 13 (omega arith) (omega arith) e in (r.0, r.1, stray_4 r.2 refl)

  pub misfit_refused : song_answer bs ≡ refused 12 line → (s : Song) × WrittenChart bs s × MisfitIn s line
  misfit_refused e = let r = refused_4 12 (omega arith) (omega arith) e in (r.0, r.1, misfit_4 r.2 refl)

  -- 16: a taken lyric line of the chart.
  abbrev LyricRefused : Type 0
  LyricRefused = (s : Song) × WrittenChart bs s × ((l : LyricLine) × Taken s l × (l.number ≡ line))

  pub lyric_refused : song_answer bs ≡ refused 16 line → LyricRefused
  unfolding Stated
  lyric_refused e = let h = (stated_at stage6 16 only_6 e).0 in (h.0, h.1, (of_6 h.2).1)

  -- 17: the header of a section of the chart.
  abbrev HeaderRefused : Type 0
  HeaderRefused = (s : Song) × WrittenChart bs s × ((x : Section) × Memᴰ x s.sections × (x.header ≡ line))

  pub header_refused : song_answer bs ≡ refused 17 line → HeaderRefused
  unfolding Stated
  header_refused e = let h = (stated_at stage7 17 only_7 e).0 in (h.0, h.1, (of_7 h.2).1)

  -- Then the stages before have nothing against the chart.
  none_stated : (k : Stage) → NothingIn room bs (refusals.stages_before k) → Nothing room bs k → complaints_in room bs k ≡ []
  unfolding Nothing
  none_stated k n q = empty (complaints_in room bs k) (λ c m. q c ((stage_as_stated room bs k n c).0 m))
    where
      empty : (cs : List Complaint) → ((c : Complaint) → Memᴰ c cs → ⊥) → cs ≡ []
      empty [] h = refl
      empty (c ∷ cs) h = absurd (h c (Memᴰ.head refl))

  pub sum_playable : song_answer bs ≡ refused 17 line → Playable bs
  unfolding NothingIn refusals.stages_before complaints_in
  sum_playable e =
      let n = (stated_at stage7 17 only_7 e).1 in
      record {
        small = short_text 17 e (omega arith);
        text = none_stated stage2 (n.0, tt) n.1.0;
        references = none_stated stage3 (n.0, (n.1.0, tt)) n.1.1.0;
        meters = none_stated stage4 (n.0, (n.1.0, (n.1.1.0, tt))) n.1.1.1.0;
        lengths = none_stated stage5 (n.0, (n.1.0, (n.1.1.0, (n.1.1.1.0, tt)))) n.1.1.1.1.0;
      }
