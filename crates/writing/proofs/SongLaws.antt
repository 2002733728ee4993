-- The words of a section that is seen in the row and played, written into the tables of sections, measures, beats and items.
use Prim.Native.Nat.{ℕ, ◌+◌, ◌-◌, ◌<◌, ◌≤◌}
use mathlib.Core.Path.{◌≡◌, sym, ap, ◌∙◌, subst}
use mathlib.Core.List.{List, [], ◌∷◌, ◌++◌, map, flat_map}
use native.Mathlib.Omega.{arith}
use lib.ListN.{length, take, drop, set, length-append, length-take, length-drop}
use lib.Seq.{sets}
use borrow.Rule.Slice.PartMut.{put_mid}
use Rattle.songcode.specs.Song.{Section, Song, Beat}
use Rattle.songcode.specs.Answer.Playing.{time_of, bpm_of, played}
use Rattle.songcode.specs.Description.Performance.{total}
use Rattle.songcode.specs.Answer.Tables.{section_word, section_words, measure_word, measure_words, beat_word, all_measures, tables}
use Rattle.songcode.specs.Answer.Answer.{song_of}
use Rattle.songcode.proofs.ListLaws.{gather_append, Each}
use Rattle.songcode.proofs.MemoryLaws.{Wrote, wrote_start, wrote_put, wrote_left, wrote_length, wrote_lent, wrote_end}
use Rattle.score.specs.declared.stretches.Stretch.{Stretch}
use Rattle.score.specs.declared.views.View.{View}
use Rattle.score.specs.Seen.{Sees}
use Rattle.score.specs.Views.{view_of}
use Rattle.player.specs.declared.playing.Arrangement.{Arrangement}
use Rattle.player.specs.declared.playing.Counts.{Counts}
use Rattle.player.specs.Windows.{heads, flat}
use Rattle.player.specs.Arrangements.{arrangement_in, arranged_row, PlaysWithin, Plays}
use Rattle.player.proofs.SectionMeaning.{heads_words, flat_words}
use Rattle.judging.specs.Charts.{Laid, Roomy}
use Rattle.judging.proofs.WholeLaws.{laid_ready, laid_row}
use Rattle.judging.proofs.AheadLaws.{Ahead, ahead_start, ahead_same, ahead_some, ahead_none, ahead_fits, ahead_sees, ahead_within, ahead_row}
use Rattle.judging.proofs.AheadLaws.{ahead_further, ahead_lyrics, ahead_fields, ahead_measures, ahead_beats, ahead_next}
use Rattle.judging.proofs.SumLaws.{section_words_length, measure_words_length, beat_words_length}
use Rattle.writing.specs.Prompts.{words_in, counts_in, prompt_words, lyrics_taken}
use Rattle.writing.proofs.PromptLaws.{items_left, none_left, items_start, SummedLeft, sums_start, items_split}
use Rattle.writing.proofs.PromptLaws.{counts_few, lyrics_inside, lyrics_low}

-- The words of rows one behind the other.
measure_words_append : (f : ℕ) (a b : List (List Beat)) → measure_words f (a ++ b) ≡ measure_words f a ++ measure_words (f + total a) b
unfolding measure_words total
measure_words_append f [] b = let z : f ≡ f + 0 = omega arith in ap (λ (k : ℕ). measure_words k b) z
measure_words_append f (m ∷ a) b =
    let z : f + length m + total a ≡ f + (length m + total a) = omega arith in
    ap (λ (ws : List ℕ). measure_word f (length m) ∷ ws)
    (measure_words_append (f + length m) a b ∙ ap (λ (k : ℕ). measure_words (f + length m) a ++ measure_words k b) z)

-- The words that are still to come for these sections, behind m measures and b beats.
abbrev pub sections_left : Song → ℕ → List Section → List ℕ
sections_left s m xs = section_words s m xs

abbrev pub measures_left : Song → ℕ → List Section → List ℕ
measures_left s b xs = measure_words b (flat_map (played s) xs)

abbrev pub beats_left : Song → List Section → List ℕ
beats_left s xs = flat_map (map beat_word) (flat_map (played s) xs)

-- Nothing is written yet.
module _ (s : Song) (old : List ℕ) where
  pub sections_start : Wrote old 0 old (sections_left s 0 s.sections) (tables s).sections
  unfolding tables
  sections_start = wrote_start old (section_words s 0 s.sections)

  pub measures_start : Wrote old 0 old (measures_left s 0 s.sections) (tables s).measures
  unfolding tables all_measures
  measures_start = wrote_start old (measure_words 0 (flat_map (played s) s.sections))

  pub beats_start : Wrote old 0 old (beats_left s s.sections) (tables s).beats
  unfolding tables all_measures
  beats_start = wrote_start old (flat_map (map beat_word) (flat_map (played s) s.sections))

  pub prompts_start : (k : ℕ) → k ≡ length (tables s).items → Wrote old 0 old (items_left k 0 s.sections) (tables s).items
  prompts_start k e = subst (λ (ws : List ℕ). Wrote old 0 old ws (tables s).items) (items_start s k e) (wrote_start old (tables s).items)

-- All is written where no section is left.
module _ (s : Song) (xs : List Section) (none : xs ≡ []) (old new all : List ℕ) (k : ℕ) where
  pub sections_end : (m : ℕ) → Wrote old k new (sections_left s m xs) all → new ≡ sets old 0 all
  unfolding section_words
  sections_end m w = wrote_end old k new all (subst (λ (ys : List Section). Wrote old k new (sections_left s m ys) all) none w)

  pub measures_end : (b : ℕ) → Wrote old k new (measures_left s b xs) all → new ≡ sets old 0 all
  unfolding flat_map measure_words
  measures_end b w = wrote_end old k new all (subst (λ (ys : List Section). Wrote old k new (measures_left s b ys) all) none w)

  pub beats_end : Wrote old k new (beats_left s xs) all → new ≡ sets old 0 all
  unfolding flat_map
  beats_end w = wrote_end old k new all (subst (λ (ys : List Section). Wrote old k new (beats_left s ys) all) none w)

  pub prompts_end : (count m : ℕ) → Wrote old k new (items_left count m xs) all → new ≡ sets old 0 all
  prompts_end count m w =
      wrote_end old k new all (subst (λ (ws : List ℕ). Wrote old k new ws all)
      (ap (λ (ys : List Section). items_left count m ys) none ∙ none_left count m) w)

-- The table of sections has room for one more.
pub sections_left_lem : (s : Song) (m k : ℕ) (x : Section) (xs : List Section) (old new all : List ℕ) → length all ≤ length old
    → Wrote old k new (sections_left s m (x ∷ xs)) all → k < length old
sections_left_lem s m k x xs old new all h w =
    let a = wrote_left old k new (sections_left s m (x ∷ xs)) all w in
    let b = section_words_length s m (x ∷ xs) in
    omega arith

-- The section that is seen at the place, behind m measures and b beats.
module _ {s ws : List ℕ} {rows : Stretch} {at end m b : ℕ} {x : Section} {xs : List Section} (whole : Laid s ws rows) (a : Ahead s ws at end m b (x ∷ xs))
    {v : View} (is : v ≡ view_of ws at) (c d : ℕ) (measures : c ≡ length (played (song_of s) x)) (beats : d ≡ total (played (song_of s) x)) where
  pub sections_next : (old new all : List ℕ) (k w : ℕ) → w ≡ section_word v.header m c v.meter v.tempo
      → Wrote old k new (sections_left (song_of s) m (x ∷ xs)) all → Wrote old (k + 1) (set new k w) (sections_left (song_of s) (m + c) xs) all
  unfolding section_words
  sections_next old new all k w f t =
      let sees = ahead_sees (laid_ready whole) a in
      let q : w ≡ section_word x.header m (length (played (song_of s) x)) (time_of (song_of s) x) (bpm_of (song_of s) x) =
      f ∙ rw (is, sees.header, measures, sees.meter, sees.tempo) in
      let r : sections_left (song_of s) m (x ∷ xs) ≡ w ∷ sections_left (song_of s) (m + c) xs = rw (q, measures) in
      wrote_put old k new (sections_left (song_of s) (m + c) xs) all w (subst (λ ys. Wrote old k new ys all) r t)

  module _ {y : Arrangement} (plays : y ≡ arrangement_in ws v) where
    row : arranged_row ws y ≡ arranged_row ws (arrangement_in ws (view_of ws at))
    row = rw (plays, is)

    pub measures_next : (old new all ys : List ℕ) → ys ≡ sets (take (length new - m) (drop m new)) 0 (heads b (arranged_row ws y))
        → Wrote old m new (measures_left (song_of s) b (x ∷ xs)) all
        → Wrote old (m + c) (put_mid m (length new - m) new ys) (measures_left (song_of s) (b + d) xs) all
    unfolding flat_map
    measures_next old new all ys z t =
        let here = played (song_of s) x in
        let rest = flat_map (played (song_of s)) xs in
        let f : heads b (arranged_row ws y) ≡ measure_words b here =
        ap (λ (r : List (List ℕ)). heads b r) (row ∙ ahead_row (laid_ready whole) a) ∙ heads_words b here in
        let r : measures_left (song_of s) b (x ∷ xs) ≡ measure_words b here ++ measure_words (b + d) rest =
        measure_words_append b here rest ∙ ap (λ (k : ℕ). measure_words b here ++ measure_words (b + k) rest) (sym beats) in
        wrote_lent old m new (measure_words b here) (measure_words (b + d) rest) all ys c (measure_words_length b here ∙ sym measures)
        (subst (λ us. Wrote old m new us all) r t) (z ∙ ap (λ (us : List ℕ). sets (take (length new - m) (drop m new)) 0 us) f)

    pub beats_next : (old new all ys : List ℕ) → ys ≡ sets (take (length new - b) (drop b new)) 0 (flat (arranged_row ws y))
        → Wrote old b new (beats_left (song_of s) (x ∷ xs)) all
        → Wrote old (b + d) (put_mid b (length new - b) new ys) (beats_left (song_of s) xs) all
    unfolding flat_map
    beats_next old new all ys z t =
        let here = played (song_of s) x in
        let rest = flat_map (played (song_of s)) xs in
        let f : flat (arranged_row ws y) ≡ flat_map (map beat_word) here = ap flat (row ∙ ahead_row (laid_ready whole) a) ∙ flat_words here in
        let r : beats_left (song_of s) (x ∷ xs) ≡ flat_map (map beat_word) here ++ flat_map (map beat_word) rest = gather_append (map beat_word) here rest in
        wrote_lent old b new (flat_map (map beat_word) here) (flat_map (map beat_word) rest) all ys d (beat_words_length here ∙ sym beats)
        (subst (λ us. Wrote old b new us all) r t) (z ∙ ap (λ (us : List ℕ). sets (take (length new - b) (drop b new)) 0 us) f)

-- What the four tables hold.
pub record Content : Type 0 where
  pub sections : List ℕ
  pub measures : List ℕ
  pub beats : List ℕ
  pub items : List ℕ

-- The walk has come to a place of the row: these sections are left, behind k others, m measures, b beats and i items, and the words of the others
-- are written over the old content.
pub record Midway (s ws : List ℕ) (count : ℕ) (old : Content) (at end k m b i : ℕ) (new : Content) (xs : List Section) : Type 0 where
  pub ahead : Ahead s ws at end m b xs
  pub summed : SummedLeft (song_of s) count xs
  pub sections : Wrote old.sections k new.sections (sections_left (song_of s) m xs) (tables (song_of s)).sections
  pub measures : Wrote old.measures m new.measures (measures_left (song_of s) b xs) (tables (song_of s)).measures
  pub beats : Wrote old.beats b new.beats (beats_left (song_of s) xs) (tables (song_of s)).beats
  pub items : Wrote old.items i new.items (items_left count m xs) (tables (song_of s)).items

pub midway_start : {s ws : List ℕ} {rows : Stretch} {count : ℕ} (old : Content) → Laid s ws rows → count ≡ length (tables (song_of s)).items
    → Midway s ws count old rows.from rows.to 0 0 0 0 old (song_of s).sections
midway_start {s} {ws} {rows} {count} old l e =
    record {
      ahead = ahead_start (laid_row l) l.sized.fits l.clear.meters l.clear.lengths;
      summed = λ some. sums_start (song_of s) (λ z. some (e ∙ z)) l.clear.sums;
      sections = sections_start (song_of s) old.sections;
      measures = measures_start (song_of s) old.measures;
      beats = beats_start (song_of s) old.beats;
      items = prompts_start (song_of s) old.items count e;
    }

pub midway_end : {s ws : List ℕ} {count : ℕ} {old : Content} {at end k m b i : ℕ} {new : Content} {xs : List Section}
    → Midway s ws count old at end k m b i new xs → end ≤ at → (new.sections ≡ sets old.sections 0 (tables (song_of s)).sections)
    × (new.measures ≡ sets old.measures 0 (tables (song_of s)).measures) × (new.beats ≡ sets old.beats 0 (tables (song_of s)).beats)
    × (new.items ≡ sets old.items 0 (tables (song_of s)).items)
midway_end {s} {ws} {count} {old} {at} {end} {k} {m} {b} {i} {new} {xs} w h =
    let none = ahead_none xs w.ahead h in (
      sections_end (song_of s) xs none old.sections new.sections (tables (song_of s)).sections k m w.sections,
      measures_end (song_of s) xs none old.measures new.measures (tables (song_of s)).measures m b w.measures,
      beats_end (song_of s) xs none old.beats new.beats (tables (song_of s)).beats b w.beats,
      prompts_end (song_of s) xs none old.items new.items (tables (song_of s)).items i count m w.items,
    )

-- No table is written past its end.
pub midway_lengths : {s ws : List ℕ} {count : ℕ} {old : Content} {at end k m b i : ℕ} {new : Content} {xs : List Section}
    → Midway s ws count old at end k m b i new xs → Roomy (tables (song_of s)) old.sections old.measures old.beats old.items
    → (length new.sections ≡ length old.sections) × (length new.measures ≡ length old.measures)
    × (length new.beats ≡ length old.beats) × (length new.items ≡ length old.items)
    × (m ≤ length new.measures) × (b ≤ length new.beats) × (i ≤ length new.items)
midway_lengths w roomy =
    let um = wrote_left _ _ _ _ _ w.measures in
    let ub = wrote_left _ _ _ _ _ w.beats in
    let ui = wrote_left _ _ _ _ _ w.items in
    let lk = wrote_length _ _ _ _ _ w.sections in
    let lm = wrote_length _ _ _ _ _ w.measures in
    let lb = wrote_length _ _ _ _ _ w.beats in
    let li = wrote_length _ _ _ _ _ w.items in
    (lk, lm, lb, li, omega (arith, um, lm, roomy.measures), omega (arith, ub, lb, roomy.beats), omega (arith, ui, li, roomy.items))

-- A section is left before the end.
pub record First (s ws : List ℕ) (count : ℕ) (old : Content) (at end k m b i : ℕ) (new : Content) : Type 0 where
  pub first : Section
  pub others : List Section
  pub midway : Midway s ws count old at end k m b i new (first ∷ others)

pub midway_first : {s ws : List ℕ} {count : ℕ} {old : Content} {at end k m b i : ℕ} {new : Content} (xs : List Section)
    → Midway s ws count old at end k m b i new xs → at < end → First s ws count old at end k m b i new
midway_first [] w h = absurd (ahead_some w.ahead h)
midway_first (x ∷ xs) w h = record { first = x; others = xs; midway = w }

module _ {s ws : List ℕ} {rows : Stretch} {count : ℕ} {old : Content} {at end k m b i : ℕ} {new : Content} {x : Section} {xs : List Section}
    (whole : Laid s ws rows) (w : Midway s ws count old at end k m b i new (x ∷ xs))
    (roomy : Roomy (tables (song_of s)) old.sections old.measures old.beats old.items) {v : View} (is : v ≡ view_of ws at) where
  pub midway_room : k < length old.sections
  midway_room = sections_left_lem (song_of s) m k x xs old.sections new.sections (tables (song_of s)).sections roomy.sections w.sections

  pub midway_further : at < v.next
  midway_further =
      let h = ahead_further (laid_ready whole) w.ahead in
      let e = ap (λ (u : View). u.next) is in
      omega arith

  sees : Sees (song_of s) ws x v
  sees = subst (λ (u : View). Sees (song_of s) ws x u) (sym is) (ahead_sees (laid_ready whole) w.ahead)

  module _ {y : Arrangement} (plays : y ≡ arrangement_in ws v) where
    arranged : y ≡ arrangement_in ws (view_of ws at)
    arranged = plays ∙ ap (arrangement_in ws) is

    pub midway_within : PlaysWithin ws y b
    midway_within = subst (λ (u : Arrangement). PlaysWithin ws u b) (sym arranged) (ahead_within (laid_ready whole) w.ahead b (omega arith))

    -- It is played.
    module _ {c : Counts} {ms bs : List ℕ} (done : Plays (arranged_row ws y) b c (take (length new.measures - m) (drop m new.measures))
        (take (length new.beats - b) (drop b new.beats)) ms bs) where
      measures_are : c.measures ≡ length (played (song_of s) x)
      measures_are = ahead_measures (laid_ready whole) w.ahead c.measures (done.measures ∙ ap (λ (u : Arrangement). length (arranged_row ws u)) arranged)

      beats_are : c.beats ≡ total (played (song_of s) x)
      beats_are = ahead_beats (laid_ready whole) w.ahead c.beats (done.beats ∙ ap (λ (u : Arrangement). total (arranged_row ws u)) arranged)

      pub midway_fields : (v.header < 131072) × (m < 65536) × (c.measures < 65536) × (v.meter < 64) × (v.tempo < 512)
      midway_fields = ahead_fields (laid_ready whole) w.ahead v is c.measures measures_are

      pub midway_few : (m + c.measures ≤ 65535) × (b + c.beats ≤ 2097120)
      midway_few =
          let a = ahead_next (laid_ready whole) w.ahead in
          let e = measures_are in
          let f = beats_are in
          (omega (arith, a.measures, a.few), omega (arith, a.beats, a.few))

      module _ {t : Stretch} (lines : t ≡ lyrics_taken count v.lyrics) where
        split : items_left count m (x ∷ xs) ≡ prompt_words m (words_in ws t) ++ items_left count (m + c.measures) xs
        split = rw lines (items_split sees (ahead_fits (laid_ready whole) w.ahead) m count c.measures xs w.summed measures_are)

        pub midway_count : length new.items ≡ length old.items → i + length (prompt_words m (words_in ws t)) ≤ length new.items
        midway_count l =
            let n = ap (λ (us : List ℕ). length us) split ∙ length-append (prompt_words m (words_in ws t)) (items_left count (m + c.measures) xs) in
            let left = wrote_left old.items i new.items (items_left count m (x ∷ xs)) (tables (song_of s)).items w.items in
            omega (arith, roomy.items)

        pub midway_lines : i ≤ length new.items → length new.items ≡ length old.items → (t.to ≤ 1000000)
            × (t.to ≡ t.from + length (words_in ws t))
            × (m + counts_in (words_in ws t) ≤ 65535)
            × (length (prompt_words m (words_in ws t)) ≤ length (take (length new.items - i) (drop i new.items)))
        midway_lines h l =
            let f = ahead_fits (laid_ready whole) w.ahead in
            let low : v.lyrics.to ≤ 100000 = rw is (ahead_lyrics (laid_ready whole) w.ahead) in
            let room = midway_count l in
            let a = length-take (length new.items - i) (drop i new.items) in
            let d = length-drop i new.items in (
              rw lines (lyrics_low sees f m count low),
              rw lines (lyrics_inside sees f m count),
              rw lines (counts_few sees f m count c.measures xs w.summed measures_are midway_few.0),
              omega arith,
            )

        -- All is written that the section adds.
        pub midway_next : {word n : ℕ} {us : List ℕ} → word ≡ section_word v.header m c.measures v.meter v.tempo
            → n ≡ length (prompt_words m (words_in ws t))
            → us ≡ sets (take (length new.items - i) (drop i new.items)) 0 (prompt_words m (words_in ws t))
            → Midway s ws count old v.next end (k + 1) (m + c.measures) (b + c.beats) (i + n)
            (record {
              sections = set new.sections k word;
              measures = put_mid m (length new.measures - m) new.measures ms;
              beats = put_mid b (length new.beats - b) new.beats bs;
              items = put_mid i (length new.items - i) new.items us;
            })
            xs
        unfolding Each
        midway_next {word} {n} {us} q e u =
            let all = tables (song_of s) in
            let next : Ahead s ws (view_of ws at).next end (m + c.measures) (b + c.beats) xs =
            ahead_same (omega (arith, measures_are)) (omega (arith, beats_are)) (ahead_next (laid_ready whole) w.ahead) in
            record {
              ahead = subst (λ (p : ℕ). Ahead s ws p end (m + c.measures) (b + c.beats) xs) (sym (ap (λ (p : View). p.next) is)) next;
              summed = λ some. (w.summed some).1;
              sections = sections_next whole w.ahead is c.measures c.beats measures_are beats_are old.sections new.sections
                  all.sections k word q w.sections;
              measures = measures_next whole w.ahead is c.measures c.beats measures_are beats_are plays old.measures new.measures
                  all.measures ms done.measure_table w.measures;
              beats = beats_next whole w.ahead is c.measures c.beats measures_are beats_are plays old.beats new.beats
                  all.beats bs done.beat_table w.beats;
              items = wrote_lent old.items i new.items (prompt_words m (words_in ws t)) (items_left count (m + c.measures) xs) all.items us n
                  (sym e) (subst (λ (vs : List ℕ). Wrote old.items i new.items vs all.items) split w.items) u;
            }
