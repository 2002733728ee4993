-- Each refusal is given exactly when it is stated, in the table's words, and earlier ones are not.
use Prim.Native.Nat.{ℕ, ◌<◌}
use mathlib.Core.Path.{◌≡◌, refl, ap, sym, subst, ◌∙◌}
use mathlib.Core.Logic.{◌↔◌, ⊎_elim}
use mathlib.Core.List.Memᴰ
use mathlib.Core.List.{List, [], ◌∷◌, Memᴰ}
use mathlib.Core.Bool.{Bool, ◌||◌}
use lib.Dec.{ltb}
use lib.ListN.{length}
use borrow.Author.Tests.{ltb-true, lt-ltb}
use Rattle.songcode.specs.Bytes.{placed}
use Rattle.songcode.specs.Answer.Lines.{lines, blocks}
use Rattle.songcode.specs.Complaints.{Complaint, complaint}
use Rattle.songcode.specs.Song.{Section, Song}
use Rattle.songcode.specs.Answer.SongText.{text_faults}
use Rattle.songcode.specs.Answer.References.{reference_faults}
use Rattle.songcode.specs.Answer.Meter.{meter_faults, length_faults}
use Rattle.songcode.specs.Answer.Lyrics.{count_faults, sum_faults}
use Rattle.songcode.specs.Answer.Tables.{key_words, key_order, Tables, tables}
use Rattle.songcode.specs.Answer.Answer.{input_faults, blocks_of, song_of, Room, room_faults, stages, refused, answer}
use Rattle.songcode.specs.Description.WrittenSection.{Each, none_each, and_each}
use Rattle.songcode.specs.Description.WrittenSong.{WrittenSong, WrittenChart}
use Rattle.songcode.specs.Description.Performance.{Parts, PlaysSection}
use Rattle.songcode.specs.Description.Fits.{Fits}
use Rattle.songcode.specs.Description.WrittenTables.{WrittenTables}
use Rattle.songcode.specs.Description.Given.{Before, FirstOf, Given, in_this, in_later}
use Rattle.songcode.specs.Description.StoppedSong.{Stops3, Stops4, Stops5, Stops6, Stops7, Stops8, keys_short, sections_short, measures_short}
use Rattle.songcode.specs.Description.StoppedSong.{beats_short}
use Rattle.songcode.specs.Description.StoppedSong.{items_short}
use Rattle.songcode.specs.Description.Refusals.{Stage, stage1, stage2, stage3, stage4, stage5, stage6, stage7, stage8, Stated, Nothing, stages_before}
use Rattle.songcode.specs.Description.Refusals.{NothingIn}
use Rattle.songcode.specs.Description.Refusals.{Refused}
use Rattle.songcode.specs.StageLists.{complaints_in}
use Rattle.songcode.proofs.MemberLaws.{either_passes, pass_left, pass_right, in_complaint, complaint_in}
use Rattle.songcode.proofs.LinesAgree.{lines_sound, lines_complete}
use Rattle.songcode.proofs.BlocksAgree.{blocks_sound, blocks_complete}
use Rattle.songcode.proofs.InputStops.{input_stops_exact}
use Rattle.songcode.proofs.SongAgree.{song_exact}
use Rattle.songcode.proofs.TextStops.{text_stops_exact}
use Rattle.songcode.proofs.ReferencesAgree.{references_exact}
use Rattle.songcode.proofs.ReferenceStops.{reference_stops_exact}
use Rattle.songcode.proofs.PlainAgree.{song_plain}
use Rattle.songcode.proofs.MeterAgree.{PlainSections, parts_of_lem, plays_section, playing_exact, parts_played, parts_performed}
use Rattle.songcode.proofs.MeterStops.{meter_stops_exact}
use Rattle.songcode.proofs.LengthStops.{length_stops_exact}
use Rattle.songcode.proofs.LyricsAgree.{counts_exact}
use Rattle.songcode.proofs.LyricStops.{count_stops_exact, sum_stops_exact}
use Rattle.songcode.proofs.TablesAgree.{tables_exact}
use Rattle.songcode.proofs.AnswerAgree.{chart_of, of_chart, song_read, refused_exactly}

-- Stage 8: room.
module _ (room : Room) (s : Song) (ps : List Parts) (written : (t : Tables) → (t ≡ tables s) ↔ WrittenTables s ps t) where
  abbrev keys_under : Bool
  keys_under = ltb room.keys (length (tables s).keys)

  abbrev sections_under : Bool
  sections_under = ltb room.sections (length (tables s).sections)

  abbrev measures_under : Bool
  measures_under = ltb room.measures (length (tables s).measures)

  abbrev beats_under : Bool
  beats_under = ltb room.beats (length (tables s).beats)

  abbrev items_under : Bool
  items_under = ltb room.items (length (tables s).items)

  room_stated : {c : Complaint} → Memᴰ c (room_faults room (tables s)) → Stops8 room s ps c
  unfolding room_faults tables key_words key_order
  room_stated m =
      let h = in_complaint (keys_under || sections_under || measures_under || beats_under || items_under) 18 0 m in
      let w = (written (tables s)).0 refl in
      subst (λ z. Stops8 room s ps z) (sym h.1)
      (⊎_elim
      (λ a.
      ⊎_elim
      (λ b.
      ⊎_elim
      (λ c.
      ⊎_elim
      (λ d. keys_short (ltb-true room.keys 8 d))
      (λ d. sections_short (tables s) w (ltb-true room.sections (length (tables s).sections) d))
      (either_passes keys_under sections_under c))
      (λ c. measures_short (tables s) w (ltb-true room.measures (length (tables s).measures) c))
      (either_passes (keys_under || sections_under) measures_under b))
      (λ b. beats_short (tables s) w (ltb-true room.beats (length (tables s).beats) b))
      (either_passes (keys_under || sections_under || measures_under) beats_under a))
      (λ a. items_short (tables s) w (ltb-true room.items (length (tables s).items) a))
      (either_passes (keys_under || sections_under || measures_under || beats_under) items_under h.0))

  same : {t : Tables} → WrittenTables s ps t → t ≡ tables s
  same {t} w = (written t).1 w

  stated_room : {c : Complaint} → Stops8 room s ps c → Memᴰ c (room_faults room (tables s))
  unfolding room_faults tables key_words key_order
  stated_room (keys_short h) =
      complaint_in 18 0 (pass_left items_under (pass_left beats_under (pass_left measures_under (pass_left sections_under (lt-ltb room.keys 8 h)))))
  stated_room (sections_short t w h) =
      complaint_in 18 0
      (pass_left items_under
      (pass_left beats_under (pass_left measures_under (pass_right keys_under (lt-ltb _ _ (subst (λ z. room.sections < length z.sections) (same w) h))))))
  stated_room (measures_short t w h) =
      complaint_in 18 0
      (pass_left items_under
      (pass_left beats_under (pass_right (keys_under || sections_under) (lt-ltb _ _ (subst (λ z. room.measures < length z.measures) (same w) h)))))
  stated_room (beats_short t w h) =
      complaint_in 18 0
      (pass_left items_under
      (pass_right (keys_under || sections_under || measures_under) (lt-ltb _ _ (subst (λ z. room.beats < length z.beats) (same w) h))))
  stated_room (items_short t w h) =
      complaint_in 18 0
      (pass_right (keys_under || sections_under || measures_under || beats_under) (lt-ltb _ _ (subst (λ z. room.items < length z.items) (same w) h)))

-- A thing that stands at the place of another.
each_left : {A B : Type 0} {R : A → B → Type 0} {xs : List A} {ys : List B} {x : A} → Each R xs ys → Memᴰ x xs → (y : B) × R x y
each_left none_each m = absurd (Memᴰ.not-nil m)
each_left {R = R} (and_each {x} {y} h hs) m = ⊎_elim (λ e. (y, subst (λ z. R z y) (sym e) h)) (λ i. each_left hs i) (Memᴰ.cases_cons m)

module _ (room : Room) (bs : List ℕ) where
  -- A stage's list says what is stated in it.
  abbrev Says : Stage → List Complaint → Type 0
  Says k list = (c : Complaint) → Memᴰ c list ↔ Stated room bs k c

  says_1 : Says stage1 (input_faults bs)
  unfolding Stated
  says_1 c = input_stops_exact bs

  says_2 : Says stage2 (text_faults (blocks_of bs))
  unfolding Stated blocks_of
  says_2 c = (
    (λ m. (
      lines (placed 0 bs),
      blocks (lines (placed 0 bs)),
      lines_sound (placed 0 bs),
      blocks_sound (lines (placed 0 bs)),
      (text_stops_exact
          (blocks (lines (placed 0 bs)))).0 m,
    )),
    (λ w.
        let l = lines_complete (placed 0 bs) w.0 w.2 in
        let b = blocks_complete w.3 in
        subst (λ z. Memᴰ c (text_faults z)) (sym (ap (λ z. blocks z) l ∙ b)) ((text_stops_exact w.1).1 w.4)),
  )

  -- The song, where stages 1 and 2 state nothing.
  module _ (quiet-1 : input_faults bs ≡ []) (quiet-2 : text_faults (blocks_of bs) ≡ []) where
    abbrev song : Song
    song = song_of bs

    written : WrittenSong (blocks_of bs) song
    written =
        let f = (song_exact (blocks_of bs)).0 quiet-2 in
        subst (λ z. WrittenSong (blocks_of bs) z) (sym (song_read bs f.0 f.1)) f.1

    chart : WrittenChart bs song
    chart = chart_of bs song quiet-1 written

    that_song : (s : Song) → WrittenChart bs s → song ≡ s
    that_song s w = song_read bs s (of_chart bs s w)

    -- A stage said of the song.
    of_song : (list : List Complaint) (P : Song → Complaint → Type 0) (c : Complaint) → (Memᴰ c list ↔ P song c)
        → Memᴰ c list ↔ ((s : Song) × WrittenChart bs s × P s c)
    of_song list P c e = ((λ m. (song, chart, e.0 m)), (λ w. e.1 (subst (λ z. P z c) (sym (that_song w.0 w.1)) w.2)))

    says_3 : Says stage3 (reference_faults song)
    unfolding Stated
    says_3 c = of_song (reference_faults song) Stops3 c (reference_stops_exact song written)

    module _ (quiet-3 : reference_faults song ≡ []) where
      plain : PlainSections song song.sections
      plain = song_plain song written ((references_exact song).0 quiet-3).0

      says_4 : Says stage4 (meter_faults song)
      unfolding Stated
      says_4 c = of_song (meter_faults song) Stops4 c (meter_stops_exact song written ((references_exact song).0 quiet-3).0)

      module _ (quiet-4 : meter_faults song ≡ []) where
        says_5 : Says stage5 (length_faults song 0 song.sections)
        unfolding Stated
        says_5 c = of_song (length_faults song 0 song.sections) Stops5 c (length_stops_exact song plain quiet-4)

        module _ (quiet-5 : length_faults song 0 song.sections ≡ []) where
          parts : List Parts
          parts = ((playing_exact song plain).0 (quiet-4, quiet-5)).0

          each_plays : Each (PlaysSection song) song.sections parts
          unfolding parts
          each_plays = ((playing_exact song plain).0 (quiet-4, quiet-5)).1

          plays : (x : Section) → Memᴰ x song.sections → PlaysSection song x (parts_of_lem song x)
          plays x m = let r = each_left each_plays m in subst (λ p. PlaysSection song x p) (plays_section song x r.0 r.1).same r.1

          says_6 : Says stage6 (count_faults song)
          unfolding Stated
          says_6 c = of_song (count_faults song) Stops6 c (count_stops_exact song)

          module _ (quiet-6 : count_faults song ≡ []) where
            says_7 : Says stage7 (sum_faults song)
            unfolding Stated
            says_7 c = of_song (sum_faults song) Stops7 c (sum_stops_exact song quiet-6 plays)

            module _ (quiet-7 : sum_faults song ≡ []) where
              fits : Fits song parts
              unfolding parts
              fits =
                  let r = (references_exact song).0 quiet-3 in
                  record {
                    definitions_refer = r.0;
                    sections_refer = r.1;
                    plays = each_plays;
                    short = ((playing_exact song plain).0 (quiet-4, quiet-5)).2;
                    counts = (counts_exact song parts (parts_played song each_plays)).0 (quiet-6, quiet-7);
                  }

              says_8 : Says stage8 (room_faults room (tables song))
              unfolding Stated
              says_8 c = (
                (λ m. (song, parts, chart, fits, room_stated room song parts (λ t. tables_exact song parts t (parts_performed song each_plays)) m)),
                (λ w.
                    let ps = w.1 in
                    let e : song ≡ w.0 = that_song w.0 w.2 in
                    subst (λ z. Memᴰ c (room_faults room (tables z))) (sym e)
                    (stated_room room w.0 ps (λ t. tables_exact w.0 ps t (parts_performed w.0 w.3.plays)) w.4)),
              )

  -- From a stage's list to what is stated, and back.
  silent : (k : Stage) (list : List Complaint) → Says k list → list ≡ [] → Nothing room bs k
  unfolding Nothing
  silent k list says e c h = Memᴰ.not-nil (subst (λ z. Memᴰ c z) e ((says c).1 h))

  empty : (k : Stage) (list : List Complaint) → Says k list → Nothing room bs k → list ≡ []
  unfolding Nothing
  empty k [] says h = refl
  empty k (c ∷ cs) says h = absurd (h c ((says c).0 (Memᴰ.head refl)))

  at : (k : Stage) (list : List Complaint) (c : Complaint) → Says k list → FirstOf list c → NothingIn room bs (stages_before k) → Refused room bs c
  at k list c says f none_before = record { stage = k; stated = (says c).0 f.stated; first = λ d h. f.first d ((says d).1 h); none_earlier = none_before }

  first_of : (k : Stage) (list : List Complaint) (c : Complaint) → Says k list → Stated room bs k c → ((d : Complaint) → Stated room bs k d → Before c d)
      → FirstOf list c
  first_of k list c says h f = record { stated = (says c).1 h; first = λ d m. f d ((says d).0 m) }

  given_refused : (c : Complaint) → Given (stages room bs) c → Refused room bs c
  unfolding stages stages_before NothingIn
  given_refused c (in_this f) =
      at stage1 (input_faults bs) c says_1 f
      tt
  given_refused c (in_later e1 (in_this f)) =
      at stage2 (text_faults (blocks_of bs)) c says_2 f
      (silent stage1 (input_faults bs) says_1 e1, tt)
  given_refused c (in_later e1 (in_later e2 (in_this f))) =
      at stage3 (reference_faults (song_of bs)) c (says_3 e1 e2) f
      (silent stage1 (input_faults bs) says_1 e1, (silent stage2 (text_faults (blocks_of bs)) says_2 e2, tt))
  given_refused c (in_later e1 (in_later e2 (in_later e3 (in_this f)))) =
      at stage4 (meter_faults (song_of bs)) c (says_4 e1 e2 e3) f (
        silent stage1 (input_faults bs) says_1 e1,
        (silent stage2 (text_faults (blocks_of bs)) says_2 e2, (silent stage3 (reference_faults (song_of bs)) (says_3 e1 e2) e3, tt)),
      )
  given_refused c (in_later e1 (in_later e2 (in_later e3 (in_later e4 (in_this f))))) =
      at stage5 (length_faults (song_of bs) 0 (song_of bs).sections) c (says_5 e1 e2 e3 e4) f (
        silent stage1 (input_faults bs) says_1 e1,
        (
          silent stage2 (text_faults (blocks_of bs)) says_2 e2,
          (silent stage3 (reference_faults (song_of bs)) (says_3 e1 e2) e3, (silent stage4 (meter_faults (song_of bs)) (says_4 e1 e2 e3) e4, tt)),
        ),
      )
  given_refused c (in_later e1 (in_later e2 (in_later e3 (in_later e4 (in_later e5 (in_this f)))))) =
      at stage6 (count_faults (song_of bs)) c (says_6 e1 e2 e3 e4 e5) f (
        silent stage1 (input_faults bs) says_1 e1,
        (
          silent stage2 (text_faults (blocks_of bs)) says_2 e2,
          (
            silent stage3 (reference_faults (song_of bs)) (says_3 e1 e2) e3,
            (
              silent stage4 (meter_faults (song_of bs)) (says_4 e1 e2 e3) e4,
              (silent stage5 (length_faults (song_of bs) 0 (song_of bs).sections) (says_5 e1 e2 e3 e4) e5, tt),
            ),
          ),
        ),
      )
  given_refused c (in_later e1 (in_later e2 (in_later e3 (in_later e4 (in_later e5 (in_later e6 (in_this f))))))) =
      at stage7 (sum_faults (song_of bs)) c (says_7 e1 e2 e3 e4 e5 e6) f (
        silent stage1 (input_faults bs) says_1 e1,
        (
          silent stage2 (text_faults (blocks_of bs)) says_2 e2,
          (
            silent stage3 (reference_faults (song_of bs)) (says_3 e1 e2) e3,
            (
              silent stage4 (meter_faults (song_of bs)) (says_4 e1 e2 e3) e4,
              (
                silent stage5 (length_faults (song_of bs) 0 (song_of bs).sections) (says_5 e1 e2 e3 e4) e5,
                (silent stage6 (count_faults (song_of bs)) (says_6 e1 e2 e3 e4 e5) e6, tt),
              ),
            ),
          ),
        ),
      )
  given_refused c (in_later e1 (in_later e2 (in_later e3 (in_later e4 (in_later e5 (in_later e6 (in_later e7 (in_this f)))))))) =
      at stage8 (room_faults room (tables (song_of bs))) c (says_8 e1 e2 e3 e4 e5 e6 e7) f (
        silent stage1 (input_faults bs) says_1 e1,
        (
          silent stage2 (text_faults (blocks_of bs)) says_2 e2,
          (
            silent stage3 (reference_faults (song_of bs)) (says_3 e1 e2) e3,
            (
              silent stage4 (meter_faults (song_of bs)) (says_4 e1 e2 e3) e4,
              (
                silent stage5 (length_faults (song_of bs) 0 (song_of bs).sections) (says_5 e1 e2 e3 e4) e5,
                (
                  silent stage6 (count_faults (song_of bs)) (says_6 e1 e2 e3 e4 e5) e6,
                  (silent stage7 (sum_faults (song_of bs)) (says_7 e1 e2 e3 e4 e5 e6) e7, tt),
                ),
              ),
            ),
          ),
        ),
      )
  given_refused c (in_later e1 (in_later e2 (in_later e3 (in_later e4 (in_later e5 (in_later e6 (in_later e7 (in_later e8 g)))))))) = elim g [ ]

  -- The lists of the stages before one that states something are empty.
  stated_given : (c : Complaint) (k : Stage) → Stated room bs k c → ((d : Complaint) → Stated room bs k d → Before c d) → NothingIn room bs (stages_before k)
      → Given (stages room bs) c
  unfolding stages stages_before NothingIn
  stated_given c stage1 h f n =
      in_this (first_of stage1 (input_faults bs) c says_1 h f)
  stated_given c stage2 h f n =
      let e1 : input_faults bs ≡ [] = empty stage1 (input_faults bs) says_1 n.0 in
      in_later e1 (in_this (first_of stage2 (text_faults (blocks_of bs)) c says_2 h f))
  stated_given c stage3 h f n =
      let e1 : input_faults bs ≡ [] = empty stage1 (input_faults bs) says_1 n.0 in
      let e2 : text_faults (blocks_of bs) ≡ [] = empty stage2 (text_faults (blocks_of bs)) says_2 n.1.0 in
      in_later e1 (in_later e2 (in_this (first_of stage3 (reference_faults (song_of bs)) c (says_3 e1 e2) h f)))
  stated_given c stage4 h f n =
      let e1 : input_faults bs ≡ [] = empty stage1 (input_faults bs) says_1 n.0 in
      let e2 : text_faults (blocks_of bs) ≡ [] = empty stage2 (text_faults (blocks_of bs)) says_2 n.1.0 in
      let e3 : reference_faults (song_of bs) ≡ [] = empty stage3 (reference_faults (song_of bs)) (says_3 e1 e2) n.1.1.0 in
      in_later e1 (in_later e2 (in_later e3 (in_this (first_of stage4 (meter_faults (song_of bs)) c (says_4 e1 e2 e3) h f))))
  stated_given c stage5 h f n =
      let e1 : input_faults bs ≡ [] = empty stage1 (input_faults bs) says_1 n.0 in
      let e2 : text_faults (blocks_of bs) ≡ [] = empty stage2 (text_faults (blocks_of bs)) says_2 n.1.0 in
      let e3 : reference_faults (song_of bs) ≡ [] = empty stage3 (reference_faults (song_of bs)) (says_3 e1 e2) n.1.1.0 in
      let e4 : meter_faults (song_of bs) ≡ [] = empty stage4 (meter_faults (song_of bs)) (says_4 e1 e2 e3) n.1.1.1.0 in
      in_later e1
      (in_later e2 (in_later e3 (in_later e4 (in_this (first_of stage5 (length_faults (song_of bs) 0 (song_of bs).sections) c (says_5 e1 e2 e3 e4) h f)))))
  stated_given c stage6 h f n =
      let e1 : input_faults bs ≡ [] = empty stage1 (input_faults bs) says_1 n.0 in
      let e2 : text_faults (blocks_of bs) ≡ [] = empty stage2 (text_faults (blocks_of bs)) says_2 n.1.0 in
      let e3 : reference_faults (song_of bs) ≡ [] = empty stage3 (reference_faults (song_of bs)) (says_3 e1 e2) n.1.1.0 in
      let e4 : meter_faults (song_of bs) ≡ [] = empty stage4 (meter_faults (song_of bs)) (says_4 e1 e2 e3) n.1.1.1.0 in
      let e5 : length_faults (song_of bs) 0 (song_of bs).sections ≡ [] =
      empty stage5 (length_faults (song_of bs) 0 (song_of bs).sections) (says_5 e1 e2 e3 e4) n.1.1.1.1.0 in
      in_later e1 (in_later e2 (in_later e3 (in_later e4 (in_later e5 (in_this (first_of stage6 (count_faults (song_of bs)) c (says_6 e1 e2 e3 e4 e5) h f))))))
  stated_given c stage7 h f n =
      let e1 : input_faults bs ≡ [] = empty stage1 (input_faults bs) says_1 n.0 in
      let e2 : text_faults (blocks_of bs) ≡ [] = empty stage2 (text_faults (blocks_of bs)) says_2 n.1.0 in
      let e3 : reference_faults (song_of bs) ≡ [] = empty stage3 (reference_faults (song_of bs)) (says_3 e1 e2) n.1.1.0 in
      let e4 : meter_faults (song_of bs) ≡ [] = empty stage4 (meter_faults (song_of bs)) (says_4 e1 e2 e3) n.1.1.1.0 in
      let e5 : length_faults (song_of bs) 0 (song_of bs).sections ≡ [] =
      empty stage5 (length_faults (song_of bs) 0 (song_of bs).sections) (says_5 e1 e2 e3 e4) n.1.1.1.1.0 in
      let e6 : count_faults (song_of bs) ≡ [] = empty stage6 (count_faults (song_of bs)) (says_6 e1 e2 e3 e4 e5) n.1.1.1.1.1.0 in
      in_later e1
      (in_later e2
      (in_later e3 (in_later e4 (in_later e5 (in_later e6 (in_this (first_of stage7 (sum_faults (song_of bs)) c (says_7 e1 e2 e3 e4 e5 e6) h f)))))))
  stated_given c stage8 h f n =
      let e1 : input_faults bs ≡ [] = empty stage1 (input_faults bs) says_1 n.0 in
      let e2 : text_faults (blocks_of bs) ≡ [] = empty stage2 (text_faults (blocks_of bs)) says_2 n.1.0 in
      let e3 : reference_faults (song_of bs) ≡ [] = empty stage3 (reference_faults (song_of bs)) (says_3 e1 e2) n.1.1.0 in
      let e4 : meter_faults (song_of bs) ≡ [] = empty stage4 (meter_faults (song_of bs)) (says_4 e1 e2 e3) n.1.1.1.0 in
      let e5 : length_faults (song_of bs) 0 (song_of bs).sections ≡ [] =
      empty stage5 (length_faults (song_of bs) 0 (song_of bs).sections) (says_5 e1 e2 e3 e4) n.1.1.1.1.0 in
      let e6 : count_faults (song_of bs) ≡ [] = empty stage6 (count_faults (song_of bs)) (says_6 e1 e2 e3 e4 e5) n.1.1.1.1.1.0 in
      let e7 : sum_faults (song_of bs) ≡ [] = empty stage7 (sum_faults (song_of bs)) (says_7 e1 e2 e3 e4 e5 e6) n.1.1.1.1.1.1.0 in
      in_later e1
      (in_later e2 (in_later e3
      (in_later e4 (in_later e5
      (in_later e6 (in_later e7 (in_this (first_of stage8 (room_faults room (tables (song_of bs))) c (says_8 e1 e2 e3 e4 e5 e6 e7) h f))))))))

  -- Every stage's complaints are what is stated in it, where nothing is stated before.
  pub stage_as_stated : (k : Stage) → NothingIn room bs (stages_before k) → (c : Complaint) → Memᴰ c (complaints_in room bs k) ↔ Stated room bs k c
  unfolding complaints_in stages_before NothingIn
  stage_as_stated stage1 n c =
      says_1 c
  stage_as_stated stage2 n c =
      let e1 : input_faults bs ≡ [] = empty stage1 (input_faults bs) says_1 n.0 in
      says_2 c
  stage_as_stated stage3 n c =
      let e1 : input_faults bs ≡ [] = empty stage1 (input_faults bs) says_1 n.0 in
      let e2 : text_faults (blocks_of bs) ≡ [] = empty stage2 (text_faults (blocks_of bs)) says_2 n.1.0 in
      says_3 e1 e2 c
  stage_as_stated stage4 n c =
      let e1 : input_faults bs ≡ [] = empty stage1 (input_faults bs) says_1 n.0 in
      let e2 : text_faults (blocks_of bs) ≡ [] = empty stage2 (text_faults (blocks_of bs)) says_2 n.1.0 in
      let e3 : reference_faults (song_of bs) ≡ [] = empty stage3 (reference_faults (song_of bs)) (says_3 e1 e2) n.1.1.0 in
      says_4 e1 e2 e3 c
  stage_as_stated stage5 n c =
      let e1 : input_faults bs ≡ [] = empty stage1 (input_faults bs) says_1 n.0 in
      let e2 : text_faults (blocks_of bs) ≡ [] = empty stage2 (text_faults (blocks_of bs)) says_2 n.1.0 in
      let e3 : reference_faults (song_of bs) ≡ [] = empty stage3 (reference_faults (song_of bs)) (says_3 e1 e2) n.1.1.0 in
      let e4 : meter_faults (song_of bs) ≡ [] = empty stage4 (meter_faults (song_of bs)) (says_4 e1 e2 e3) n.1.1.1.0 in
      says_5 e1 e2 e3 e4 c
  stage_as_stated stage6 n c =
      let e1 : input_faults bs ≡ [] = empty stage1 (input_faults bs) says_1 n.0 in
      let e2 : text_faults (blocks_of bs) ≡ [] = empty stage2 (text_faults (blocks_of bs)) says_2 n.1.0 in
      let e3 : reference_faults (song_of bs) ≡ [] = empty stage3 (reference_faults (song_of bs)) (says_3 e1 e2) n.1.1.0 in
      let e4 : meter_faults (song_of bs) ≡ [] = empty stage4 (meter_faults (song_of bs)) (says_4 e1 e2 e3) n.1.1.1.0 in
      let e5 : length_faults (song_of bs) 0 (song_of bs).sections ≡ [] =
      empty stage5 (length_faults (song_of bs) 0 (song_of bs).sections) (says_5 e1 e2 e3 e4) n.1.1.1.1.0 in
      says_6 e1 e2 e3 e4 e5 c
  stage_as_stated stage7 n c =
      let e1 : input_faults bs ≡ [] = empty stage1 (input_faults bs) says_1 n.0 in
      let e2 : text_faults (blocks_of bs) ≡ [] = empty stage2 (text_faults (blocks_of bs)) says_2 n.1.0 in
      let e3 : reference_faults (song_of bs) ≡ [] = empty stage3 (reference_faults (song_of bs)) (says_3 e1 e2) n.1.1.0 in
      let e4 : meter_faults (song_of bs) ≡ [] = empty stage4 (meter_faults (song_of bs)) (says_4 e1 e2 e3) n.1.1.1.0 in
      let e5 : length_faults (song_of bs) 0 (song_of bs).sections ≡ [] =
      empty stage5 (length_faults (song_of bs) 0 (song_of bs).sections) (says_5 e1 e2 e3 e4) n.1.1.1.1.0 in
      let e6 : count_faults (song_of bs) ≡ [] = empty stage6 (count_faults (song_of bs)) (says_6 e1 e2 e3 e4 e5) n.1.1.1.1.1.0 in
      says_7 e1 e2 e3 e4 e5 e6 c
  stage_as_stated stage8 n c =
      let e1 : input_faults bs ≡ [] = empty stage1 (input_faults bs) says_1 n.0 in
      let e2 : text_faults (blocks_of bs) ≡ [] = empty stage2 (text_faults (blocks_of bs)) says_2 n.1.0 in
      let e3 : reference_faults (song_of bs) ≡ [] = empty stage3 (reference_faults (song_of bs)) (says_3 e1 e2) n.1.1.0 in
      let e4 : meter_faults (song_of bs) ≡ [] = empty stage4 (meter_faults (song_of bs)) (says_4 e1 e2 e3) n.1.1.1.0 in
      let e5 : length_faults (song_of bs) 0 (song_of bs).sections ≡ [] =
      empty stage5 (length_faults (song_of bs) 0 (song_of bs).sections) (says_5 e1 e2 e3 e4) n.1.1.1.1.0 in
      let e6 : count_faults (song_of bs) ≡ [] = empty stage6 (count_faults (song_of bs)) (says_6 e1 e2 e3 e4 e5) n.1.1.1.1.1.0 in
      let e7 : sum_faults (song_of bs) ≡ [] = empty stage7 (sum_faults (song_of bs)) (says_7 e1 e2 e3 e4 e5 e6) n.1.1.1.1.1.1.0 in
      says_8 e1 e2 e3 e4 e5 e6 e7 c

pub refused_as_stated : (room : Room) (bs : List ℕ) (number line : ℕ) → (answer room bs ≡ refused number line) ↔ Refused room bs (complaint number line)
refused_as_stated room bs number line =
    let g = refused_exactly room bs number line in (
      (λ h. given_refused room bs (complaint number line) (g.0 h)),
      (λ r. g.1 (stated_given room bs (complaint number line) r.stage r.stated r.first r.none_earlier)),
    )
