-- A refusal's number is 1 to 18, as every row's is, and where no tables are lent 1 to 17.
use Prim.Native.Nat.{ℕ, ◌≤◌}
use mathlib.Core.Path.{◌≡◌, refl, ap, ◌∙◌}
use mathlib.Core.Logic.{◌⊎◌, inl, inr, ⊎_elim}
use mathlib.Core.List.Memᴰ
use mathlib.Core.List.{List, []}
use native.Mathlib.Omega.{arith}
use Rattle.songcode.specs.Answer.Lines.{Line, Block}
use Rattle.songcode.specs.Complaints.{Complaint, complaint}
use Rattle.songcode.specs.Song.{KeyName, Items, Song}
use Rattle.songcode.specs.Answer.Tables.{tables}
use Rattle.songcode.specs.Answer.Answer.{Room, song_of, refused, answer, song_answer}
use Rattle.songcode.specs.Description.Performance.{Parts}
use Rattle.songcode.specs.Description.StoppedText.{KeyStops, key_unknown, key_not_allowed, key_setting, KeyDoubled, key_twice, ModifierStops}
use Rattle.songcode.specs.Description.StoppedText.{modifier_unknown}
use Rattle.songcode.specs.Description.StoppedText.{repeat_setting, cut_start_setting, cut_end_setting, lead_in_text, tail_text, ModifierDoubled}
use Rattle.songcode.specs.Description.StoppedText.{modifier_twice}
use Rattle.songcode.specs.Description.StoppedText.{PlaceStops, key_after, modifier_before, pattern_past, SectionStops, name_wrong, out_of_place}
use Rattle.songcode.specs.Description.StoppedText.{key_doubled}
use Rattle.songcode.specs.Description.StoppedText.{modifier_doubled, key_stops, modifier_stops, pattern_text_lem, no_pattern, no_lyrics, MetadataStops}
use Rattle.songcode.specs.Description.StoppedText.{of_key, of_keys_lem}
use Rattle.songcode.specs.Description.StoppedText.{no_key, DefinitionStops, head_malformed, head_twice, head_27th, definition_text_lem, TextStops, kind_late}
use Rattle.songcode.specs.Description.StoppedText.{in_metadata_lem, in_definition_lem, in_section, Stops2, stated, no_section_lem}
use Rattle.songcode.specs.Description.StoppedSong.{Stops1, over_long, bad_bytes, Stops3, undefined, undefined_named, too_deep_lem, loop_in_loop, to_empty}
use Rattle.songcode.specs.Description.StoppedSong.{RowStops}
use Rattle.songcode.specs.Description.StoppedSong.{undivided, again_first, Stops4, of_pattern_lem, of_lead_in, of_tail, Stops5, too_long, no_beat}
use Rattle.songcode.specs.Description.StoppedSong.{empty_modified}
use Rattle.songcode.specs.Description.StoppedSong.{Stops6, uncounted, Stops7, sums_not, Stops8, keys_short, sections_short, measures_short, beats_short}
use Rattle.songcode.specs.Description.StoppedSong.{items_short}
use Rattle.songcode.specs.Description.Refusals.{Stage, stage1, stage2, stage3, stage4, stage5, stage6, stage7, stage8, Stated}
use Rattle.songcode.specs.StageLists.{complaints_in}
use Rattle.songcode.proofs.AnswerAgree.{room_exact}
use Rattle.songcode.proofs.RefusalsAgree.{stage_as_stated, refused_as_stated}
use Rattle.songcode.proofs.SongAlone.{own_room, own_room_lem, refused_with_tables}

abbrev Within : ℕ → Complaint → Type 0
Within most c = (1 ≤ c.number) × (c.number ≤ most)

-- What stages 1 to 7 state.
abbrev Numbered : Complaint → Type 0
Numbered c = Within 17 c

of_key_stops : {allowed : KeyName → Type 0} {l : Line} {c : Complaint} → KeyStops allowed l c → Numbered c
of_key_stops (key_unknown s h) = (omega arith, omega arith)
of_key_stops (key_not_allowed k t w h) = (omega arith, omega arith)
of_key_stops (key_setting k t w h) = (omega arith, omega arith)

of_key_doubled : {before : List Line} {l : Line} {c : Complaint} → KeyDoubled before l c → Numbered c
of_key_doubled (key_twice k o t e m w v) = (omega arith, omega arith)

of_modifier_stops : {l : Line} {c : Complaint} → ModifierStops l c → Numbered c
of_modifier_stops (modifier_unknown s h) = (omega arith, omega arith)
of_modifier_stops (repeat_setting t w h) = (omega arith, omega arith)
of_modifier_stops (cut_start_setting t w h) = (omega arith, omega arith)
of_modifier_stops (cut_end_setting t w h) = (omega arith, omega arith)
of_modifier_stops (lead_in_text t w h) = (omega arith, omega arith)
of_modifier_stops (tail_text t w h) = (omega arith, omega arith)

of_modifier_doubled : {before : List Line} {l : Line} {c : Complaint} → ModifierDoubled before l c → Numbered c
of_modifier_doubled (modifier_twice k o t e m w v) = (omega arith, omega arith)

of_place : {before : List Line} {l : Line} {c : Complaint} → PlaceStops before l c → Numbered c
of_place (key_after e s m n) = (omega arith, omega arith)
of_place (modifier_before s h) = (omega arith, omega arith)
of_place (pattern_past s h) = (omega arith, omega arith)

of_section_lem : {b : Block} {c : Complaint} → SectionStops b c → Numbered c
of_section_lem (name_wrong n) = (omega arith, omega arith)
of_section_lem (out_of_place x y before rest l w e h) = of_place h
of_section_lem (key_doubled x y before rest l w e h) = of_key_doubled h
of_section_lem (modifier_doubled x y before rest l w e h) = of_modifier_doubled h
of_section_lem (key_stops x y l w m h) = of_key_stops h
of_section_lem (modifier_stops x y l w m h) = of_modifier_stops h
of_section_lem (pattern_text_lem x y run l w r n) = (omega arith, omega arith)
of_section_lem (no_pattern x y w n) = (omega arith, omega arith)
of_section_lem (no_lyrics x d w) = (omega arith, omega arith)

of_metadata_lem : {before : List Line} {l : Line} {c : Complaint} → MetadataStops before l c → Numbered c
of_metadata_lem (of_key h) = of_key_stops h
of_metadata_lem (of_keys_lem h) = of_key_doubled h
of_metadata_lem (no_key n) = (omega arith, omega arith)

of_definition : {before : List Block} {b : Block} {c : Complaint} → DefinitionStops before b c → Numbered c
of_definition (head_malformed n) = (omega arith, omega arith)
of_definition (head_twice n e m w v) = (omega arith, omega arith)
of_definition (head_27th n) = (omega arith, omega arith)
of_definition (definition_text_lem l ls e n) = (omega arith, omega arith)

of_text : {bs : List Block} {c : Complaint} → TextStops bs c → Numbered c
of_text (kind_late before behind a b e m h) = (omega arith, omega arith)
of_text (in_metadata_lem ms before behind l k e h) = of_metadata_lem h
of_text (in_definition_lem ds before behind b k e h) = of_definition h
of_text (in_section ss b k m h) = of_section_lem h

of_1 : {bs : List ℕ} {c : Complaint} → Stops1 bs c → Numbered c
of_1 (over_long h) = (omega arith, omega arith)
of_1 (bad_bytes place w lines h k cuts) = (omega arith, omega arith)

of_2 : {bs : List Block} {c : Complaint} → Stops2 bs c → Numbered c
of_2 (stated h) = of_text h
of_2 (no_section_lem k n) = (omega arith, omega arith)

of_3 : {s : Song} {c : Complaint} → Stops3 s c → Numbered c
of_3 (undefined d r xs n v i h) = (omega arith, omega arith)
of_3 (undefined_named x n i t h) = (omega arith, omega arith)
of_3 (too_deep_lem d e r q xs n v i m h j) = (omega arith, omega arith)
of_3 (loop_in_loop d e r q xs v i m h l) = (omega arith, omega arith)
of_3 (to_empty d e r xs v i m h) = (omega arith, omega arith)

of_row : {n line : ℕ} {r : Items} {c : Complaint} → RowStops n line r c → Numbered c
of_row (undivided m h u) = (omega arith, omega arith)
of_row (again_first a) = (omega arith, omega arith)

of_4 : {s : Song} {c : Complaint} → Stops4 s c → Numbered c
of_4 (of_pattern_lem x n r i h e t) = of_row t
of_4 (of_lead_in x n l r i h m t) = of_row t
of_4 (of_tail x n l r i h m t) = of_row t

of_5 : {s : Song} {c : Complaint} → Stops5 s c → Numbered c
of_5 (too_long front behind x counts k w us u h j) = (omega arith, omega arith)
of_5 (no_beat x n r pass i h e w g) = (omega arith, omega arith)
of_5 (empty_modified x i e h) = (omega arith, omega arith)

of_6 : {s : Song} {c : Complaint} → Stops6 s c → Numbered c
of_6 (uncounted l o w n v k) = (omega arith, omega arith)

of_7 : {s : Song} {c : Complaint} → Stops7 s c → Numbered c
of_7 (sums_not l w total p has sums pl differ) = (omega arith, omega arith)

of_8 : {room : Room} {s : Song} {ps : List Parts} {c : Complaint} → Stops8 room s ps c → Within 18 c
of_8 (keys_short h) = (omega arith, omega arith)
of_8 (sections_short t w h) = (omega arith, omega arith)
of_8 (measures_short t w h) = (omega arith, omega arith)
of_8 (beats_short t w h) = (omega arith, omega arith)
of_8 (items_short t w h) = (omega arith, omega arith)

of_stage : (room : Room) (bs : List ℕ) (k : Stage) (c : Complaint) → Stated room bs k c → Numbered c ⊎ ((k ≡ stage8) × Within 18 c)
unfolding Stated
of_stage room bs stage1 c h = inl (of_1 h)
of_stage room bs stage2 c h = inl (of_2 h.4)
of_stage room bs stage3 c h = inl (of_3 h.2)
of_stage room bs stage4 c h = inl (of_4 h.2)
of_stage room bs stage5 c h = inl (of_5 h.2)
of_stage room bs stage6 c h = inl (of_6 h.2)
of_stage room bs stage7 c h = inl (of_7 h.2)
of_stage room bs stage8 c h = inr (refl, of_8 h.4)

pub refusal_numbers : (room : Room) (bs : List ℕ) (number line : ℕ) → answer room bs ≡ refused number line → (1 ≤ number) × (number ≤ 18)
refusal_numbers room bs number line e =
    let r = (refused_as_stated room bs number line).0 e in
    ⊎_elim (λ n. let most = n.1 in (n.0, omega arith)) (λ h. h.1)
    (of_stage room bs r.stage (complaint number line) r.stated)

-- In the room of its own tables stage 8 states nothing of a song.
pub song_numbers : (bs : List ℕ) (number line : ℕ) → song_answer bs ≡ refused number line → (1 ≤ number) × (number ≤ 17)
unfolding complaints_in
song_numbers bs number line e =
    let t = tables (song_of bs) in
    let room = own_room t in
    let c = complaint number line in
    let r = (refused_as_stated room bs number line).0 (refused_with_tables room bs number line e) in
    let given = (stage_as_stated room bs r.stage r.none_earlier c).1 r.stated in
    ⊎_elim (λ n. n)
    (λ h. let empty : complaints_in room bs r.stage ≡ [] = ap (complaints_in room bs) h.0 ∙ (room_exact room t).1 (own_room_lem t) in
    absurd (Memᴰ.not-nil {a = c} (rw empty at given)))
    (of_stage room bs r.stage c r.stated)
