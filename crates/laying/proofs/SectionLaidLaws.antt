-- A section laid into the row: it has room, its words are those of the definitions, and its texts are carried.
use Prim.Native.Nat.{ℕ, ◌+◌, ◌-◌, ◌*◌, ◌/◌, ◌^◌, ◌<◌, ◌≤◌}
use mathlib.Core.Path.{◌≡◌, refl, sym, ap, ◌∙◌, subst}
use mathlib.Core.List.{List, [], ◌∷◌, ◌++◌, append_assoc, append-nil, flat_map, map}
use mathlib.Core.Bool.{Bool, true, false, ◌||◌}
use mathlib.Core.Option.{Option, none, some, bind}
use native.Mathlib.Omega.{arith}
use borrow.Author.Tests.{eqb-true, eqb-false, ltb-true, ltb-false}
use lib.Dec.{eqb, ltb}
use lib.ListN.{length, take, drop, set, length-append, length-map}
use lib.Seq.{sets, length-sets, take-set-le, take-set-lt, drop-set-lt}
use Rattle.songcode.specs.Lists.{provided◌then◌else◌, is_some}
use Rattle.songcode.specs.Answer.Lines.{Line, Block, blocks}
use Rattle.songcode.specs.Song.{LyricLine, named, Section}
use Rattle.songcode.specs.Answer.Modifiers.{of_before, of_after, modifier_place, before_said, after_said}
use Rattle.songcode.specs.Answer.Sections.{pattern_in, pattern_run, body, from_dashes, section_faults, lyric_line}
use Rattle.songcode.specs.Answer.References.{pattern_items}
use Rattle.songcode.specs.Answer.Playing.{time_of, bpm_of, repeats}
use Rattle.songcode.specs.Answer.Answer.{song_of}
use Rattle.songcode.proofs.ListLaws.{append_is_nil, by_cases, Each}
use Rattle.songcode.proofs.MemoryLaws.{sets_front, sets_before, sets_part}
use Rattle.songcode.proofs.PatternLaws.{none_some}
use Rattle.tokens.specs.TokenWords.{token_words}
use Rattle.settings.specs.Cuts.{cut_is, CutFits}
use Rattle.outlines.specs.declared.readings.Outline.{Outline}
use Rattle.outlines.specs.Words.{look_up}
use Rattle.outlines.specs.Even.{even_in}
use Rattle.sections.specs.declared.blocks.Place.{Place}
use Rattle.sections.specs.declared.blocks.SectionRead.{SectionRead}
use Rattle.sections.specs.declared.values.Keys.{Keys}
use Rattle.sections.specs.declared.walking.Met.{Met}
use Rattle.sections.specs.Runs.{text_lines, lines_of}
use Rattle.sections.specs.Values.{cut_said}
use Rattle.sections.specs.Slots.{Setting, setting_among, setting_at}
use Rattle.sections.specs.BlockParts.{block_at, lines_past, late_lines, behind_dashes}
use Rattle.sections.specs.SectionSays.{side_said}
use Rattle.sections.specs.Onward.{Onward, section_at, Meets}
use Rattle.sections.proofs.SectionLaws.{clean_order}
use Rattle.sections.proofs.TellLaws.{before_tells, after_tells}
use Rattle.score.specs.declared.stretches.Stretch.{Stretch}
use Rattle.score.specs.Places.{played_text}
use Rattle.score.specs.Even.{even_pattern}
use Rattle.score.specs.Sections.{side_row, pattern_row, is_cut, cuts_by, cuts_row, lyric_row, parts_row, bit, section_row}
use Rattle.score.specs.Fitting.{SideFits, PatternFits, LyricsFit, SectionFits}
use Rattle.score.specs.Seen.{Holds}
use Rattle.laying.specs.declared.rows.Heads.{Heads}
use Rattle.laying.specs.declared.rows.Places.{Places}
use Rattle.laying.specs.declared.texts.Text.{Text}
use Rattle.laying.specs.declared.texts.Texts.{Texts}
use Rattle.laying.specs.Laying.{run_tokens, said_tokens, weight, said_weight, Names, named_at}
use Rattle.laying.specs.Scores.{named_text, Carries, Ready, side_items}
use Rattle.std.specs.Prelude as std
use Rattle.laying.specs.Rows.{meter_of, tempo_of, has_cut, cuts_said, lead_said, pattern_said, tail_said, lyrics_said, parts_said, PlacesAre}
use Rattle.laying.specs.Rows.{about_section, outline_by, text_at, told_texts, bulk, RoomFor, Before, SongKeys, Lays}
use Rattle.laying.proofs.FrontLaws.{front_kept}
use Rattle.laying.proofs.ReadyLaws.{ready_carries}
use Rattle.laying.proofs.WeightLaws.{run_few, said_words}
use Rattle.laying.proofs.BulkLaws.{SolidBlock, blocks_solid, cuts_there, section_weight}
use Rattle.score.proofs.ViewLaws.{lyrics_size}
use Rattle.laying.proofs.LyricRowLaws.{lyrics_behind}
use Rattle.laying.proofs.MeterLaws.{meter_is, meter_range, tempo_is, tempo_few}
use Rattle.laying.proofs.FitLaws.{said_good, run_good}
use Rattle.laying.proofs.NamedLaws.{pattern_shape, name_there, named_some, plays_itself, plays_named}
use Rattle.laying.proofs.SideLaws.{nothing_there}
use Rattle.settings.proofs.ReadLaws.{cut_there}
use Rattle.laying.proofs.SideRowLaws.{side_row_lem, pattern_row_lem, cut_words, cut_small}
use Rattle.laying.proofs.TextLaws.{side_carries, items_carries, carries_either, carries_even}

-- A cut that is read is said on a line.
cuts_said_lem : (a b : Option Setting) (v w : ℕ) → length (cuts_by (std.is_some (cut_said a) || std.is_some (cut_said b)) v w) ≤ cuts_there a b
unfolding cut_said cut_is bind cuts_there is_some provided◌then◌else◌ cuts_by
cuts_said_lem none none v w = omega arith
cuts_said_lem none (some x) v w = most (std.is_some (cut_said (some x)))
  where
    most : (t : Bool) → length (cuts_by t v w) ≤ 2
    most true = omega arith
    most false = omega arith
cuts_said_lem (some x) b v w = most (std.is_some (cut_said (some x)) || std.is_some (cut_said b))
  where
    most : (t : Bool) → length (cuts_by t v w) ≤ 2
    most true = omega arith
    most false = omega arith

-- The four words in front of parts that are laid.
heads_laid : (at d c b a : ℕ) (parts held : List ℕ)
    → set (set (set (set (sets held (at + 4) parts) (at + 3) d) (at + 2) c) (at + 1) b) at a ≡ sets held at (a ∷ b ∷ c ∷ d ∷ parts)
heads_laid at d c b a parts held =
    let e : at + 4 ≡ at + 3 + 1 = omega arith in
    let f : at + 3 ≡ at + 2 + 1 = omega arith in
    let g : at + 2 ≡ at + 1 + 1 = omega arith in
    let x : set (sets held (at + 4) parts) (at + 3) d ≡ sets held (at + 3) (d ∷ parts) =
    ap (λ (n : ℕ). set (sets held n parts) (at + 3) d) e ∙ sets_front (at + 3) d parts held in
    let y : set (sets held (at + 3) (d ∷ parts)) (at + 2) c ≡ sets held (at + 2) (c ∷ d ∷ parts) =
    ap (λ (n : ℕ). set (sets held n (d ∷ parts)) (at + 2) c) f ∙ sets_front (at + 2) c (d ∷ parts) held in
    let z : set (sets held (at + 2) (c ∷ d ∷ parts)) (at + 1) b ≡ sets held (at + 1) (b ∷ c ∷ d ∷ parts) =
    ap (λ (n : ℕ). set (sets held n (c ∷ d ∷ parts)) (at + 1) b) g ∙ sets_front (at + 1) b (c ∷ d ∷ parts) held in
    ap (λ (ws : List ℕ). set (set (set ws (at + 2) c) (at + 1) b) at a) x
    ∙ ap (λ (ws : List ℕ). set (set ws (at + 1) b) at a) y
    ∙ ap (λ (ws : List ℕ). set ws at a) z
    ∙ sets_front at a (b ∷ c ∷ d ∷ parts) held

-- What stands behind a word that is stored.
set_behind : (l : List ℕ) (i v from to : ℕ) → i < from → drop from (take to (set l i v)) ≡ drop from (take to l)
set_behind l i v from to h =
    by_cases (ltb i to)
    (λ e. ap (drop from) (take-set-lt to l i v (ltb-true i to e)) ∙ drop-set-lt from (take to l) i v h)
    (λ e. ap (drop from) (take-set-le to l i v (ltb-false i to e)))

-- The definitions stand as before where all words behind them are new.
pub ready_kept : {s held words : List ℕ} {mark at : ℕ} → Ready s held mark → mark < at → take at words ≡ take at held → length words ≡ length held
    → Ready s words mark
ready_kept {s} {held} {words} {mark} {at} b c kept n =
    let h = b.room in
    record { small = b.small; room = omega arith; front = front_kept b.front c kept }

-- The same words, one by one.
five_same : (at : ℕ) (held : List ℕ) {a a' b b' c c' d d' : ℕ} {ps ps' : List ℕ} → a ≡ a' → b ≡ b' → c ≡ c' → d ≡ d' → ps ≡ ps'
    → sets held at (a ∷ b ∷ c ∷ d ∷ ps) ≡ sets held at (a' ∷ b' ∷ c' ∷ d' ∷ ps')
five_same at held e f g h i = rw (e, f, g, h, i) refl

sized : {n n' m m' t t' : ℕ} → n ≡ n' → m ≡ m' → t ≡ t' → n * 32768 + m * 512 + t ≡ n' * 32768 + m' * 512 + t'
sized e f g = rw (e, f, g) refl

headed : {h h' n n' : ℕ} {b b' : Bool} → h ≡ h' → n ≡ n' → b ≡ b' → (h - 1) * 65536 + n * 4 + bit b * 2 ≡ (h' - 1) * 65536 + n' * 4 + bit b' * 2
headed e f g = rw (e, f, g) refl

module _ {s : List ℕ} {p : Place} {at : ℕ} {held : List ℕ} {met : Met} {song : Keys} (o : Onward s p) (within : p.at < length s)
    (roomy : RoomFor s p at) (big : length s + 16 ≤ length held) (before : Before s held at) (keys : SongKeys (song_of s) song) (m : Meets s p met) where
  abbrev r : SectionRead
  r = met.section

  abbrev x : Section
  x = section_at s p

  abbrev block : Block
  block = block_at s p.number p.at

  abbrev lead : Option Setting
  lead = setting_at s r.modifiers.before

  abbrev tail : Option Setting
  tail = setting_at s r.modifiers.after

  abbrev lines : List Line
  lines = lines_of s r.pattern

  abbrev lyrics : List Line
  lyrics = lines_of s r.lyrics

  small : length s ≤ 65536
  small = before.ready.small

  below : 1 ≤ at
  below = let b = before.below in omega arith

  solid : SolidBlock block
  unfolding Each
  solid = (subst (Each SolidBlock) (o.opens within) (blocks_solid (text_lines s p.number p.at))).0

  cuts_few : length (cuts_said r.modifiers) ≤ cuts_there (setting_among 9 (late_lines (body block))) (setting_among 10 (late_lines (body block)))
  unfolding cuts_said
  cuts_few = rw (m.read.modifiers.front, m.read.modifiers.back) (cuts_said_lem _ _ _ _)

  -- The block's lines have more bytes than its parts have words.
  pub weighed : length (cuts_said r.modifiers) + said_weight lead + weight lines + said_weight tail + 2 * length lyrics + 2
      ≤ weight (block.first ∷ block.others)
  weighed =
      let w = section_weight block solid in
      let c = cuts_few in
      let a : said_weight lead ≡ said_weight (setting_among 11 (late_lines (body block))) = ap said_weight m.read.modifiers.before in
      let b : weight lines ≡ weight (pattern_run (body block)) = ap weight m.read.pattern in
      let d : said_weight tail ≡ said_weight (setting_among 12 (late_lines (body block))) = ap said_weight m.read.modifiers.after in
      let e : length lyrics ≡ length (behind_dashes (from_dashes block)) = ap (λ (ls : List Line). length ls) m.read.lyrics in
      omega arith

  bulk_here : bulk (blocks (text_lines s p.number p.at))
      ≡ weight (block.first ∷ block.others) + 1 + bulk (blocks (text_lines s met.next.number met.next.at))
  unfolding bulk
  bulk_here = ap bulk m.opened

  pub block_fits : at + weight (block.first ∷ block.others) + 1 ≤ length s + 3
  unfolding RoomFor
  block_fits = let b = bulk_here in omega arith

  pub parts_room : at + 4 + (2 + (said_weight lead + weight lines + said_weight tail + 2 * length lyrics)) ≤ length held
  parts_room =
      let w = weighed in
      let b = block_fits in
      omega arith

  pub lyrics_second : 0 < length lyrics → 2 ≤ r.lyrics.number
  lyrics_second h =
      let a = lyrics_behind s p.number p.at r.lyrics m.read.lyrics h in
      let b = o.number in
      omega arith

  -- Its lead-in and its tail have items, since the section has no fault.
  clean : section_faults block ≡ []
  unfolding flat_map
  clean =
      (append_is_nil (section_faults block) (flat_map section_faults (blocks (lines_past s p.number p.at)))
      (ap (flat_map section_faults) (sym (o.opens within)) ∙ o.fair)).0

  lead_clean : bind lead side_said ≡ none → lead ≡ none
  unfolding modifier_place
  lead_clean e =
      let k = clean_order block clean in
      let b = m.read.modifiers.before in
      b ∙ nothing_there of_before before_said side_said before_tells (body block) k.0 k.1 (ap (λ (y : Option Setting). bind y side_said) (sym b) ∙ e)

  tail_clean : bind tail side_said ≡ none → tail ≡ none
  unfolding modifier_place
  tail_clean e =
      let k = clean_order block clean in
      let b = m.read.modifiers.after in
      b ∙ nothing_there of_after after_said side_said after_tells (body block) k.0 k.1 (ap (λ (y : Option Setting). bind y side_said) (sym b) ∙ e)

  -- The words of the parts are those of the definitions.
  lead_said_lem : (token_words (said_tokens lead) ≡ side_row x.modifiers.before) × SideFits x.modifiers.before
  lead_said_lem = side_row_lem lead x.modifiers.before m.says.before lead_clean (said_good s small r.modifiers.before)

  tail_said_lem : (token_words (said_tokens tail) ≡ side_row x.modifiers.after) × SideFits x.modifiers.after
  tail_said_lem = side_row_lem tail x.modifiers.after m.says.after tail_clean (said_good s small r.modifiers.after)

  pattern_said_lem : (token_words (run_tokens lines) ≡ pattern_row x.pattern) × PatternFits x.pattern
  pattern_said_lem = pattern_row_lem x.pattern (run_tokens lines) (pattern_shape lines x.pattern m.written) (run_good s small r.pattern)

  cut_same : has_cut r.modifiers ≡ is_cut x.modifiers
  unfolding is_cut
  cut_same = rw (m.says.front, m.says.back, cut_there x.modifiers.cut_start, cut_there x.modifiers.cut_end)

  cuts_same : cuts_said r.modifiers ≡ cuts_row x.modifiers
  unfolding cuts_said cuts_row
  cuts_same = rw (cut_same, m.says.front, m.says.back, cut_words x.modifiers.cut_start, cut_words x.modifiers.cut_end)

  lead_same : lead_said s r ≡ side_row x.modifiers.before
  unfolding lead_said
  lead_same = lead_said_lem.0

  tail_same : tail_said s r ≡ side_row x.modifiers.after
  unfolding tail_said
  tail_same = tail_said_lem.0

  pattern_same : pattern_said s r ≡ pattern_row x.pattern
  unfolding pattern_said
  pattern_same = pattern_said_lem.0

  lyrics_same : lyrics_said s r ≡ flat_map lyric_row x.lyrics
  unfolding lyrics_said
  lyrics_same = ap (flat_map lyric_row) m.says.lyrics

  parts_same : parts_said s r ≡ parts_row x
  unfolding parts_said parts_row
  parts_same = rw (cuts_same, lead_same, pattern_same, tail_same, lyrics_same)

  lines_same : length lyrics ≡ length x.lyrics
  lines_same = sym (length-map lyrics lyric_line) ∙ ap (λ (ls : List LyricLine). length ls) m.says.lyrics

  -- How long the parts are.
  lead_size : length (lead_said s r) ≤ said_weight lead
  unfolding lead_said
  lead_size = said_words lead

  tail_size : length (tail_said s r) ≤ said_weight tail
  unfolding tail_said
  tail_size = said_words tail

  some_line : (ls : List Line) → pattern_in ls ≡ some x.pattern → length (token_words (run_tokens ls)) < weight ls
  unfolding pattern_in
  some_line [] e = none_some refl e
  some_line (l ∷ ls) e = run_few l ls

  pattern_size : length (pattern_said s r) < weight lines
  unfolding pattern_said
  pattern_size = some_line lines m.written

  lyrics_length : length (lyrics_said s r) ≡ 2 * length lyrics
  unfolding lyrics_said
  lyrics_length =
      let a = lyrics_size (map lyric_line lyrics) in
      let b = length-map lyrics lyric_line in
      omega arith

  parts_length : length (parts_said s r)
      ≡ length (cuts_said r.modifiers) + (length (lead_said s r) + (length (pattern_said s r) + (length (tail_said s r) + 2 * length lyrics)))
  unfolding parts_said
  parts_length =
      let c = cuts_said r.modifiers in
      let a = lead_said s r in
      let b = pattern_said s r in
      let d = tail_said s r in
      let e = lyrics_said s r in
      let f = length-append c (a ++ (b ++ (d ++ e))) in
      let g = length-append a (b ++ (d ++ e)) in
      let h = length-append b (d ++ e) in
      let i = length-append d e in
      let j = lyrics_length in
      omega arith

  pub section_size : 4 + length (parts_said s r) ≤ weight (block.first ∷ block.others) + 1
  section_size =
      let w = weighed in
      let l = parts_length in
      let a = lead_size in
      let b = pattern_size in
      let c = tail_size in
      omega arith

  -- Every field fits.
  pub fits : LyricsFit (map lyric_line lyrics) → SectionFits (song_of s) x
  fits h =
      let w = weighed in
      let b = block_fits in
      let a = lead_size in
      let c = tail_size in
      let d = pattern_size in
      let e : length (side_row x.modifiers.before) ≡ length (lead_said s r) = ap length (sym lead_same) in
      let f : length (side_row x.modifiers.after) ≡ length (tail_said s r) = ap length (sym tail_same) in
      let g = lines_same in
      let z = small in
      let y = below in
      let n : x.header ≡ p.number = sym m.says.header ∙ m.read.header in
      let i = o.number in
      let j = o.counted in
      let k = m.read.modifiers.repeat_fits.1 in
      record {
        meter = (meter_range (song_of s) x).1;
        tempo = rw (sym (tempo_is (song_of s) x m.says.bpm keys.bpm)) (tempo_few r.keys.bpm song.bpm m.read.keys.bpm_fits keys.bpm_fits);
        first = omega arith;
        last = omega arith;
        repeat = rw (sym m.says.repeat) k;
        front = cut_small x.modifiers.cut_start (subst CutFits m.says.front m.read.modifiers.front_fits);
        back = cut_small x.modifiers.cut_end (subst CutFits m.says.back m.read.modifiers.back_fits);
        lead_few = omega arith;
        tail_few = omega arith;
        lyrics_few = omega arith;
        lead = lead_said_lem.1;
        pattern = pattern_said_lem.1;
        tail = tail_said_lem.1;
        lyrics = subst LyricsFit m.says.lyrics h;
      }

  pub meter_few : {meter : ℕ} → meter ≡ meter_of r.keys.time song.time → meter ≤ 32
  meter_few e = rw (e, meter_is (song_of s) x m.says.time keys.time) (meter_range (song_of s) x).1

  pub tempo_small : {tempo : ℕ} → tempo ≡ tempo_of r.keys.bpm song.bpm → tempo ≤ 511
  tempo_small e = rw e (tempo_few r.keys.bpm song.bpm m.read.keys.bpm_fits keys.bpm_fits)

  module _ {q : Places} (places : PlacesAre s r (at + 4) q) where
    end_is : q.end ≡ at + (4 + length (parts_said s r))
    end_is =
        let a = places.from in
        let b = places.begun in
        let c = places.ended in
        let d = places.last in
        let e = places.end in
        let l = parts_length in
        omega arith

    -- What the four words ask.
    pub asked : (q.from ≤ q.begun) × (q.begun - q.from < 65536) × (q.ended ≤ q.last) × (q.last - q.ended < 65536) × (at + 3 < q.end)
        × (q.last ≤ q.end) × (q.end - q.last < 131072) × (q.end ≤ 131071) × (q.end ≤ length held)
    asked =
        let a = places.from in
        let b = places.begun in
        let c = places.ended in
        let d = places.last in
        let e = places.end in
        let l = end_is in
        let n = section_size in
        let f = block_fits in
        let w = weighed in
        let g = lead_size in
        let h = tail_size in
        let i = pattern_size in
        let z = small in
        let y = below in
        (omega arith, omega arith, omega arith, omega arith, omega arith, omega arith, omega arith, omega arith, omega arith)

    pub header_asked : (1 ≤ r.header) × (r.header ≤ 65536) × (r.modifiers.repeat ≤ 9999)
    header_asked =
        let n = m.read.header in
        let i = o.number in
        let j = o.counted in
        let z = small in
        (omega arith, omega arith, m.read.modifiers.repeat_fits.1)

    abbrev text : Stretch
    text = record { from = q.begun; to = q.ended }

    -- The parts are laid.
    module _ {mid : List ℕ} (there : mid ≡ sets held (at + 4) (parts_said s r)) where
      pub end_inside : q.end ≤ length mid
      end_inside =
          let l = end_is in
          let k = asked.8 in
          let n = ap length there ∙ length-sets held (at + 4) (parts_said s r) in
          omega arith

      -- They stand in their stretches.
      part_there : (a y z : List ℕ) (from to : ℕ) → parts_said s r ≡ a ++ (y ++ z) → from ≡ at + 4 + length a → to ≡ from + length y
          → drop from (take to mid) ≡ y
      part_there a y z from to e f t =
          let l = end_is in
          let k = asked.8 in
          let n = ap length e in
          let i = length-append a (y ++ z) in
          let j = length-append y z in
          ap (λ (ws : List ℕ). drop from (take to ws)) there ∙ sets_part (at + 4) (parts_said s r) held a y z from to e f t (omega arith)

      abbrev cuts : List ℕ
      cuts = cuts_said r.modifiers

      abbrev behind_lead : List ℕ
      behind_lead = pattern_said s r ++ (tail_said s r ++ lyrics_said s r)

      lead_there : drop q.from (take q.begun mid) ≡ lead_said s r
      unfolding parts_said
      lead_there = part_there cuts (lead_said s r) behind_lead q.from q.begun refl places.from places.begun

      pattern_there : drop q.begun (take q.ended mid) ≡ pattern_said s r
      unfolding parts_said
      pattern_there =
          let a = places.from in
          let b = places.begun in
          let k = length-append cuts (lead_said s r) in
          part_there (cuts ++ lead_said s r) (pattern_said s r) (tail_said s r ++ lyrics_said s r) q.begun q.ended
          (sym (append_assoc cuts (lead_said s r) behind_lead)) (omega arith) places.ended

      tail_there : drop q.ended (take q.last mid) ≡ tail_said s r
      unfolding parts_said
      tail_there =
          let a = places.from in
          let b = places.begun in
          let c = places.ended in
          let k = length-append cuts (lead_said s r) in
          let l = length-append (cuts ++ lead_said s r) (pattern_said s r) in
          part_there ((cuts ++ lead_said s r) ++ pattern_said s r) (tail_said s r) (lyrics_said s r) q.ended q.last
          (sym (append_assoc (cuts ++ lead_said s r) (pattern_said s r) (tail_said s r ++ lyrics_said s r)
          ∙ append_assoc cuts (lead_said s r) behind_lead))
          (omega arith) places.last

      lyrics_there : drop q.last (take q.end mid) ≡ lyrics_said s r
      unfolding parts_said
      lyrics_there =
          let a = places.from in
          let b = places.begun in
          let c = places.ended in
          let d = places.last in
          let e = places.end in
          let f = lyrics_length in
          let k = length-append cuts (lead_said s r) in
          let l = length-append (cuts ++ lead_said s r) (pattern_said s r) in
          let n = length-append ((cuts ++ lead_said s r) ++ pattern_said s r) (tail_said s r) in
          part_there (((cuts ++ lead_said s r) ++ pattern_said s r) ++ tail_said s r) (lyrics_said s r) [] q.last q.end
          (sym (ap (λ (ys : List ℕ). (((cuts ++ lead_said s r) ++ pattern_said s r) ++ tail_said s r) ++ ys) (append-nil (lyrics_said s r))
          ∙ append_assoc ((cuts ++ lead_said s r) ++ pattern_said s r) (tail_said s r) (lyrics_said s r)
          ∙ append_assoc (cuts ++ lead_said s r) (pattern_said s r) (tail_said s r ++ lyrics_said s r)
          ∙ append_assoc cuts (lead_said s r) behind_lead))
          (omega arith) (omega arith)

      pub names : Names x.pattern (named_at mid text)
      names = name_there mid text x.pattern pattern_said_lem.1 (pattern_there ∙ pattern_same)

      -- The four words in front of them, of which the last says any number.
      module _ (h : Heads) (meter-said : h.meter ≡ meter_of r.keys.time song.time) (tempo-said : h.tempo ≡ tempo_of r.keys.bpm song.bpm)
          {words : List ℕ} (entered : words ≡ about_section r h at q mid) where
        pub meter_here : h.meter ≡ time_of (song_of s) x
        meter_here = meter-said ∙ meter_is (song_of s) x m.says.time keys.time

        tempo_here : h.tempo ≡ bpm_of (song_of s) x
        tempo_here = tempo-said ∙ tempo_is (song_of s) x m.says.bpm keys.bpm

        abbrev row_with : ℕ → List ℕ
        row_with even =
            ((4 + length (parts_row x)) * 2 ^ 15 + time_of (song_of s) x * 2 ^ 9 + bpm_of (song_of s) x)
            ∷ ((x.header - 1) * 2 ^ 16 + repeats x.modifiers * 2 ^ 2 + bit (is_cut x.modifiers) * 2)
            ∷ (length (side_row x.modifiers.before) * 2 ^ 16 + length (side_row x.modifiers.after))
            ∷ (length x.lyrics * 2 ^ 16 + even)
            ∷ parts_row x

        row_with_lem : words ≡ sets held at (row_with h.even)
        row_with_lem =
            let a = places.from in
            let b = places.begun in
            let c = places.ended in
            let d = places.last in
            let e = places.end in
            let l = end_is in
            let k = asked in
            let k4 = k.4 in
            let k8 = k.8 in
            let f : q.end - at ≡ 4 + length (parts_row x) = let z = ap length parts_same in omega arith in
            let g : q.begun - q.from ≡ length (side_row x.modifiers.before) = let z = ap length lead_same in omega arith in
            let n : q.last - q.ended ≡ length (side_row x.modifiers.after) = let z = ap length tail_same in omega arith in
            let i : (q.end - q.last) / 2 * 65536 + h.even ≡ length x.lyrics * 65536 + h.even = let z = lines_same in omega arith in
            let wa : (q.end - at) * 32768 + h.meter * 512 + h.tempo ≡ (4 + length (parts_row x)) * 32768 + time_of (song_of s) x * 512 + bpm_of (song_of s) x =
            sized f meter_here tempo_here in
            let wb : (r.header - 1) * 65536 + r.modifiers.repeat * 4 + bit (has_cut r.modifiers) * 2
            ≡ (x.header - 1) * 65536 + repeats x.modifiers * 4 + bit (is_cut x.modifiers) * 2 =
            headed m.says.header m.says.repeat cut_same in
            let wc : (q.begun - q.from) * 65536 + (q.last - q.ended)
            ≡ length (side_row x.modifiers.before) * 65536 + length (side_row x.modifiers.after) = omega arith in
            entered ∙ ap (λ (ws : List ℕ). about_section r h at q ws) there
            ∙ heads_laid at _ _ _ _ (parts_said s r) held ∙ five_same at held wa wb wc i parts_same

        pub row_end : q.end ≡ at + length (section_row (song_of s) x)
        unfolding section_row
        row_end =
            let l = end_is in
            let z = ap length parts_same in
            omega arith

        pub room_next : RoomFor s met.next q.end
        unfolding RoomFor
        room_next =
            let l = end_is in
            let n = section_size in
            let b = bulk_here in
            omega arith

        kept : take at words ≡ take at held
        kept = ap (take at) row_with_lem ∙ sets_before at at (row_with h.even) held (omega arith)

        pub same_length : length words ≡ length held
        same_length = ap length row_with_lem ∙ length-sets held at (row_with h.even)

        pub before_again : Before s words q.end
        before_again =
            let c = before.below in
            let l = row_end in
            record { mark = before.mark; ready = ready_kept before.ready c kept same_length; below = omega arith }

        -- The parts stand there as before.
        behind : (from to : ℕ) → at + 4 ≤ from → drop from (take to words) ≡ drop from (take to mid)
        behind from to f =
            ap (λ (ws : List ℕ). drop from (take to ws)) entered
            ∙ set_behind _ at _ from to (omega arith)
            ∙ set_behind _ (at + 1) _ from to (omega arith)
            ∙ set_behind _ (at + 2) _ from to (omega arith)
            ∙ set_behind mid (at + 3) _ from to (omega arith)

        lead_again : drop q.from (take q.begun words) ≡ lead_said s r
        lead_again = let a = places.from in behind q.from q.begun (omega arith) ∙ lead_there

        pattern_again : drop q.begun (take q.ended words) ≡ pattern_said s r
        pattern_again =
            let a = places.from in
            let b = places.begun in
            behind q.begun q.ended (omega arith) ∙ pattern_there

        tail_again : drop q.ended (take q.last words) ≡ tail_said s r
        tail_again =
            let a = places.from in
            let b = places.begun in
            let c = places.ended in behind q.ended q.last (omega arith) ∙ tail_there

        pub lyrics_hold : Holds words (record { from = q.last; to = q.end }) (flat_map lyric_row x.lyrics)
        lyrics_hold =
            let a = places.from in
            let b = places.begun in
            let c = places.ended in
            let d = places.last in
            let e = places.end in
            let f = lyrics_length in
            let g = ap length lyrics_same in
            record { words = behind q.last q.end (omega arith) ∙ lyrics_there ∙ lyrics_same; size = omega arith }

        lead_carries : Carries words (text_at words q.from q.begun) (side_items x.modifiers.before)
        unfolding lead_said
        lead_carries =
            side_carries words (look_up words) (record { from = q.from; to = q.begun }) lead x.modifiers.before m.says.before lead_clean
            (said_good s small r.modifiers.before) places.begun lead_again

        tail_carries : Carries words (text_at words q.ended q.last) (side_items x.modifiers.after)
        unfolding tail_said
        tail_carries =
            side_carries words (look_up words) (record { from = q.ended; to = q.last }) tail x.modifiers.after m.says.after tail_clean
            (said_good s small r.modifiers.after) places.last tail_again

        -- The pattern says what it said before the four words were entered.
        abbrev pattern_text : Text
        pattern_text = record { at = played_text words text; outline = outline_by mid text (named_at mid text) }

        mark_kept : take (before.mark + 1) mid ≡ take (before.mark + 1) held
        mark_kept =
            let c = before.below in
            ap (take (before.mark + 1)) there ∙ sets_before (before.mark + 1) (at + 4) (parts_said s r) held (omega arith)

        mid_length : length mid ≡ length held
        mid_length = ap length there ∙ length-sets held (at + 4) (parts_said s r)

        items_pattern : eqb (named_at mid text) 0 ≡ true → Carries words pattern_text (pattern_items (song_of s).definitions x.pattern)
        unfolding outline_by provided◌then◌else◌ pattern_said
        items_pattern e =
            let h : Names x.pattern 0 = rw (eqb-true (named_at mid text) 0 e) at names in
            rw (e, plays_itself words text x.pattern pattern_said_lem.1 (pattern_again ∙ pattern_same) h, pattern_there, ← pattern_again)
            (items_carries words (look_up mid) text (song_of s).definitions x.pattern (run_tokens lines) h
            (pattern_shape lines x.pattern m.written) (run_good s small r.pattern) pattern_again)

        named_pattern : eqb (named_at mid text) 0 ≡ false → Carries words pattern_text (pattern_items (song_of s).definitions x.pattern)
        unfolding outline_by provided◌then◌else◌ named_text
        named_pattern e =
            let n = named_at mid text in
            let k = eqb-false n 0 e in
            rw (e, plays_named words text x.pattern pattern_said_lem.1 (pattern_again ∙ pattern_same) n names k, named_some x.pattern n names k)
            (carries_either mid words (pattern_items (song_of s).definitions (named n)) (named_text mid n) (named_text words n)
            (ready_carries (ready_kept {at = before.mark + 1} before.ready (omega arith) mark_kept mid_length) n) (ready_carries before_again.ready n))

        pattern_carries : Carries words pattern_text (pattern_items (song_of s).definitions x.pattern)
        pattern_carries = by_cases (eqb (named_at mid text) 0) items_pattern named_pattern

        -- As the code finds it; with the number of its measures, if each has N beats.
        module _ {n : ℕ} (named : n ≡ named_at mid text) {says : Outline} (said : says ≡ outline_by mid text n)
            (even : h.even ≡ even_in says h.meter) where
          said_there : says ≡ outline_by mid text (named_at mid text)
          said_there = said ∙ ap (outline_by mid text) named

          even_here : h.even ≡ even_pattern (song_of s) x
          unfolding even_pattern
          even_here =
              let range = meter_range (song_of s) x in
              even ∙ ap (λ (u : Outline). even_in u h.meter) said_there ∙ ap (even_in pattern_text.outline) meter_here
              ∙ carries_even words pattern_text (pattern_items (song_of s).definitions x.pattern) (time_of (song_of s) x) pattern_carries range.0 range.1

          row_laid : words ≡ sets held at (section_row (song_of s) x)
          unfolding section_row
          row_laid = row_with_lem ∙ ap (λ (k : ℕ). sets held at (row_with k)) even_here

          pub lays : {t : Texts} → t ≡ told_texts words q says → LyricsFit (map lyric_line lyrics)
              → Lays s p song at held words (record {
                section = r;
                meter = h.meter;
                named = n;
                texts = t;
                lyrics = record { from = q.last; to = q.end };
                end = q.end;
                next = met.next;
              })
          lays told f =
              rw told (record {
                opens = record { met = m; texts = record { lead = lead_carries; pattern = rw said_there pattern_carries; tail = tail_carries } };
                names = rw named names;
                lyrics = lyrics_hold;
                lyrics_end = refl;
                said = meter-said;
                meter = meter_here;
                words = row_laid;
                end = row_end;
                fits = fits f;
                room = room_next;
                before = before_again;
              })
