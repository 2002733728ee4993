-- Two ways to read a chord that read the texts of a file alike answer it alike: from tokens up to the answer, definition by definition.
use Prim.Native.Nat.{ℕ}
use mathlib.Core.Path.{◌≡◌, refl}
use mathlib.Core.List.{List, [], ◌∷◌, Memᴰ}
use mathlib.Core.Option.{Option, none, some}
use Rattle.songcode.specs.Bytes.{Byte}
use Rattle.songcode.specs.Answer.Lines.{Line, Block}
use Rattle.songcode.specs.Answer.Chords.{Reading}
use Rattle.songcode.specs.Answer.Tokens.{tokens_as, tokens_of_as}
use Rattle.songcode.specs.Answer.PatternText.{definition_text_as, section_text_as, side_text_as}
use Rattle.songcode.specs.Answer.Modifiers.{ModifierName, of_repeat, of_cut_start, of_cut_end, of_before, of_after, modifier_in_as}
use Rattle.songcode.specs.Answer.Sections.{Kind, key_line, modifier_line, pattern_line, kind_of_line, modifier_name_of, setting_of, modifier_of_as}
use Rattle.songcode.specs.Answer.Sections.{modifier_faults_by_as}
use Rattle.songcode.specs.Answer.Sections.{modifier_faults_as, faults_by_as, faults_as, pattern_run, pattern_in_as, pattern_faults_as, body, section_faults_as}
use Rattle.songcode.specs.Answer.Sections.{modifier_by_as}
use Rattle.songcode.specs.Answer.Sections.{modifier_on_as, section_in_as}
use Rattle.songcode.specs.Answer.SongText.{definition_blocks, section_blocks, definition_items_as, definition_faults_as, definitions_faults_as, text_faults_as}
use Rattle.songcode.specs.Answer.SongText.{definition_in_as, song_in_as}
use Rattle.songcode.specs.Answer.Answer.{Room, blocks_of, song_of_as, song_stages_as, stages_as, answer_as, song_answer_as}
use Rattle.songcode.specs.AsBefore.{ChordText, in_definition_lem, in_pattern, in_lead_in, in_tail}
use Rattle.songcode.proofs.MemberLaws.{gather_alike, collect_alike, map_alike}

module _ (read other : Reading) where
  abbrev Same : List Byte → Type 0
  Same text = tokens_as read text ≡ tokens_as other text

  abbrev SameLines : List Line → Type 0
  SameLines ls = (l : Line) → Memᴰ l ls → Same l.text

  -- The lines of a text.
  lines_alike : (l : Line) (ls : List Line) → SameLines (l ∷ ls) → tokens_of_as read l ls ≡ tokens_of_as other l ls
  unfolding tokens_of_as
  lines_alike l [] h = h l (Memᴰ.head refl)
  lines_alike l (m ∷ ms) h = rw (h l (Memᴰ.head refl), lines_alike m ms (λ k i. h k (Memᴰ.tail i)))

  definition_items_lem : (ls : List Line) → SameLines ls → definition_items_as read ls ≡ definition_items_as other ls
  unfolding definition_items_as definition_text_as
  definition_items_lem [] h = refl
  definition_items_lem (l ∷ ls) h = rw (lines_alike l ls h)

  definition_faults_lem : (ls : List Line) → SameLines ls → definition_faults_as read ls ≡ definition_faults_as other ls
  unfolding definition_faults_as definition_text_as
  definition_faults_lem [] h = refl
  definition_faults_lem (l ∷ ls) h = rw (lines_alike l ls h)

  pattern_alike : (ls : List Line) → SameLines ls → pattern_in_as read ls ≡ pattern_in_as other ls
  unfolding pattern_in_as section_text_as
  pattern_alike [] h = refl
  pattern_alike (l ∷ ls) h = rw (lines_alike l ls h)

  pattern_faults_lem : (header : ℕ) (ls : List Line) → SameLines ls → pattern_faults_as read header ls ≡ pattern_faults_as other header ls
  unfolding pattern_faults_as section_text_as
  pattern_faults_lem header [] h = refl
  pattern_faults_lem header (l ∷ ls) h = rw (lines_alike l ls h)

  -- A line of a section: only a lead-in and a tail hold chords.
  record SameSides (l : Line) : Type 0 where
    lead_in_lem : kind_of_line l ≡ modifier_line → modifier_name_of l ≡ some of_before → Same (setting_of l)
    tail : kind_of_line l ≡ modifier_line → modifier_name_of l ≡ some of_after → Same (setting_of l)

  module _ (l : Line) (h : SameSides l) where
    modifier_in_lem : (m : ModifierName) → kind_of_line l ≡ modifier_line → modifier_name_of l ≡ some m
        → modifier_in_as read m l.number (setting_of l) ≡ modifier_in_as other m l.number (setting_of l)
    unfolding modifier_in_as side_text_as
    modifier_in_lem of_repeat k e = refl
    modifier_in_lem of_cut_start k e = refl
    modifier_in_lem of_cut_end k e = refl
    modifier_in_lem of_before k e = rw (h.lead_in_lem k e)
    modifier_in_lem of_after k e = rw (h.tail k e)

    modifier_of_lem : kind_of_line l ≡ modifier_line → modifier_of_as read l ≡ modifier_of_as other l
    unfolding modifier_of_as
    modifier_of_lem k = go (modifier_name_of l) refl
      where
        go : (o : Option ModifierName) → modifier_name_of l ≡ o → modifier_of_as read l ≡ modifier_of_as other l
        go none e = rw e
        go (some m) e = rw e (modifier_in_lem m k e)

    modifier_faults_lem : kind_of_line l ≡ modifier_line → modifier_faults_as read l ≡ modifier_faults_as other l
    unfolding modifier_faults_as modifier_faults_by_as
    modifier_faults_lem k = go (modifier_name_of l) refl
      where
        go : (o : Option ModifierName) → modifier_name_of l ≡ o → modifier_faults_by_as read o l ≡ modifier_faults_by_as other o l
        go none e = refl
        go (some m) e = rw (modifier_in_lem m k e)

    faults_alike : faults_as read l ≡ faults_as other l
    unfolding faults_as faults_by_as
    faults_alike = go (kind_of_line l) refl
      where
        go : (k : Kind) → kind_of_line l ≡ k → faults_by_as read k l ≡ faults_by_as other k l
        go key_line e = refl
        go modifier_line e = modifier_faults_lem e
        go pattern_line e = refl

    modifier_on_lem : modifier_on_as read l ≡ modifier_on_as other l
    unfolding modifier_on_as modifier_by_as
    modifier_on_lem = go (kind_of_line l) refl
      where
        go : (k : Kind) → kind_of_line l ≡ k → modifier_by_as read k l ≡ modifier_by_as other k l
        go key_line e = refl
        go modifier_line e = modifier_of_lem e
        go pattern_line e = refl

  -- The sections and the definitions.
  module _ (bs : List Block) (h : (text : List Byte) → ChordText bs text → Same text) where
    module _ (b : Block) (i : Memᴰ b (section_blocks bs)) where
      sides : (l : Line) → Memᴰ l (body b) → SameSides l
      sides l j = record { lead_in_lem = λ k e. h (setting_of l) (in_lead_in b l i j k e); tail = λ k e. h (setting_of l) (in_tail b l i j k e) }

      in_run : SameLines (pattern_run (body b))
      in_run l j = h l.text (in_pattern b l i j)

      section_faults_lem : section_faults_as read b ≡ section_faults_as other b
      unfolding section_faults_as
      section_faults_lem =
          rw (gather_alike (body b) (λ l j. faults_alike l (sides l j)), pattern_faults_lem b.first.number (pattern_run (body b)) in_run)

      section_alike : section_in_as read b ≡ section_in_as other b
      unfolding section_in_as
      section_alike = rw (pattern_alike (pattern_run (body b)) in_run, collect_alike (body b) (λ l j. modifier_on_lem l (sides l j)))

    in_text : (b : Block) → Memᴰ b (definition_blocks bs) → SameLines b.others
    in_text b i l j = h l.text (in_definition_lem b l i j)

    definition_alike : (b : Block) → Memᴰ b (definition_blocks bs) → definition_in_as read b ≡ definition_in_as other b
    unfolding definition_in_as
    definition_alike b i = rw (definition_items_lem b.others (in_text b i))

    text_faults_lem : text_faults_as read bs ≡ text_faults_as other bs
    unfolding text_faults_as definitions_faults_as
    text_faults_lem =
        rw (
          gather_alike (definition_blocks bs) (λ b i. definition_faults_lem b.others (in_text b i)),
          gather_alike (section_blocks bs) (λ b i. section_faults_lem b i),
        )

    song_alike : song_in_as read bs ≡ song_in_as other bs
    unfolding song_in_as
    song_alike = rw (map_alike (definition_blocks bs) definition_alike, map_alike (section_blocks bs) section_alike)

  -- The answer.
  module _ (bs : List ℕ) (h : (text : List Byte) → ChordText (blocks_of bs) text → Same text) where
    song_of_lem : song_of_as read bs ≡ song_of_as other bs
    unfolding song_of_as
    song_of_lem = song_alike (blocks_of bs) h

    song_stages_lem : song_stages_as read bs ≡ song_stages_as other bs
    unfolding song_stages_as
    song_stages_lem =
        let a = text_faults_lem (blocks_of bs) h in
        let b = song_of_lem in
        cc

    pub answer_alike : (room : Room) → answer_as read room bs ≡ answer_as other room bs
    unfolding answer_as stages_as
    answer_alike room =
        let a = song_stages_lem in
        let b = song_of_lem in
        cc

    pub song_answer_alike : song_answer_as read bs ≡ song_answer_as other bs
    unfolding song_answer_as
    song_answer_alike =
        let a = song_stages_lem in
        let b = song_of_lem in
        cc
