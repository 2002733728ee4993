-- The line of a verdict is a line of the text: of 16 a lyric line, of 17 a header; the block of a section.
use Prim.Native.Nat.{ℕ, ◌≤◌}
use lib.ListN.{length}
use mathlib.Core.Path.{◌≡◌, refl, sym, ap, subst, ◌∙◌}
use mathlib.Core.Logic.{⊎_elim}
use mathlib.Core.List.{List, ◌∷◌, map, Memᴰ}
use Rattle.songcode.specs.Answer.Lines.{Line, Block}
use Rattle.songcode.specs.Song.{LyricLine, Section, Song}
use Rattle.songcode.specs.Answer.SongText.{section_blocks}
use Rattle.songcode.specs.Answer.Answer.{blocks_of, refused, song_answer}
use Rattle.songcode.specs.Description.WrittenText.{WrittenBlocks}
use Rattle.songcode.specs.Description.WrittenSection.{Each, none_each, and_each, LyricLines, no_lyrics, with_lyrics, WrittenSection}
use Rattle.songcode.specs.Description.WrittenSong.{WrittenSong}
use Rattle.songcode.proofs.BlocksAgree.{blocks_sound}
use Rattle.songcode.proofs.SongAgree.{sections_are}
use Rattle.songcode.proofs.AnswerAgree.{of_chart}
use Rattle.text.specs.declared.lines.Line as text
use Rattle.text.specs.Spans.{line_text, spans}
use Rattle.text.proofs.LineLaws.{blocks_spans}
use Rattle.slips.specs.Finds.{LineOf}
use Rattle.sections.proofs.LineLaws.{in_map}
use Rattle.slips.proofs.BlockLaws.{in_blocks}
use Rattle.explain.proofs.StageLaws.{lyric_refused, header_refused}

pub each_right : {A B : Type 0} {R : A → B → Type 0} {xs : List A} {ys : List B} {y : B} → Each R xs ys → Memᴰ y ys → (x : A) × Memᴰ x xs × R x y
each_right none_each m = absurd (mathlib.Core.List.Memᴰ.not-nil m)
each_right {R = R} (and_each {x} {y} h hs) m =
    ⊎_elim
    (λ e. (x, mathlib.Core.List.Memᴰ.head refl, subst (λ z. R x z) (sym e) h))
    (λ i. let r = each_right hs i in (r.0, mathlib.Core.List.Memᴰ.tail r.1, r.2))
    (mathlib.Core.List.Memᴰ.cases_cons m)

lyric_line_lem : {ls : List Line} {ys : List LyricLine} {y : LyricLine} → LyricLines ls ys → Memᴰ y ys → (m : Line) × Memᴰ m ls × (m.number ≡ y.number)
lyric_line_lem no_lyrics i = absurd (mathlib.Core.List.Memᴰ.not-nil i)
lyric_line_lem (with_lyrics {dashes} {l} {ls} e) i =
    ⊎_elim
    (λ k. (l, mathlib.Core.List.Memᴰ.tail (mathlib.Core.List.Memᴰ.head refl), sym (ap (λ (y : LyricLine). y.number) k)))
    (λ k.
    let r = in_map (λ (m : Line). record { number = m.number; text = m.text }) ls k in
    (r.0, mathlib.Core.List.Memᴰ.tail (mathlib.Core.List.Memᴰ.tail r.1), sym (ap (λ (y : LyricLine). y.number) r.2)))
    (mathlib.Core.List.Memᴰ.cases_cons i)

module _ (bs : List ℕ) where
  -- A line of one of the text's blocks is a line of the text; by its number.
  pub line_of_block : (b : Block) → Memᴰ b (blocks_of bs) → (m : Line) → Memᴰ m (b.first ∷ b.others)
      → (l : text.Line) × Memᴰ l (spans bs) × (m ≡ line_text bs l)
  line_of_block b i m j =
      let w : WrittenBlocks (map (line_text bs) (spans bs)) (blocks_of bs) = rw (blocks_spans bs) (blocks_sound (map (line_text bs) (spans bs))) in
      in_map (line_text bs) (spans bs) (in_blocks w b i m j)

  pub of_block : (b : Block) → Memᴰ b (blocks_of bs) → (m : Line) → Memᴰ m (b.first ∷ b.others)
      → (n : ℕ) → m.number ≡ n → (l : text.Line) × LineOf bs n l
  of_block b i m j n e =
      let r = line_of_block b i m j in
      (r.0, record { listed = r.1; number = sym (ap (λ (x : Line). x.number) r.2) ∙ e })

  -- The block of a section; among the blocks of sections, and among all blocks.
  pub section_block : (s : Song) → WrittenSong (blocks_of bs) s → (x : Section) → Memᴰ x s.sections
      → (b : Block) × Memᴰ b (section_blocks (blocks_of bs)) × WrittenSection b x
  section_block s w x m = let r = each_right w.sections m in (r.0, rw (sections_are w) r.1, r.2.section)

  pub block_of : (s : Song) → WrittenSong (blocks_of bs) s → (x : Section) → Memᴰ x s.sections
      → (b : Block) × Memᴰ b (blocks_of bs) × WrittenSection b x
  block_of s w x m =
      let r = each_right w.sections m in
      (r.0, rw w.written (mathlib.Core.List.Memᴰ.append_right w.metadata (mathlib.Core.List.Memᴰ.append_right w.definition_blocks r.1)), r.2.section)

  pub block_among : (s : Song) → WrittenSong (blocks_of bs) s → (b : Block) → Memᴰ b (section_blocks (blocks_of bs)) → Memᴰ b (blocks_of bs)
  block_among s w b m =
      let i = subst (λ (cs : List Block). Memᴰ b cs) (sections_are w) m in
      rw w.written (mathlib.Core.List.Memᴰ.append_right w.metadata (mathlib.Core.List.Memᴰ.append_right w.definition_blocks i))

  module _ (line : ℕ) where
    abbrev Listed : Type 0
    Listed = (length bs ≤ 65536) × ((l : text.Line) × LineOf bs line l)

    pub lyric_listed : song_answer bs ≡ refused 16 line → Listed
    lyric_listed e =
        let r = lyric_refused bs line e in
        let t = r.2.1 in
        let b = block_of r.0 (of_chart bs r.0 r.1) t.section t.listed in
        let w = b.2 in
        let m = lyric_line_lem w.lyrics t.sung in
        let there : Memᴰ m.0 b.0.others =
        rw w.written
        (mathlib.Core.List.Memᴰ.append_right w.key_lines
        (mathlib.Core.List.Memᴰ.append_right (w.first_pattern ∷ w.more_pattern) (mathlib.Core.List.Memᴰ.append_right w.modifier_lines m.1))) in
        (r.1.short, of_block b.0 b.1 m.0 (mathlib.Core.List.Memᴰ.tail there) line (m.2 ∙ r.2.2))

    pub header_listed : song_answer bs ≡ refused 17 line → Listed
    header_listed e =
        let r = header_refused bs line e in
        let b = block_of r.0 (of_chart bs r.0 r.1) r.2.0 r.2.1 in
        (r.1.short, of_block b.0 b.1 b.0.first (mathlib.Core.List.Memᴰ.head refl) line (sym b.2.header_number ∙ r.2.2))
