-- Where the verdict is 12 a measure that does not fit stands in the text that it is about.
use Prim.Native.Nat.{ℕ}
use mathlib.Core.Path.{◌≡◌, refl, sym, ap, subst, ◌∙◌}
use mathlib.Core.List.{List, [], ◌∷◌, append-nil, Memᴰ}
use mathlib.Core.Option.{some}
use borrow.Author.Tests.{eqb-true, eqb-false}
use lib.Dec.{eqb}
use Rattle.songcode.specs.Answer.Lines.{Line, Block}
use Rattle.songcode.specs.Song.{Items, Section, Song}
use Rattle.songcode.specs.Answer.References.{pattern_items}
use Rattle.songcode.specs.Answer.Sections.{pattern_run, body, section_in}
use Rattle.songcode.specs.Answer.SongText.{section_blocks, text_faults}
use Rattle.songcode.specs.Answer.Playing.{time_of}
use Rattle.songcode.specs.Answer.Answer.{blocks_of, song_of, refused, song_answer}
use Rattle.songcode.specs.Description.WrittenSong.{WrittenSong}
use Rattle.songcode.specs.Description.WrittenSection.{WrittenSection}
use Rattle.songcode.proofs.ListLaws.{by_cases}
use Rattle.songcode.proofs.SectionAgree.{section_once}
use Rattle.songcode.proofs.SongAgree.{song_exact}
use Rattle.songcode.proofs.AnswerAgree.{of_chart, song_read}
use Rattle.text.specs.declared.lines.Line as text
use Rattle.text.specs.Spans.{line_text}
use Rattle.slips.specs.Marks.{Mark, SideText}
use Rattle.slips.specs.PatternText.{PatternText}
use Rattle.slips.specs.Misfits.{MisfitTold}
use Rattle.slips.specs.Finds.{LineOf}
use Rattle.explain.proofs.SoundLaws.{tokens_in, of_marks}
use Rattle.explain.proofs.SizeLaws.{closed, sizes_from, sizes, sizes_before_end, items_sizes, of_items, said_sizes}
use Rattle.explain.proofs.SizeLaws.{apart_none, undivided_not}
use Rattle.explain.proofs.StageLaws.{Undivided, MisfitIn, in_text, in_side, misfit_refused, stray_refused}
use Rattle.explain.proofs.PlayedText.{all_tied, pattern_says}
use Rattle.explain.proofs.StrayThere.{SideTokens, side_line_lem, side_said_lem}
use Rattle.explain.proofs.VerdictLines.{each_right, section_block, block_among, line_of_block, of_block}

-- A text with the measures of items of which one does not fit: the clause is told.
told_there : (s : List ℕ) (Text : List Mark → Type 0) (n : ℕ) (r : Items) → Undivided n r → {clause from to positions : ℕ}
    → (t : MisfitTold s Text n clause from to positions) → sizes (tokens_in t.marks) ≡ items_sizes r → clause ≡ 1
told_there s Text n r u {clause} t e =
    by_cases (eqb clause 1)
    (λ h. eqb-true clause 1 h)
    (λ h. absurd (undivided_not n t.marks r e u.measure u.there u.undivides (t.none (eqb-false clause 1 h))))

side_misfit : (l : Line) (r : Items) → SideTokens l r → (n : ℕ) → Undivided n r → (s : List ℕ) (k : text.Line) → line_text s k ≡ l
    → {clause from to positions : ℕ} → MisfitTold s (SideText s k) n clause from to positions → clause ≡ 1
unfolding sizes_from closed
side_misfit l r h n u s k e x =
    let q = x.text in
    let same : sizes (tokens_in x.marks) ≡ items_sizes r =
    ap (λ (ms : List Mark). sizes (tokens_in ms)) q.all ∙ sizes_before_end q.marks k.stop []
    ∙ append-nil (sizes (tokens_in q.marks))
    ∙ ap sizes (of_marks s q.from k.stop q.marks q.marked ∙ h s k e x.marks q)
    ∙ of_items r [] apart_none ∙ append-nil (items_sizes r) in
    told_there s (SideText s k) n r u x same

pattern_misfit : (bs : List ℕ) (s : Song) (c : WrittenSong (blocks_of bs) s) {b : Block} {x : Section} → WrittenSection b x → (r : Items) (n : ℕ)
    → Undivided n r → pattern_items s.definitions x.pattern ≡ some r → (clause from to positions : ℕ)
    → MisfitTold bs (PatternText bs (pattern_run (body b))) n clause from to positions → clause ≡ 1
pattern_misfit bs s c {b} w r n u e clause from to positions y =
    let says = pattern_says bs s c w r e y.marks y.text in
    told_there bs (PatternText bs (pattern_run (body b))) n r u y (said_sizes _ _ (all_tied bs s c) r _ says)

-- What the verdict is about: a section's pattern, or a lead-in or tail; in each the clause is told.
abbrev meter_in : List ℕ → Block → ℕ
meter_in bs b = time_of (song_of bs) (section_in b)

pub data MisfitAbout (bs : List ℕ) (line : ℕ) : Type 0 where
  about_pattern : (b : Block) → Memᴰ b (section_blocks (blocks_of bs)) → Memᴰ b (blocks_of bs) → b.first.number ≡ line
      → (l : text.Line) → LineOf bs line l
      → ((clause from to positions : ℕ)
      → MisfitTold bs (PatternText bs (pattern_run (body b))) (meter_in bs b) clause from to positions → clause ≡ 1)
      → MisfitAbout bs line
  about_side : (l : text.Line) → LineOf bs line l → (b : Block) → Memᴰ b (section_blocks (blocks_of bs)) → Memᴰ b (blocks_of bs)
      → Memᴰ (line_text bs l) b.others
      → ((clause from to positions : ℕ) → MisfitTold bs (SideText bs l) (meter_in bs b) clause from to positions → clause ≡ 1) → MisfitAbout bs line

pub misfit_about : (bs : List ℕ) (line : ℕ) → song_answer bs ≡ refused 12 line → MisfitAbout bs line
misfit_about bs line e =
    let r = misfit_refused bs line e in
    go r.0 (of_chart bs r.0 r.1) r.2
  where
    meter : (s : Song) → WrittenSong (blocks_of bs) s → {b : Block} {x : Section} → WrittenSection b x → time_of s x ≡ meter_in bs b
    meter s c {b} {x} w = ap (λ (y : Song). time_of y x) (sym (song_read bs s c)) ∙ ap (time_of (song_of bs)) (sym (section_once w))

    go : (s : Song) → WrittenSong (blocks_of bs) s → MisfitIn s line → MisfitAbout bs line
    go s c (in_text x r i p u h) =
        let b = section_block bs s c x i in
        let a = block_among bs s c b.0 b.1 in
        let n = sym b.2.header_number ∙ h in
        let l = of_block bs b.0 a b.0.first (mathlib.Core.List.Memᴰ.head refl) line n in
        let v = subst (λ (k : ℕ). Undivided k r) (meter s c b.2) u in
        about_pattern b.0 b.1 a n l.0 l.1 (λ clause from to positions y. pattern_misfit bs s c b.2 r _ v p clause from to positions y)
    go s c (in_side x r i o u) =
        let b = section_block bs s c x i in
        let a = block_among bs s c b.0 b.1 in
        let w = b.2 in
        let t = side_said_lem w line r o in
        let k = each_right w.each_says t.1 in
        let there : Memᴰ k.0 b.0.others =
        subst (λ (ls : List Line). Memᴰ k.0 ls) (sym w.written)
        (mathlib.Core.List.Memᴰ.append_right w.key_lines
        (mathlib.Core.List.Memᴰ.append_right (w.first_pattern ∷ w.more_pattern) (mathlib.Core.List.Memᴰ.append_left w.last_lines k.1))) in
        let q = side_line_lem k.0 t.0 line r k.2 t.2 in
        let l = line_of_block bs b.0 a k.0 (mathlib.Core.List.Memᴰ.tail there) in
        let same : line_text bs l.0 ≡ k.0 = sym l.2 in
        let v = subst (λ (j : ℕ). Undivided j r) (meter s c w) u in
        about_side l.0 (record { listed = l.1; number = ap (λ (y : Line). y.number) same ∙ sym q.0 }) b.0 b.1 a
        (subst (λ (y : Line). Memᴰ y b.0.others) (sym same) there)
        (λ clause from to positions y. side_misfit k.0 r q.1 _ v bs l.0 same y)

-- The verdict's line is a line of the text.
pub misfit_listed : (bs : List ℕ) {line : ℕ} → song_answer bs ≡ refused 12 line → (l : text.Line) × LineOf bs line l
misfit_listed bs {line} e = go (misfit_about bs line e)
  where
    go : MisfitAbout bs line → (l : text.Line) × LineOf bs line l
    go (about_pattern b i j n l k h) = (l, k)
    go (about_side l k b i j m h) = (l, k)

-- Stage 2 has nothing against such a chart.
pub misfit_clean : (bs : List ℕ) {line : ℕ} → song_answer bs ≡ refused 12 line → text_faults (blocks_of bs) ≡ []
misfit_clean bs {line} e = let r = misfit_refused bs line e in (song_exact (blocks_of bs)).1 (r.0, of_chart bs r.0 r.1)

pub stray_clean : (bs : List ℕ) {line : ℕ} → song_answer bs ≡ refused 13 line → text_faults (blocks_of bs) ≡ []
stray_clean bs {line} e = let r = stray_refused bs line e in (song_exact (blocks_of bs)).1 (r.0, of_chart bs r.0 r.1)
