-- Where the verdict is 13 a stray `%` stands in the text that it is about.
use Prim.Native.Nat.{ℕ}
use mathlib.Core.Path.{◌≡◌, refl, sym, ap, subst, ◌∙◌}
use mathlib.Core.Logic.{◌⊎◌, inl, inr, ⊎_elim}
use mathlib.Core.List.{List, [], ◌∷◌, ◌++◌, append-nil, Memᴰ}
use mathlib.Core.Option.{some}
use borrow.Author.Tests.{eqb-true, eqb-false}
use lib.Dec.{eqb}
use Rattle.songcode.specs.Lists.{provided◌then◌else◌, left, every}
use Rattle.songcode.specs.Bytes.{Byte, placed, ascii, is_blank, not_blank}
use Rattle.songcode.specs.Answer.Keys.{setting_in}
use Rattle.songcode.specs.Answer.Lines.{Line, Block}
use Rattle.songcode.specs.Song.{Items, Modifier, before, after, Section, Song}
use Rattle.songcode.specs.Answer.References.{pattern_items}
use Rattle.songcode.specs.Answer.Sections.{behind_first, pattern_run, body}
use Rattle.songcode.specs.Answer.Tokens.{tokens}
use Rattle.songcode.specs.Answer.Answer.{blocks_of, refused, song_answer}
use Rattle.songcode.specs.Description.WrittenPattern.{Text}
use Rattle.songcode.specs.Description.WrittenPattern.{WrittenSide}
use Rattle.songcode.proofs.WrittenBefore.{write_items, appended}
use Rattle.songcode.specs.Description.WrittenSong.{WrittenSong}
use Rattle.songcode.specs.Description.WrittenSection.{modifier_spelling, ModifierSetting, ModifierLine, Signed, WrittenSection}
use Rattle.songcode.specs.Description.StoppedSong.{AgainFirst, items_written}
use Rattle.songcode.proofs.ListLaws.{by_cases}
use Rattle.songcode.proofs.TokensAgree.{text_complete}
use Rattle.songcode.proofs.AnswerAgree.{of_chart}
use Rattle.songcode.proofs.SignedAgree.{Unblank, signed_setting}
use Rattle.text.specs.declared.lines.Line as text
use Rattle.text.specs.Spans.{part, line_text}
use Rattle.slips.specs.Marks.{Mark, SideText}
use Rattle.slips.specs.PatternText.{PatternText}
use Rattle.slips.specs.Strays.{StrayTold}
use Rattle.slips.specs.Finds.{LineOf}
use Rattle.explain.proofs.SoundLaws.{sounding, of_items, tokens_in, of_marks, before_end, said_sounding}
use Rattle.explain.proofs.PlayedText.{all_tied, pattern_says}
use Rattle.explain.proofs.SoundLaws.{Somewhere, stray_among_lem}
use Rattle.explain.proofs.StageLaws.{StrayIn, in_text, in_side, stray_refused}
use Rattle.explain.proofs.VerdictLines.{each_right, block_of, line_of_block, of_block}

-- A text that sounds as items do whose first `%` stands before every chord has a stray one.
items_stray : (r : Items) → AgainFirst r → (ms : List Mark) → sounding (tokens_in ms) ≡ items_written r → Somewhere ms
items_stray r a ms e = stray_among_lem ms a.front a.back (e ∙ a.written) a.none_before

-- So the clause that is told is the first.
told_there : (s : List ℕ) (Text : List Mark → Type 0) {clause from to : ℕ} (t : StrayTold s Text clause from to) → Somewhere t.marks → clause ≡ 1
told_there s Text {clause} t x =
    by_cases (eqb clause 1)
    (λ e. eqb-true clause 1 e)
    (λ e. absurd (t.tells.none (eqb-false clause 1 e) x.0 x.1))

-- A lead-in or tail: what stands behind the name of its line.
setting_behind : (b : Byte) (bs : List Byte) → b.value ≡ 95 → setting_in (b ∷ bs) ≡ setting_in bs
unfolding setting_in left not_blank is_blank provided◌then◌else◌
setting_behind b bs e = rw e refl

-- The tokens of the setting on every line of the file that is this one are those of the items.
abbrev pub SideTokens : Line → Items → Type 0
SideTokens l r =
    (s : List ℕ) (k : text.Line) → line_text s k ≡ l → (ms : List Mark) (q : SideText s k ms)
    → tokens (placed q.from (part q.from k.stop s)) ≡ write_items r []

module _ (l : Line) (r : Items) {spelling : List ℕ} {setting : List Byte} (u : Unblank spelling) (w : Signed 95 spelling l.text setting)
    (t : WrittenSide setting r) where
  setting_is : setting_in l.text ≡ setting
  unfolding behind_first
  setting_is =
      let rest = w.word ++ (w.gap ++ setting) in
      let e : setting_in l.text ≡ setting_in rest = ap setting_in w.written ∙ setting_behind w.first rest w.signs in
      let f : setting_in (behind_first l.text) ≡ setting_in rest = ap (λ (bs : List Byte). setting_in (behind_first bs)) w.written in
      e ∙ sym f ∙ signed_setting u w

  side_tokens : SideTokens l r
  side_tokens s k e ms q = ap tokens (sym q.setting ∙ ap (λ (m : Line). setting_in m.text) e ∙ setting_is) ∙ text_complete t.text ∙ sym (appended r)

side_stray : (l : Line) (r : Items) → SideTokens l r → AgainFirst r → (s : List ℕ) (k : text.Line) → line_text s k ≡ l → (clause from to : ℕ)
    → StrayTold s (SideText s k) clause from to → clause ≡ 1
unfolding sounding
side_stray l r h a s k e clause from to x =
    let q = x.text in
    let sounds : sounding (tokens_in x.marks) ≡ items_written r =
    ap (λ (ms : List Mark). sounding (tokens_in ms)) q.all ∙ before_end q.marks k.stop []
    ∙ append-nil (sounding (tokens_in q.marks))
    ∙ ap sounding (of_marks s q.from k.stop q.marks q.marked ∙ h s k e x.marks q)
    ∙ of_items r [] ∙ append-nil (items_written r) in
    told_there s (SideText s k) x (items_stray r a x.marks sounds)

unblank_before : (n : ℕ) (r : Items) → Unblank (modifier_spelling (before n r))
unfolding Unblank modifier_spelling ascii every
unblank_before n r = refl

unblank_after : (n : ℕ) (r : Items) → Unblank (modifier_spelling (after n r))
unfolding Unblank modifier_spelling ascii every
unblank_after n r = refl

-- The line of a lead-in or tail.
pub side_line_lem : (l : Line) (m : Modifier) (n : ℕ) (r : Items) → ModifierLine l m → (m ≡ before n r) ⊎ (m ≡ after n r)
    → (n ≡ l.number) × SideTokens l r
unfolding ModifierSetting
side_line_lem l m n r w o =
    ⊎_elim
    (λ e.
    let v : ModifierLine l (before n r) = subst (ModifierLine l) e w in
    (v.allowed.0, λ s k f ms q. side_tokens l r (unblank_before n r) v.written v.allowed.1 s k f ms q))
    (λ e.
    let v : ModifierLine l (after n r) = subst (ModifierLine l) e w in
    (v.allowed.0, λ s k f ms q. side_tokens l r (unblank_after n r) v.written v.allowed.1 s k f ms q))
    o

pattern_stray : (bs : List ℕ) (s : Song) (c : WrittenSong (blocks_of bs) s) {b : Block} {x : Section} → WrittenSection b x → (r : Items) → AgainFirst r
    → pattern_items s.definitions x.pattern ≡ some r → (clause from to : ℕ)
    → StrayTold bs (PatternText bs (pattern_run (body b))) clause from to → clause ≡ 1
pattern_stray bs s c w r a e clause from to y =
    let says = pattern_says bs s c w r e y.marks y.text in
    told_there bs _ y (items_stray r a y.marks (said_sounding _ _ (all_tied bs s c) r _ says))

-- The modifier that says a section's lead-in or tail.
pub side_said_lem : {b : Block} {x : Section} (w : WrittenSection b x) (line : ℕ) (r : Items)
    → (x.modifiers.before ≡ some (record { line = line; items = r })) ⊎ (x.modifiers.after ≡ some (record { line = line; items = r }))
    → (m : Modifier) × Memᴰ m w.said × ((m ≡ before line r) ⊎ (m ≡ after line r))
side_said_lem w line r o =
    ⊎_elim
    (λ h. (before line r, (w.modifiers.before (record { line = line; items = r })).0 h, inl refl))
    (λ h. (after line r, (w.modifiers.after (record { line = line; items = r })).0 h, inr refl))
    o

-- What the verdict is about: a section's pattern, or a lead-in or tail; in each a stray `%` is told.
pub data StrayAbout (bs : List ℕ) (line : ℕ) : Type 0 where
  about_pattern : (b : Block) → Memᴰ b (blocks_of bs) → b.first.number ≡ line → (l : text.Line) → LineOf bs line l
      → ((clause from to : ℕ) → StrayTold bs (PatternText bs (pattern_run (body b))) clause from to → clause ≡ 1)
      → StrayAbout bs line
  about_side : (l : text.Line) → LineOf bs line l → (b : Block) → Memᴰ b (blocks_of bs) → Memᴰ (line_text bs l) b.others
      → ((clause from to : ℕ) → StrayTold bs (SideText bs l) clause from to → clause ≡ 1) → StrayAbout bs line

pub stray_about : (bs : List ℕ) (line : ℕ) → song_answer bs ≡ refused 13 line → StrayAbout bs line
stray_about bs line e =
    let r = stray_refused bs line e in
    go r.0 (of_chart bs r.0 r.1) r.2
  where
    go : (s : Song) → WrittenSong (blocks_of bs) s → StrayIn s line → StrayAbout bs line
    go s c (in_text x r i p a h) =
        let b = block_of bs s c x i in
        let n = sym b.2.header_number ∙ h in
        let l = of_block bs b.0 b.1 b.0.first (mathlib.Core.List.Memᴰ.head refl) line n in
        about_pattern b.0 b.1 n l.0 l.1 (λ clause from to y. pattern_stray bs s c b.2 r a p clause from to y)
    go s c (in_side x r i o a) =
        let b = block_of bs s c x i in
        let w = b.2 in
        let t = side_said_lem w line r o in
        let k = each_right w.each_says t.1 in
        let there : Memᴰ k.0 b.0.others =
        subst (λ (ls : List Line). Memᴰ k.0 ls) (sym w.written)
        (mathlib.Core.List.Memᴰ.append_right w.key_lines
        (mathlib.Core.List.Memᴰ.append_right (w.first_pattern ∷ w.more_pattern) (mathlib.Core.List.Memᴰ.append_left w.last_lines k.1))) in
        let q = side_line_lem k.0 t.0 line r k.2 t.2 in
        let l = line_of_block bs b.0 b.1 k.0 (mathlib.Core.List.Memᴰ.tail there) in
        let same : line_text bs l.0 ≡ k.0 = sym l.2 in
        about_side l.0 (record { listed = l.1; number = ap (λ (y : Line). y.number) same ∙ sym q.0 }) b.0 b.1
        (subst (λ (y : Line). Memᴰ y b.0.others) (sym same) there)
        (λ clause from to y. side_stray k.0 r q.1 a bs l.0 same clause from to y)

-- The verdict's line is a line of the text.
pub stray_listed : (bs : List ℕ) {line : ℕ} → song_answer bs ≡ refused 13 line → (l : text.Line) × LineOf bs line l
stray_listed bs {line} e = go (stray_about bs line e)
  where
    go : StrayAbout bs line → (l : text.Line) × LineOf bs line l
    go (about_pattern b i n l k h) = (l, k)
    go (about_side l k b i j h) = (l, k)
