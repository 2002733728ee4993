-- The tokens of a section's pattern are those of the items that it says, with the references put in.
use Prim.Native.Nat.{ℕ, ◌≤◌}
use mathlib.Core.Path.{◌≡◌, refl, sym, ap, subst, ◌∙◌}
use mathlib.Core.Logic.{◌⊎◌, inl, inr, ⊎_elim}
use mathlib.Core.List.{List, [], ◌∷◌, ◌++◌, map, append_assoc, head-eq_of_cons-eq, tail-eq_of_cons-eq}
use mathlib.Core.Bool.{false}
use mathlib.Core.Option.{Option, none, some, get_or, bind}
use native.Mathlib.Omega.{arith}
use lib.Dec.{eqb}
use Rattle.songcode.specs.Lists.{provided◌then◌else◌}
use Rattle.songcode.specs.Bytes.{Byte}
use Rattle.songcode.specs.Answer.Lines.{Line, Block}
use Rattle.songcode.specs.Song.{Sounds, only, also, measure, loop, refer, Items, one, next, Pattern, items, named, Definition, Section, Song}
use Rattle.songcode.specs.Answer.Tokens.{Token, sound, remover, reference, semicolon, colon, line_end, opens, closes, wrong, tokens, tokens_of}
use Rattle.songcode.specs.Answer.PatternText.{references_i, references}
use Rattle.songcode.specs.Answer.References.{definition_of, items_of, put_in, pattern_items}
use Rattle.songcode.specs.Answer.Sections.{pattern_run, body}
use Rattle.songcode.specs.Answer.SongText.{metadata, section, block_kind, head_in, definition_in}
use Rattle.songcode.specs.Answer.Answer.{blocks_of}
use Rattle.songcode.specs.Description.WrittenPattern.{Word, spells_again, spells_silence, spells_remover, spells_reference, spells_chord, Text, t_end, t_blank}
use Rattle.songcode.specs.Description.WrittenPattern.{t_semicolon, t_colon, t_open, t_close, t_word, TextLines, one_line, more_lines}
use Rattle.songcode.specs.Description.WrittenPattern.{items_tokens, WrittenPattern}
use Rattle.songcode.specs.Description.WrittenSection.{Each, none_each, and_each, WrittenSection}
use Rattle.songcode.specs.Description.WrittenSong.{Metadata, DefinitionLines, WrittenDefinition, SectionBlock, WrittenSong}
use Rattle.songcode.proofs.ListLaws.{by_cases, nil_is_not_cons, append_is_nil}
use Rattle.songcode.proofs.TokensAgree.{text_complete, text_lines_complete}
use Rattle.songcode.proofs.BodyAgree.{run_found, pattern_lines_kinds}
use Rattle.songcode.proofs.SectionAgree.{body_is}
use Rattle.songcode.proofs.BlockKinds.{begins_metadata, begins_section}
use Rattle.songcode.proofs.DefinitionAgree.{definition_kind, definition_read}
use Rattle.songcode.proofs.WrittenBefore.{write_sounds, write_removers, write_measure, write_separator, write_item, write_items, items_appended, appended}
use Rattle.text.specs.declared.lines.Line as text
use Rattle.text.specs.Spans.{line_text}
use Rattle.slips.specs.Marks.{Mark, MarkedLines, named_by, named_in, PlainText}
use Rattle.slips.specs.PatternText.{defines_by, defines, definition_lines, Means, PutIn, PatternText}
use Rattle.slips.specs.PatternText as told
use Rattle.explain.proofs.PutTokens.{meant, put_tokens, with_end, Tied, Says, as_written, with_put}
use Rattle.explain.proofs.SoundLaws.{tokens_in, tokens_behind, of_marks}

-- The tokens of lines, each with its end.
unfoldable pub line_tokens : List Line → List Token
line_tokens [] = []
line_tokens (l ∷ ls) = tokens l.text ++ (line_end ∷ line_tokens ls)

of_lines : (s : List ℕ) (ls : List text.Line) (ms : List Mark) → MarkedLines s ls ms → tokens_in ms ≡ line_tokens (map (line_text s) ls)
unfolding MarkedLines line_tokens
of_lines s [] ms h = ap tokens_in h
of_lines s (l ∷ ls) ms h =
    ap tokens_in h.5 ∙ tokens_behind h.0 _
    ∙ ap (λ (ts : List Token). ts ++ (line_end ∷ tokens_in h.1)) (of_marks s l.start l.stop h.0 h.3)
    ∙ ap (λ (ts : List Token). tokens (line_text s l).text ++ (line_end ∷ ts)) (of_lines s ls h.1 h.4)

plain_tokens : (s : List ℕ) (ls : List Line) (ms : List Mark) → PlainText s ls ms → tokens_in ms ≡ line_tokens ls
plain_tokens s ls ms p = of_lines s p.lines ms p.marked ∙ ap line_tokens p.same

last_end : (l : Line) (ls : List Line) → line_tokens (l ∷ ls) ≡ tokens_of l ls ++ (line_end ∷ [])
unfolding line_tokens tokens_of
last_end l [] = refl
last_end l (m ∷ ms) =
    ap (λ (ts : List Token). tokens l.text ++ (line_end ∷ ts)) (last_end m ms)
    ∙ sym (append_assoc (tokens l.text) (line_end ∷ tokens_of m ms) (line_end ∷ []))

-- Written items and the end of their last line.
text_tokens_lem : {l : Line} {ls : List Line} (r : Items) → TextLines l ls (items_tokens r) → line_tokens (l ∷ ls) ≡ with_end r
text_tokens_lem {l} {ls} r t =
    last_end l ls ∙ ap (λ (ts : List Token). ts ++ (line_end ∷ [])) (text_lines_complete t) ∙ sym (items_appended r (line_end ∷ []))

-- The lines of a definition are those of the definition that the song has.
metadata_none : (n : ℕ) (b : Block) → block_kind b ≡ metadata → defines n b ≡ false
unfolding defines defines_by
metadata_none n b e = rw e refl

section_none : (n : ℕ) (b : Block) → block_kind b ≡ section → defines n b ≡ false
unfolding defines defines_by
section_none n b e = rw e refl

definition_one : (n : ℕ) {b : Block} {d : Definition} → WrittenDefinition b d → defines n b ≡ eqb d.id n
unfolding defines defines_by definition_in
definition_one n {b} {d} w =
    let id : get_or (head_in b.first) 0 ≡ d.id = ap (λ (e : Definition). e.id) (definition_read w) in
    rw (definition_kind w) (ap (λ (k : ℕ). eqb k n) id)

past_metadata : (n : ℕ) (ms bs : List Block) → Metadata ms → definition_lines n (ms ++ bs) ≡ definition_lines n bs
unfolding Metadata definition_lines provided◌then◌else◌ block_kind
past_metadata n [] bs h = refl
past_metadata n (m ∷ ms) bs h = rw (metadata_none n m (begins_metadata m.first.text h.0)) (past_metadata n ms bs h.1)

of_sections_lem : (n : ℕ) {bs : List Block} {xs : List Section} → Each SectionBlock bs xs → definition_lines n bs ≡ []
unfolding definition_lines provided◌then◌else◌ block_kind
of_sections_lem n none_each = refl
of_sections_lem n (and_each {x = b} w ws) = rw (section_none n b (begins_section b.first.text w.no_key w.no_head)) (of_sections_lem n ws)

of_definitions_lem : (n : ℕ) {bs : List Block} {ds : List Definition} → Each WrittenDefinition bs ds → (rest : List Block) → definition_lines n rest ≡ []
    → DefinitionLines (definition_lines n (bs ++ rest)) (items_of ds n)
unfolding definition_lines provided◌then◌else◌ items_of definition_of bind DefinitionLines
of_definitions_lem n none_each rest e = rw e tt
of_definitions_lem n (and_each {x = b} {y = d} w ws) rest e =
    by_cases (eqb d.id n)
    (λ h. rw (definition_one n w, h) w.text)
    (λ h. rw (definition_one n w, h) (of_definitions_lem n ws rest e))

-- A reference names at least 1.
word_names : {w : List Byte} {t : Token} → Word w t → (n : ℕ) → t ≡ reference n → 1 ≤ n
word_names (spells_again e) n f =
    let z : ◌≡◌ {A = ℕ} 0 1 = cc in
    let y : ⊥ = omega arith in
    absurd y
word_names (spells_silence e) n f =
    let z : ◌≡◌ {A = ℕ} 0 1 = cc in
    let y : ⊥ = omega arith in
    absurd y
word_names (spells_remover e) n f =
    let z : ◌≡◌ {A = ℕ} 0 1 = cc in
    let y : ⊥ = omega arith in
    absurd y
word_names (spells_reference {n = m} b e k) n f =
    let g : m ≡ n = cc in
    let i = k.at_least in
    omega arith
word_names (spells_chord c) n f =
    let z : ◌≡◌ {A = ℕ} 0 1 = cc in
    let y : ⊥ = omega arith in
    absurd y

text_names : {bs : List Byte} {us : List Token} → Text bs us → (n : ℕ) (ts : List Token) → us ≡ reference n ∷ ts → 1 ≤ n
text_names t_end n ts e =
    let z : ◌≡◌ {A = ℕ} 0 1 = cc in
    let y : ⊥ = omega arith in
    absurd y
text_names (t_blank c h) n ts e = text_names h n ts e
text_names (t_semicolon c h) n ts e =
    let z : ◌≡◌ {A = ℕ} 0 1 = cc in
    let y : ⊥ = omega arith in
    absurd y
text_names (t_colon c h) n ts e =
    let z : ◌≡◌ {A = ℕ} 0 1 = cc in
    let y : ⊥ = omega arith in
    absurd y
text_names (t_open c h) n ts e =
    let z : ◌≡◌ {A = ℕ} 0 1 = cc in
    let y : ⊥ = omega arith in
    absurd y
text_names (t_close c p q z k h) n ts e =
    let z : ◌≡◌ {A = ℕ} 0 1 = cc in
    let y : ⊥ = omega arith in
    absurd y
text_names (t_word c p q z w h) n ts e = word_names w n (head-eq_of_cons-eq e)

no_end : (ts us : List Token) → ts ++ (line_end ∷ us) ≡ [] → ⊥
no_end [] us e =
    let z : ◌≡◌ {A = ℕ} 0 1 = cc in
    let y : ⊥ = omega arith in
    y
no_end (t ∷ ts) us e =
    let z : ◌≡◌ {A = ℕ} 0 1 = cc in
    let y : ⊥ = omega arith in
    y

alone : (ts us : List Token) (n : ℕ) → ts ++ (line_end ∷ us) ≡ reference n ∷ [] → ⊥
alone [] us n e =
    let z : ◌≡◌ {A = ℕ} 0 1 = cc in
    let y : ⊥ = omega arith in
    y
alone (t ∷ ts) us n e = no_end ts us (tail-eq_of_cons-eq e)

-- So a pattern that is a reference names that number, and one that is none names nothing.
names_one : {l : Line} {ls : List Line} {us : List Token} → TextLines l ls us → (n : ℕ) → us ≡ reference n ∷ [] → (named_in (l ∷ ls) ≡ n) × (1 ≤ n)
unfolding named_in named_by
names_one (one_line {l} h) n e = (ap named_by (text_complete h ∙ e), text_names h n [] e)
names_one (more_lines {ts = ts} {us = us} h t v) n e = absurd (alone ts us n (sym v ∙ e))

by_first : (t : Token) (ts us : List Token) → named_by (t ∷ ts) ≡ named_by (t ∷ us)
unfolding named_by
by_first (reference n) ts us = refl
by_first (sound s) ts us = refl
by_first remover ts us = refl
by_first semicolon ts us = refl
by_first colon ts us = refl
by_first line_end ts us = refl
by_first opens ts us = refl
by_first (closes n) ts us = refl
by_first wrong ts us = refl

of_beginning : (ts us : List Token) → named_by (ts ++ us) ≡ 0 → named_by ts ≡ 0
unfolding named_by
of_beginning [] us e = refl
of_beginning (t ∷ ts) us e = by_first t ts (ts ++ us) ∙ e

of_sounds : (ss : Sounds) (ts : List Token) → named_by (write_sounds ss ts) ≡ 0
unfolding named_by write_sounds
of_sounds (only s) ts = refl
of_sounds (also ss s) ts = of_sounds ss (sound s ∷ ts)

unnamed : (r : Items) (ts : List Token) → references r ≡ [] → named_by (write_items r ts) ≡ 0
unfolding named_by write_items write_item write_measure references references_i
unnamed (one (measure m)) ts e = of_sounds m.sounds (write_removers m.removers ts)
unnamed (one (loop r n)) ts e = refl
unnamed (one (refer n)) ts e = nil_is_not_cons (sym e)
unnamed (next r s i) ts e = unnamed r (write_separator s (write_item i ts)) (append_is_nil (references r) (references_i i) e).0

names_none : {l : Line} {ls : List Line} {us : List Token} → TextLines l ls us → named_by us ≡ 0 → named_in (l ∷ ls) ≡ 0
unfolding named_in
names_none (one_line h) e = ap named_by (text_complete h) ∙ e
names_none (more_lines {ts = ts} {us = us} h t v) e = ap named_by (text_complete h) ∙ of_beginning ts (line_end ∷ us) (ap named_by (sym v) ∙ e)

lines_are : {b : Block} {x : Section} (w : WrittenSection b x) → pattern_run (body b) ≡ w.first_pattern ∷ w.more_pattern
lines_are w =
    run_found (record {
      key_lines = w.key_lines;
      modifier_lines = w.modifier_lines;
      written = body_is w;
      of_keys = w.keys;
      of_run = (pattern_lines_kinds (w.first_pattern ∷ w.more_pattern) w.pattern_lines).0;
      of_modifiers = w.each_says;
    })

module _ (bs : List ℕ) (s : Song) (w : WrittenSong (blocks_of bs) s) where
  abbrev pub items_named : ℕ → Option Items
  items_named n = items_of s.definitions n

  abbrev lines_named : ℕ → List Line
  lines_named n = definition_lines n (blocks_of bs)

  abbrev pub tokens_named : ℕ → List Token
  tokens_named n = line_tokens (lines_named n)

  named_lines : (n : ℕ) → DefinitionLines (lines_named n) (items_named n)
  named_lines n =
      let e : lines_named n ≡ definition_lines n (w.definition_blocks ++ w.section_blocks) =
      ap (definition_lines n) w.written ∙ past_metadata n w.metadata _ w.of_metadata in
      rw e (of_definitions_lem n w.definitions w.section_blocks (of_sections_lem n w.sections))

  pub all_tied : Tied items_named tokens_named
  unfolding DefinitionLines line_tokens
  all_tied n = go (lines_named n) (items_named n) (named_lines n)
    where
      go : (ls : List Line) (o : Option Items) → DefinitionLines ls o
          → ((o ≡ none) × (line_tokens ls ≡ [])) ⊎ ((r : Items) × (o ≡ some r) × (line_tokens ls ≡ with_end r))
      go [] none h = inl (refl, refl)
      go [] (some r) h = absurd h
      go (l ∷ ls) none h = absurd h
      go (l ∷ ls) (some r) h = inr (r, refl, text_tokens_lem r h.text)

  -- References put in.
  means_tokens : (t : Token) (here : List Mark) → Means bs t here → tokens_in here ≡ meant tokens_named t
  unfolding Means meant
  means_tokens (reference n) here h = plain_tokens bs (lines_named n) here h
  means_tokens (sound x) here h = ap tokens_in h
  means_tokens remover here h = ap tokens_in h
  means_tokens semicolon here h = ap tokens_in h
  means_tokens colon here h = ap tokens_in h
  means_tokens line_end here h = ap tokens_in h
  means_tokens opens here h = ap tokens_in h
  means_tokens (closes n) here h = ap tokens_in h
  means_tokens wrong here h = ap tokens_in h

  put_tokens_lem : (ms all : List Mark) → PutIn bs ms all → tokens_in all ≡ put_tokens tokens_named (tokens_in ms)
  unfolding PutIn put_tokens
  put_tokens_lem [] all h = ap tokens_in h
  put_tokens_lem (m ∷ ms) all h =
      ap tokens_in h.4
      ∙ ap (λ (ts : List Token). m.token ∷ ts) (tokens_behind h.0 h.1)
      ∙ ap (λ (ts : List Token). m.token ∷ (ts ++ tokens_in h.1)) (means_tokens m.token h.0 h.2)
      ∙ ap (λ (ts : List Token). m.token ∷ (meant tokens_named m.token ++ ts)) (put_tokens_lem ms h.1 h.3)

  -- What a pattern of these lines says.
  module _ (r : Items) (ms : List Mark) (l : Line) (ls : List Line) where
    own_says_lem : (q : Items) → some q ≡ some r → WrittenPattern l ls (items q) → PatternText bs (l ∷ ls) ms → Says items_named tokens_named r (tokens_in ms)
    unfolding WrittenPattern
    own_says_lem q e h (told.written z t) =
        let i : q ≡ r = cc in as_written (plain_tokens bs (l ∷ ls) ms t ∙ text_tokens_lem q h.0 ∙ ap with_end i)
    own_says_lem q e h (told.named o own t p) =
        absurd (o (names_none h.0 (ap named_by (sym (appended q)) ∙ unnamed q [] h.2)))

    named_says : (n : ℕ) → pattern_items s.definitions (named n) ≡ some r → WrittenPattern l ls (named n) → PatternText bs (l ∷ ls) ms
        → Says items_named tokens_named r (tokens_in ms)
    unfolding WrittenPattern pattern_items bind
    named_says n e h (told.written z t) =
        let k = names_one h n refl in
        let i = k.0 in
        let j = k.1 in
        let y : ⊥ = omega arith in
        absurd y
    named_says n e h (told.named o own t p) =
        let text = subst (λ (k : ℕ). PlainText bs (lines_named k) own) (names_one h n refl).0 t in
        ⊎_elim
        (λ k. let f : none ≡ some r = rw k.0 at e in
        let z : ◌≡◌ {A = ℕ} 0 1 = cc in
        let y : ⊥ = omega arith in absurd y)
        (λ k.
        let f : some (put_in items_named k.0) ≡ some r = rw k.1 at e in
        let g : put_in items_named k.0 ≡ r = cc in
        with_put k.0 (sym g) (put_tokens_lem own ms p ∙ ap (put_tokens tokens_named) (plain_tokens bs (lines_named n) own text ∙ k.2)))
        (all_tied n)

  pub pattern_says : {b : Block} {x : Section} → WrittenSection b x → (r : Items) → pattern_items s.definitions x.pattern ≡ some r → (ms : List Mark)
      → PatternText bs (pattern_run (body b)) ms → Says items_named tokens_named r (tokens_in ms)
  unfolding pattern_items
  pattern_says {b} {x} v r e ms t = go x.pattern refl
    where
      text : PatternText bs (v.first_pattern ∷ v.more_pattern) ms
      text = subst (λ (ls : List Line). PatternText bs ls ms) (lines_are v) t

      go : (p : Pattern) → x.pattern ≡ p → Says items_named tokens_named r (tokens_in ms)
      go (items q) f =
          own_says_lem r ms v.first_pattern v.more_pattern q (ap (pattern_items s.definitions) (sym f) ∙ e)
          (subst (λ (p : Pattern). WrittenPattern v.first_pattern v.more_pattern p) f v.pattern) text
      go (named n) f =
          named_says r ms v.first_pattern v.more_pattern n (ap (pattern_items s.definitions) (sym f) ∙ e)
          (subst (λ (p : Pattern). WrittenPattern v.first_pattern v.more_pattern p) f v.pattern) text
