-- What stops a section's block is stated exactly where the answer complains of it.
use Prim.Native.Nat.{ℕ}
use Prim.Native.Char.{code}
use mathlib.Core.Path.{◌≡◌, refl, ap, sym, subst, ◌∙◌}
use mathlib.Core.Logic.{◌↔◌, ◌⊎◌, inl, inr, ⊎_elim}
use mathlib.Core.List.Memᴰ
use mathlib.Core.List.{List, [], ◌∷◌, ◌++◌, Memᴰ, flat_map}
use mathlib.Core.Bool.{Bool, true, false, ◌&&◌, not}
use mathlib.Core.Option.{some, bind}
use lib.Dec.{leb}
use lib.ListN.{get_elem?}
use Rattle.songcode.specs.Lists.{provided◌then◌else◌, taken, left, is_empty, is_some}
use Rattle.songcode.specs.Bytes.{Byte, is_byte}
use Rattle.songcode.specs.Answer.Characters.{characters}
use Rattle.songcode.specs.Answer.Lines.{Line, Block}
use Rattle.songcode.specs.Complaints.{Complaint, complaint, complain_if}
use Rattle.songcode.specs.Song.{KeyName}
use Rattle.songcode.specs.Answer.Keys.{key_place, of_section}
use Rattle.songcode.specs.Answer.Modifiers.{ModifierName, of_repeat, of_cut_start, of_cut_end, of_before, of_after, modifier_place}
use Rattle.songcode.specs.Answer.PatternText.{section_text}
use Rattle.songcode.specs.Answer.Sections.{kind_of_line, is_pattern_line, not_pattern_line, setting_of, key_name_of, modifier_name_of, twice, key_said}
use Rattle.songcode.specs.Answer.Sections.{modifier_said}
use Rattle.songcode.specs.Answer.Sections.{faults, order, pattern_run, pattern_faults, header_faults, not_dashes, lyric_faults, body, from_dashes}
use Rattle.songcode.specs.Answer.Sections.{section_faults}
use Rattle.songcode.specs.Description.WrittenText.{All, Stops}
use Rattle.songcode.specs.Description.WrittenSection.{OfSection, Header}
use Rattle.songcode.specs.Description.StoppedText.{IsKey, IsModifier, IsPattern, CallsKey, CallsModifier, KeyStops, key_unknown, key_not_allowed}
use Rattle.songcode.specs.Description.StoppedText.{key_setting}
use Rattle.songcode.specs.Description.StoppedText.{KeyDoubled, key_twice, ModifierStops, modifier_unknown, repeat_setting, cut_start_setting}
use Rattle.songcode.specs.Description.StoppedText.{cut_end_setting}
use Rattle.songcode.specs.Description.StoppedText.{lead_in_text, tail_text, ModifierDoubled, modifier_twice, Undashed, Dashed, Split, NoPattern}
use Rattle.songcode.specs.Description.StoppedText.{AllPattern}
use Rattle.songcode.specs.Description.StoppedText.{RunEnds, FirstRun, SectionStops, name_wrong, out_of_place, key_doubled, modifier_doubled, key_stops}
use Rattle.songcode.specs.Description.StoppedText.{modifier_stops, pattern_text_lem, no_pattern, no_lyrics}
use Rattle.songcode.proofs.ListLaws.{by_cases, true_is_not_false, nil_is_not_cons, is_empty_true, taken_left, taken_all, left_stops, taken_is, left_is}
use Rattle.songcode.proofs.ListLaws.{complain_if_nil, nil_complain_if}
use Rattle.songcode.proofs.PatternLaws.{none_some, and_then_some}
use Rattle.songcode.proofs.ChoiceLaws.{is_some_exact}
use Rattle.songcode.proofs.MemberLaws.{either, only_one, in_gather, gather_in, in_complaint, complaint_in}
use Rattle.songcode.proofs.PatternAgree.{pattern_exact as text_exact}
use Rattle.songcode.proofs.LineAgree.{by_kind, not_dashes_exact, dashes_not_dashes, not_dashes_dashes}
use Rattle.songcode.proofs.KeyAgree.{of_section_exact}
use Rattle.songcode.proofs.LineStops.{key_exact, modifier_exact, calls_key, key_called, calls_modifier, modifier_called, fails_exact}
use Rattle.songcode.proofs.LineStops.{key_stops_exact, modifier_stops_exact}
use Rattle.songcode.proofs.OrderStops.{pattern_test, order_stated, stated_order, Again, twice_in, in_twice}
use Rattle.songcode.proofs.HeaderAgree.{header_exact}
use Rattle.songcode.proofs.InheritsAgree.{same_key}

-- A section's lines before and from the `--` on.
undashed_exact : (ls : List Line) → All not_dashes ls ↔ Undashed ls
unfolding All Undashed
undashed_exact ls = (to ls, from ls)
  where
    to : (ls : List Line) → All not_dashes ls → Undashed ls
    to [] h = tt
    to (l ∷ ls) h = ((not_dashes_exact l).0 h.0, to ls h.1)

    from : (ls : List Line) → Undashed ls → All not_dashes ls
    from [] h = tt
    from (l ∷ ls) h = ((not_dashes_exact l).1 h.0, from ls h.1)

dashed_exact : (ls : List Line) → Stops not_dashes ls ↔ Dashed ls
unfolding Stops Dashed
dashed_exact [] = ((λ h. tt), (λ h. tt))
dashed_exact (l ∷ ls) = (dashes_not_dashes l, not_dashes_dashes l)

split_of : (b : Block) → Split b (body b) (from_dashes b)
unfolding body from_dashes
split_of b =
    record {
      written = sym (taken_left not_dashes b.others);
      undashed = (undashed_exact (taken not_dashes b.others)).0 (taken_all not_dashes b.others);
      dashed = (dashed_exact (left not_dashes b.others)).0 (left_stops not_dashes b.others);
    }

pub split_once : {b : Block} {x y : List Line} → Split b x y → (body b ≡ x) × (from_dashes b ≡ y)
unfolding body from_dashes
split_once {x = x} {y = y} w = (
  rw w.written (taken_is not_dashes x y ((undashed_exact x).1 w.undashed) ((dashed_exact y).1 w.dashed)),
  rw w.written (left_is not_dashes x y ((undashed_exact x).1 w.undashed) ((dashed_exact y).1 w.dashed)),
)

-- The first run of pattern lines.
none_exact : (l : Line) → (not_pattern_line l ≡ true) ↔ (IsPattern l → ⊥)
unfolding not_pattern_line
none_exact l = fails_exact (is_pattern_line l) (pattern_test l)

no_pattern_of : (ls : List Line) → All not_pattern_line ls → NoPattern ls
unfolding All NoPattern
no_pattern_of [] h = tt
no_pattern_of (l ∷ ls) h = ((none_exact l).0 h.0, no_pattern_of ls h.1)

of_no_pattern : (ls : List Line) → NoPattern ls → All not_pattern_line ls
unfolding All NoPattern
of_no_pattern [] h = tt
of_no_pattern (l ∷ ls) h = ((none_exact l).1 h.0, of_no_pattern ls h.1)

all_pattern_of : (ls : List Line) → All is_pattern_line ls → AllPattern ls
unfolding All AllPattern
all_pattern_of [] h = tt
all_pattern_of (l ∷ ls) h = ((pattern_test l).0 h.0, all_pattern_of ls h.1)

of_all_pattern : (ls : List Line) → AllPattern ls → All is_pattern_line ls
unfolding All AllPattern
of_all_pattern [] h = tt
of_all_pattern (l ∷ ls) h = ((pattern_test l).1 h.0, of_all_pattern ls h.1)

run_ends_of : (ls : List Line) → Stops is_pattern_line ls → RunEnds ls
unfolding Stops RunEnds
run_ends_of [] h = tt
run_ends_of (l ∷ ls) h = λ p. true_is_not_false ((pattern_test l).1 p) h

of_run_ends : (ls : List Line) → RunEnds ls → Stops is_pattern_line ls
unfolding Stops RunEnds
of_run_ends [] h = tt
of_run_ends (l ∷ ls) h = by_cases (is_pattern_line l) (λ t. absurd (h ((pattern_test l).0 t))) (λ f. f)

run_of : (ls : List Line) → FirstRun ls (pattern_run ls)
unfolding pattern_run
run_of ls =
    let behind = left not_pattern_line ls in
    record {
      front = taken not_pattern_line ls;
      rest = left is_pattern_line behind;
      written = sym (ap (λ x. taken not_pattern_line ls ++ x) (taken_left is_pattern_line behind) ∙ taken_left not_pattern_line ls);
      none_before = no_pattern_of (taken not_pattern_line ls) (taken_all not_pattern_line ls);
      of_pattern = all_pattern_of (taken is_pattern_line behind) (taken_all is_pattern_line behind);
      ends = run_ends_of (left is_pattern_line behind) (left_stops is_pattern_line behind);
    }

pub run_once : {ls run : List Line} {l : Line} → FirstRun ls (l ∷ run) → pattern_run ls ≡ l ∷ run
unfolding pattern_run Stops not_pattern_line AllPattern
run_once {run = run} {l = l} w =
    let starts : not_pattern_line l ≡ false = rw ((pattern_test l).1 w.of_pattern.0) in
    let behind = left_is not_pattern_line w.front ((l ∷ run) ++ w.rest) (of_no_pattern w.front w.none_before) starts in
    rw (w.written, behind) (taken_is is_pattern_line (l ∷ run) w.rest (of_all_pattern (l ∷ run) w.of_pattern) (of_run_ends w.rest w.ends))

none_left : (ls : List Line) → NoPattern ls → pattern_run ls ≡ []
unfolding pattern_run left taken NoPattern
none_left [] h = refl
none_left (l ∷ ls) h = rw ((none_exact l).1 h.0, left) (none_left ls h.1)

left_none : (ls : List Line) → pattern_run ls ≡ [] → NoPattern ls
unfolding pattern_run left taken NoPattern not_pattern_line provided◌then◌else◌
left_none [] e = tt
left_none (l ∷ ls) e =
    by_cases (is_pattern_line l)
    (λ t. nil_is_not_cons (sym (rw (t, left, taken, t) at e)))
    (λ f. ((λ p. true_is_not_false ((pattern_test l).1 p) f), left_none ls (rw (f, left) at e)))

-- A key or modifier said twice.
key_says : (l : Line) (n : ℕ) → key_said l ≡ some n → (k : KeyName) × CallsKey l k (setting_of l) × (key_place k ≡ n)
unfolding key_said
key_says l n e =
    by_kind (kind_of_line l)
    (λ k.
    let g : bind (key_name_of l) (λ j. some (key_place j)) ≡ some n = rw (k, key_said) at e in
    let a = and_then_some (key_name_of l) (λ j. some (key_place j)) g in
    let q : key_place a.0 ≡ n = cc in
    (a.0, calls_key l a.0 ((key_exact l).1 k) a.1, q))
    (λ k. none_some refl (rw (k, key_said) at e))
    (λ k. none_some refl (rw (k, key_said) at e))

said_key : {l : Line} {k : KeyName} {setting : List Byte} → CallsKey l k setting → key_said l ≡ some (key_place k)
unfolding key_said bind
said_key {l} {k} w = rw ((key_exact l).0 w.sign, key_said, (key_called w).0)

pub key_again : {before : List Line} {l : Line} {c : Complaint} → Again 4 key_said [] before l c ↔ KeyDoubled before l c
key_again {before} {l} {c} = (to, from)
  where
    to : Again 4 key_said [] before l c → KeyDoubled before l c
    to h =
        ⊎_elim
        (λ i. absurd (Memᴰ.not-nil i))
        (λ (i : (e : Line) × Memᴰ e before × (key_said e ≡ some h.what)).
        let a = key_says l h.what h.says in
        let b = key_says i.0 h.what i.2 in
        let same : b.0 ≡ a.0 = same_key b.0 a.0 (b.2 ∙ sym a.2) in
        subst (λ x. KeyDoubled before l x) (sym h.complained)
        (key_twice a.0 (setting_of i.0) (setting_of l) i.0 i.1 (subst (λ k. CallsKey i.0 k (setting_of i.0)) same b.1) a.1))
        h.earlier

    from : {c : Complaint} → KeyDoubled before l c → Again 4 key_said [] before l c
    from (key_twice k other setting e m w v) = record { what = key_place k; says = said_key v; earlier = inr (e, m, said_key w); complained = refl }

modifier_says : (l : Line) (n : ℕ) → modifier_said l ≡ some n → (k : ModifierName) × CallsModifier l k (setting_of l) × (modifier_place k ≡ n)
unfolding modifier_said
modifier_says l n e =
    by_kind (kind_of_line l)
    (λ k. none_some refl (rw (k, modifier_said) at e))
    (λ k.
    let g : bind (modifier_name_of l) (λ j. some (modifier_place j)) ≡ some n = rw (k, modifier_said) at e in
    let a = and_then_some (modifier_name_of l) (λ j. some (modifier_place j)) g in
    let q : modifier_place a.0 ≡ n = cc in
    (a.0, calls_modifier l a.0 ((modifier_exact l).1 k) a.1, q))
    (λ k. none_some refl (rw (k, modifier_said) at e))

said_modifier : {l : Line} {k : ModifierName} {setting : List Byte} → CallsModifier l k setting → modifier_said l ≡ some (modifier_place k)
unfolding modifier_said bind
said_modifier {l} {k} w = rw ((modifier_exact l).0 w.sign, modifier_said, (modifier_called w).0)

modifier_ordered : (k : ModifierName) → get_elem? (of_repeat ∷ of_cut_start ∷ of_cut_end ∷ of_before ∷ of_after ∷ []) (modifier_place k) ≡ some k
unfolding modifier_place get_elem?
modifier_ordered of_repeat = refl
modifier_ordered of_cut_start = refl
modifier_ordered of_cut_end = refl
modifier_ordered of_before = refl
modifier_ordered of_after = refl

one_modifier : (k j : ModifierName) → modifier_place k ≡ modifier_place j → k ≡ j
one_modifier k j e =
    let a = modifier_ordered k in
    let b = modifier_ordered j in
    cc

modifier_again : {before : List Line} {l : Line} {c : Complaint} → Again 8 modifier_said [] before l c ↔ ModifierDoubled before l c
modifier_again {before} {l} {c} = (to, from)
  where
    to : Again 8 modifier_said [] before l c → ModifierDoubled before l c
    to h =
        ⊎_elim
        (λ i. absurd (Memᴰ.not-nil i))
        (λ (i : (e : Line) × Memᴰ e before × (modifier_said e ≡ some h.what)).
        let a = modifier_says l h.what h.says in
        let b = modifier_says i.0 h.what i.2 in
        let same : b.0 ≡ a.0 = one_modifier b.0 a.0 (b.2 ∙ sym a.2) in
        subst (λ x. ModifierDoubled before l x) (sym h.complained)
        (modifier_twice a.0 (setting_of i.0) (setting_of l) i.0 i.1 (subst (λ k. CallsModifier i.0 k (setting_of i.0)) same b.1) a.1))
        h.earlier

    from : {c : Complaint} → ModifierDoubled before l c → Again 8 modifier_said [] before l c
    from (modifier_twice k other setting e m w v) =
        record { what = modifier_place k; says = said_modifier v; earlier = inr (e, m, said_modifier w); complained = refl }

-- A line by itself.
pub key_sign : {allowed : KeyName → Type 0} {l : Line} {c : Complaint} → KeyStops allowed l c → IsKey l
key_sign (key_unknown s h) = s
key_sign (key_not_allowed k setting w h) = w.sign
key_sign (key_setting k setting w h) = w.sign

modifier_sign : {l : Line} {c : Complaint} → ModifierStops l c → IsModifier l
modifier_sign (modifier_unknown s h) = s
modifier_sign (repeat_setting t w h) = w.sign
modifier_sign (cut_start_setting t w h) = w.sign
modifier_sign (cut_end_setting t w h) = w.sign
modifier_sign (lead_in_text t w h) = w.sign
modifier_sign (tail_text t w h) = w.sign

line_stated : (l : Line) {c : Complaint} → Memᴰ c (faults l) → KeyStops OfSection l c ⊎ ModifierStops l c
unfolding faults
line_stated l {c} m =
    by_kind (kind_of_line l)
    (λ k. inl ((key_stops_exact of_section OfSection of_section_exact l ((key_exact l).1 k)).0 (rw (k, faults) at m)))
    (λ k. inr ((modifier_stops_exact l ((modifier_exact l).1 k)).0 (rw (k, faults) at m)))
    (λ k. absurd (Memᴰ.not-nil {a = c} (rw (k, faults) at m)))

stated_key : (l : Line) {c : Complaint} → KeyStops OfSection l c → Memᴰ c (faults l)
unfolding faults
stated_key l h = rw ((key_exact l).0 (key_sign h), faults) ((key_stops_exact of_section OfSection of_section_exact l (key_sign h)).1 h)

stated_modifier : (l : Line) {c : Complaint} → ModifierStops l c → Memᴰ c (faults l)
unfolding faults
stated_modifier l h = rw ((modifier_exact l).0 (modifier_sign h), faults) ((modifier_stops_exact l (modifier_sign h)).1 h)

-- One test's complaint is stated exactly where what it asks for does not hold.
pub test_stated : {P : Type 0} (b : Bool) (number line : ℕ) → ((complain_if b number line ≡ []) ↔ P) → {c : Complaint} → Memᴰ c (complain_if b number line)
    → (P → ⊥) × (c ≡ complaint number line)
test_stated b number line p m =
    let h = in_complaint b number line m in ((λ q. true_is_not_false h.0 (complain_if_nil b number line (p.1 q))), h.1)

pub stated_test : {P : Type 0} (b : Bool) (number line : ℕ) → ((complain_if b number line ≡ []) ↔ P) → (P → ⊥)
    → Memᴰ (complaint number line) (complain_if b number line)
stated_test b number line p n = by_cases b (λ t. complaint_in number line t) (λ f. absurd (n (p.0 (nil_complain_if number line f))))

abbrev name_fails : Line → Bool
name_fails l = let n = characters (taken (λ b. not (is_byte (code "!") b)) l.text) in not (leb 1 n && leb n 50)

module _ (b : Block) where
  header_stated : {c : Complaint} → Memᴰ c (header_faults b.first) → SectionStops b c
  unfolding header_faults
  header_stated m =
      let h = test_stated (name_fails b.first) 8 b.first.number (header_exact b.first) m in subst (λ x. SectionStops b x) (sym h.1)
      (name_wrong h.0)

  stated_header : (Header b.first.text → ⊥) → Memᴰ (complaint 8 b.first.number) (header_faults b.first)
  unfolding header_faults
  stated_header n = stated_test (name_fails b.first) 8 b.first.number (header_exact b.first) n

  run_stated : (run : List Line) → pattern_run (body b) ≡ run → {c : Complaint} → Memᴰ c (pattern_faults b.first.number run) → SectionStops b c
  unfolding pattern_faults
  run_stated [] e m = subst (λ x. SectionStops b x) (sym (only_one m)) (no_pattern (body b) (from_dashes b) (split_of b) (left_none (body b) e))
  run_stated (l ∷ ls) e m =
      let h = in_complaint (not (is_some (section_text l ls))) 7 l.number m in
      let wrong = (fails_exact (is_some (section_text l ls)) (is_some_exact (section_text l ls) (text_exact l ls))).0 h.0 in
      subst (λ x. SectionStops b x) (sym h.1)
      (pattern_text_lem (body b) (from_dashes b) ls l (split_of b) (subst (λ r. FirstRun (body b) r) e (run_of (body b))) (λ p w. wrong (p, w)))

  lyrics_stated : (ls : List Line) → from_dashes b ≡ ls → {c : Complaint} → Memᴰ c (lyric_faults ls) → SectionStops b c
  unfolding lyric_faults
  lyrics_stated [] e m = absurd (Memᴰ.not-nil m)
  lyrics_stated (d ∷ ls) e m =
      let h = in_complaint (is_empty ls) 8 d.number m in
      subst (λ x. SectionStops b x) (sym h.1)
      (no_lyrics (body b) d (subst (λ x. Split b (body b) x) (e ∙ ap (λ x. d ∷ x) (is_empty_true ls h.0)) (split_of b)))

  section_stated : {c : Complaint} → Memᴰ c (section_faults b) → SectionStops b c
  unfolding section_faults
  section_stated m =
      either _
      (either _
      (either _
      (either _
      (either _
      (either (header_faults b.first) header_stated
      (λ i. let a = order_stated (body b) i in out_of_place (body b) (from_dashes b) a.before a.behind a.line (split_of b) a.written a.holds))
      (λ i. let a = twice_in 4 key_said [] (body b) i in key_doubled (body b) (from_dashes b) a.before a.behind a.line (split_of b) a.written
      (key_again.0 a.holds)))
      (λ i. let a = twice_in 8 modifier_said [] (body b) i in
      modifier_doubled (body b) (from_dashes b) a.before a.behind a.line (split_of b) a.written
      (modifier_again.0 a.holds)))
      (λ i.
      let g = in_gather faults (body b) i in
      ⊎_elim (λ h. key_stops (body b) (from_dashes b) g.0 (split_of b) g.1 h) (λ h. modifier_stops (body b) (from_dashes b) g.0 (split_of b) g.1 h)
      (line_stated g.0 g.2)))
      (λ i. run_stated (pattern_run (body b)) refl i))
      (λ i. lyrics_stated (from_dashes b) refl i)
      m

  -- Back: where it is stated, the answer complains.
  abbrev first_two : List Complaint
  first_two = header_faults b.first ++ order [] (body b)

  abbrev first_four : List Complaint
  first_four = first_two ++ twice 4 key_said [] (body b) ++ twice 8 modifier_said [] (body b)

  of_six : {c : Complaint} → Memᴰ c (first_four ++ flat_map faults (body b) ++ pattern_faults b.first.number (pattern_run (body b)))
      → Memᴰ c (section_faults b)
  unfolding section_faults
  of_six m = Memᴰ.append_left (lyric_faults (from_dashes b)) m

  of_four : {c : Complaint} → Memᴰ c first_four → Memᴰ c (section_faults b)
  of_four m = of_six (Memᴰ.append_left (pattern_faults b.first.number (pattern_run (body b))) (Memᴰ.append_left (flat_map faults (body b)) m))

  of_two : {c : Complaint} → Memᴰ c first_two → Memᴰ c (section_faults b)
  of_two m = of_four (Memᴰ.append_left (twice 8 modifier_said [] (body b)) (Memᴰ.append_left (twice 4 key_said [] (body b)) m))

  of_line : {l : Line} {c : Complaint} → Memᴰ l (body b) → Memᴰ c (faults l) → Memᴰ c (section_faults b)
  of_line m h = of_six (Memᴰ.append_left (pattern_faults b.first.number (pattern_run (body b))) (Memᴰ.append_right first_four (gather_in faults m h)))

  of_run_lem : {c : Complaint} → Memᴰ c (pattern_faults b.first.number (pattern_run (body b))) → Memᴰ c (section_faults b)
  of_run_lem m = of_six (Memᴰ.append_right (first_four ++ flat_map faults (body b)) m)

  stated_section : {c : Complaint} → SectionStops b c → Memᴰ c (section_faults b)
  unfolding section_faults pattern_faults lyric_faults is_empty
  stated_section (name_wrong n) = of_two (Memᴰ.append_left (order [] (body b)) (stated_header n))
  stated_section {c} (out_of_place x y before rest l w e h) =
      of_two
      (Memᴰ.append_right (header_faults b.first) (subst (λ z. Memᴰ c (order [] z)) (sym ((split_once w).0 ∙ e)) (stated_order before l rest h)))
  stated_section {c} (key_doubled x y before rest l w e h) =
      of_four
      (Memᴰ.append_left (twice 8 modifier_said [] (body b))
      (Memᴰ.append_right first_two
      (subst (λ z. Memᴰ c (twice 4 key_said [] z)) (sym ((split_once w).0 ∙ e)) (in_twice 4 key_said [] before l rest (key_again.1 h)))))
  stated_section {c} (modifier_doubled x y before rest l w e h) =
      of_four
      (Memᴰ.append_right (first_two ++ twice 4 key_said [] (body b))
      (subst (λ z. Memᴰ c (twice 8 modifier_said [] z)) (sym ((split_once w).0 ∙ e)) (in_twice 8 modifier_said [] before l rest (modifier_again.1 h))))
  stated_section (key_stops x y l w m h) = of_line (subst (λ z. Memᴰ l z) (sym (split_once w).0) m) (stated_key l h)
  stated_section (modifier_stops x y l w m h) = of_line (subst (λ z. Memᴰ l z) (sym (split_once w).0) m) (stated_modifier l h)
  stated_section (pattern_text_lem x y run l w r n) =
      let e : pattern_run (body b) ≡ l ∷ run = ap (λ z. pattern_run z) (split_once w).0 ∙ run_once r in
      let wrong = (fails_exact (is_some (section_text l run)) (is_some_exact (section_text l run) (text_exact l run))).1 (λ q. n q.0 q.1) in
      of_run_lem (subst (λ z. Memᴰ (complaint 7 l.number) (pattern_faults b.first.number z)) (sym e) (complaint_in 7 l.number wrong))
  stated_section (no_pattern x y w n) =
      let e : pattern_run (body b) ≡ [] = ap (λ z. pattern_run z) (split_once w).0 ∙ none_left x n in
      of_run_lem (subst (λ z. Memᴰ (complaint 8 b.first.number) (pattern_faults b.first.number z)) (sym e) (Memᴰ.head refl))
  stated_section (no_lyrics x d w) =
      Memᴰ.append_right (first_four ++ flat_map faults (body b) ++ pattern_faults b.first.number (pattern_run (body b)))
      (subst (λ z. Memᴰ (complaint 8 d.number) (lyric_faults z)) (sym (split_once w).1) (complaint_in 8 d.number refl))

  pub section_stops_exact : {c : Complaint} → Memᴰ c (section_faults b) ↔ SectionStops b c
  section_stops_exact = (section_stated, stated_section)
