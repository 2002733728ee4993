-- What stops a key or modifier line by itself is stated exactly where the answer complains of it.
use Prim.Native.Nat.{ℕ}
use Prim.Native.Char.{code}
use mathlib.Core.Path.{◌≡◌, refl, sym, subst, ◌∙◌}
use mathlib.Core.Logic.{◌↔◌}
use mathlib.Core.List.Memᴰ
use mathlib.Core.List.{List, [], ◌∷◌, ◌++◌, Memᴰ}
use mathlib.Core.Bool.{Bool, true, false, ◌&&◌, not}
use mathlib.Core.Option.{Option, none, some, bind}
use borrow.Author.Tests.{eqb-true, not-true}
use Rattle.songcode.specs.Lists.{provided◌then◌else◌, taken, left, is_some}
use Rattle.songcode.specs.Bytes.{Byte, is_byte, is_blank, not_blank, is_letter}
use Rattle.songcode.specs.Answer.Lines.{Line}
use Rattle.songcode.specs.Answer.Numbers.{repeat_in}
use Rattle.songcode.specs.Complaints.{Complaint, complaint, complain_if}
use Rattle.songcode.specs.Song.{KeyName, repeated, cut_start, cut_end, before, after}
use Rattle.songcode.specs.Answer.Keys.{name_in, setting_in, is_setting}
use Rattle.songcode.specs.Answer.Modifiers.{ModifierName, of_repeat, of_cut_start, of_cut_end, of_before, of_after, cut_in, modifier_in, setting_refusal}
use Rattle.songcode.specs.Answer.PatternText.{side_text}
use Rattle.songcode.specs.Answer.Sections.{key_line, modifier_line, pattern_line, kind_of, kind_of_line, behind_first, name_of, setting_of, key_name_of}
use Rattle.songcode.specs.Answer.Sections.{key_faults_by}
use Rattle.songcode.specs.Answer.Sections.{key_faults, modifier_name_of, modifier_faults_by, modifier_faults}
use Rattle.songcode.specs.Description.WrittenSong.{BeginsWith}
use Rattle.songcode.specs.Description.StoppedText.{UnderLetter, IsKey, IsModifier, IsPattern, Worded, CallsKey, modifier_word, CallsModifier, KeyStops}
use Rattle.songcode.specs.Description.StoppedText.{key_unknown}
use Rattle.songcode.specs.Description.StoppedText.{key_not_allowed, key_setting, ModifierStops, modifier_unknown, repeat_setting, cut_start_setting}
use Rattle.songcode.specs.Description.StoppedText.{cut_end_setting, lead_in_text, tail_text}
use Rattle.songcode.proofs.ListLaws.{by_cases, true_is_not_false, both_pass, taken_left, taken_all, left_stops, taken_is, left_is}
use Rattle.songcode.proofs.PatternLaws.{none_some}
use Rattle.songcode.proofs.ChoiceLaws.{zero_is_not_one, second_chosen, is_some_exact}
use Rattle.songcode.proofs.MemberLaws.{either, only_one, in_complaint, complaint_in}
use Rattle.songcode.proofs.NumbersAgree.{repeat_exact}
use Rattle.songcode.proofs.SettingAgree.{cut_exact, setting_exact}
use Rattle.songcode.proofs.SideAgree.{side_exact}
use Rattle.songcode.proofs.LineAgree.{by_kind, kinds_differ, at_key, key_at}
use Rattle.songcode.proofs.KeyAgree.{key_spelled, spelled_key}
use Rattle.songcode.proofs.ModifierAgree.{spelling, modifier_spelled, spelled_modifier}

-- Kinds of lines.
under_letter : (bs : List Byte) → UnderLetter bs → kind_of bs ≡ modifier_line
unfolding kind_of UnderLetter is_byte provided◌then◌else◌
under_letter [] w = absurd w
under_letter (b ∷ []) w = absurd w
under_letter (b ∷ c ∷ bs) w = rw (w.0, w.1)

letter_under : (bs : List Byte) → kind_of bs ≡ modifier_line → UnderLetter bs
unfolding kind_of UnderLetter is_byte provided◌then◌else◌
letter_under [] e = zero_is_not_one (cc)
letter_under (b ∷ []) e = true_is_not_false (second_chosen kinds_differ (is_byte (code "@") b) false e) refl
letter_under (b ∷ c ∷ bs) e =
    let h = both_pass (is_byte (code "_") b) (is_letter c) (second_chosen kinds_differ (is_byte (code "@") b) (is_byte (code "_") b && is_letter c) e) in
    (eqb-true b.value (code "_") h.0, h.1)

pub key_exact : (l : Line) → IsKey l ↔ (kind_of_line l ≡ key_line)
unfolding kind_of_line
key_exact l = (at_key l.text, key_at l.text)

pub modifier_exact : (l : Line) → IsModifier l ↔ (kind_of_line l ≡ modifier_line)
unfolding kind_of_line
modifier_exact l = (under_letter l.text, letter_under l.text)

pub pattern_exact : (l : Line) → IsPattern l ↔ (kind_of_line l ≡ pattern_line)
pattern_exact l = (
  (λ w. by_kind (kind_of_line l) (λ k. absurd (w.0 ((key_exact l).1 k))) (λ k. absurd (w.1 ((modifier_exact l).1 k))) (λ k. k)),
  (λ e. (
    (λ k. let f = (key_exact l).0 k in zero_is_not_one (cc)),
    (λ k. let f = (modifier_exact l).0 k in zero_is_not_one (cc)),
  )),
)

-- A line's name and setting, in one way only.
worded_at : (l : Line) (b : Byte) (bs : List Byte) → l.text ≡ b ∷ bs → Worded l (taken not_blank bs) (left is_blank (left not_blank bs))
worded_at l b bs e =
    record {
      first = b;
      gap = taken is_blank (left not_blank bs);
      written = e ∙ rw (taken_left is_blank (left not_blank bs), taken_left not_blank bs);
      word = taken_all not_blank bs;
      blanks = taken_all is_blank (left not_blank bs);
      ends = rw (taken_left is_blank (left not_blank bs)) (left_stops not_blank bs);
      solid = left_stops is_blank (left not_blank bs);
    }

worded_of : (l : Line) (b : Byte) (bs : List Byte) → l.text ≡ b ∷ bs → Worded l (name_of l) (setting_of l)
unfolding name_of setting_of name_in setting_in behind_first
worded_of l b bs e =
    subst (λ t. Worded l (taken not_blank (behind_first t)) (left is_blank (left not_blank (behind_first t)))) (sym e) (worded_at l b bs e)

pub worded_once : {l : Line} {name setting : List Byte} → Worded l name setting → (name_of l ≡ name) × (setting_of l ≡ setting)
unfolding name_of setting_of name_in setting_in behind_first
worded_once {name = name} {setting = setting} w = (
  rw (w.written, taken_is not_blank name (w.gap ++ setting) w.word w.ends),
  rw (w.written, left_is not_blank name (w.gap ++ setting) w.word w.ends, left_is is_blank w.gap setting w.blanks w.solid),
)

begun : (sign : ℕ) (bs : List Byte) → BeginsWith sign bs → (b : Byte) × (rest : List Byte) × (bs ≡ b ∷ rest)
unfolding BeginsWith
begun sign [] s = absurd s
begun sign (b ∷ bs) s = (b, bs, refl)

lettered : (bs : List Byte) → UnderLetter bs → (b : Byte) × (rest : List Byte) × (bs ≡ b ∷ rest)
unfolding UnderLetter
lettered [] s = absurd s
lettered (b ∷ []) s = absurd s
lettered (b ∷ c ∷ bs) s = (b, c ∷ bs, refl)

pub calls_key : (l : Line) (k : KeyName) → IsKey l → key_name_of l ≡ some k → CallsKey l k (setting_of l)
unfolding key_name_of
calls_key l k s e =
    let t = begun (code "@") l.text s in
    record { name = name_of l; sign = s; worded = worded_of l t.0 t.1 t.2; spelled = spelled_key (name_of l) k e }

pub key_called : {l : Line} {k : KeyName} {setting : List Byte} → CallsKey l k setting → (key_name_of l ≡ some k) × (setting_of l ≡ setting)
unfolding key_name_of
key_called {k = k} w = let o = worded_once w.worded in (rw o.0 (key_spelled w.name k w.spelled), o.1)

word_spelling : (m : ModifierName) → modifier_word m ≡ spelling m
unfolding modifier_word spelling
word_spelling of_repeat = refl
word_spelling of_cut_start = refl
word_spelling of_cut_end = refl
word_spelling of_before = refl
word_spelling of_after = refl

pub calls_modifier : (l : Line) (m : ModifierName) → IsModifier l → modifier_name_of l ≡ some m → CallsModifier l m (setting_of l)
unfolding modifier_name_of
calls_modifier l m s e =
    let t = lettered l.text s in
    record { name = name_of l; sign = s; worded = worded_of l t.0 t.1 t.2; spelled = spelled_modifier (name_of l) m e ∙ sym (word_spelling m) }

pub modifier_called : {l : Line} {m : ModifierName} {setting : List Byte} → CallsModifier l m setting → (modifier_name_of l ≡ some m) × (setting_of l ≡ setting)
unfolding modifier_name_of
modifier_called {m = m} w =
    let o = worded_once w.worded in (rw o.0 (modifier_spelled w.name m (w.spelled ∙ word_spelling m)), o.1)

-- Complained of where what is asked for does not hold.
pub fails_exact : {P : Type 0} (b : Bool) → ((b ≡ true) ↔ P) → (not b ≡ true) ↔ (P → ⊥)
fails_exact b p = (
  (λ e h. true_is_not_false (p.1 h) (not-true b e)),
  (λ n. by_cases b (λ t. absurd (n (p.0 t))) (λ f. rw f)),
)

-- Keys.
module _ (test : KeyName → Bool) (allowed : KeyName → Type 0) (agree : (k : KeyName) → (test k ≡ true) ↔ allowed k) (l : Line) where
  key_stated : IsKey l → (o : Option KeyName) → key_name_of l ≡ o → {c : Complaint} → Memᴰ c (key_faults_by test o l) → KeyStops allowed l c
  unfolding key_faults_by
  key_stated s none e {c} m =
      subst (λ x. KeyStops allowed l x) (sym (only_one m)) (key_unknown s (λ k t w. none_some e (key_called w).0))
  key_stated s (some k) e {c} m =
      either (complain_if (not (test k)) 4 l.number)
      (λ i.
      let h = in_complaint (not (test k)) 4 l.number i in
      subst (λ x. KeyStops allowed l x) (sym h.1) (key_not_allowed k (setting_of l) (calls_key l k s e) ((fails_exact (test k) (agree k)).0 h.0)))
      (λ i.
      let h = in_complaint (not (is_setting k (setting_of l))) 5 l.number i in
      subst (λ x. KeyStops allowed l x) (sym h.1)
      (key_setting k (setting_of l) (calls_key l k s e) ((fails_exact _ (setting_exact k (setting_of l))).0 h.0)))
      m

  stated_key : {c : Complaint} → KeyStops allowed l c → Memᴰ c (key_faults test l)
  unfolding key_faults key_faults_by
  stated_key (key_unknown s h) = go (key_name_of l) refl
    where
      go : (o : Option KeyName) → key_name_of l ≡ o → Memᴰ (complaint 4 l.number) (key_faults_by test o l)
      go none e = Memᴰ.head refl
      go (some k) e = absurd (h k (setting_of l) (calls_key l k s e))
  stated_key (key_not_allowed k setting w h) =
      rw (key_called w).0 (Memᴰ.append_left _ (complaint_in 4 l.number ((fails_exact (test k) (agree k)).1 h)))
  stated_key (key_setting k setting w h) =
      rw (key_called w).0
      (Memᴰ.append_right (complain_if (not (test k)) 4 l.number)
      (complaint_in 5 l.number ((fails_exact _ (setting_exact k (setting_of l))).1 (rw (key_called w).1 h))))

  pub key_stops_exact : IsKey l → {c : Complaint} → Memᴰ c (key_faults test l) ↔ KeyStops allowed l c
  unfolding key_faults
  key_stops_exact s = (key_stated s (key_name_of l) refl, stated_key)

-- Modifiers.
then_some : {A B : Type 0} (f : A → B) (o : Option A) → is_some (bind o (λ x. some (f x))) ≡ is_some o
unfolding bind is_some
then_some f none = refl
then_some f (some x) = refl

unread_exact : {A B : Type 0} {P : A → Type 0} (f : A → B) (o : Option A) → ((x : A) → (o ≡ some x) ↔ P x)
    → (not (is_some (bind o (λ x. some (f x)))) ≡ true) ↔ ((x : A) → P x → ⊥)
unread_exact f o p =
    rw (then_some f o)
    ((λ e x h. (fails_exact (is_some o) (is_some_exact o p)).0 e (x, h)), (λ n. (fails_exact (is_some o) (is_some_exact o p)).1 (λ h. n h.0 h.1)))

module _ (l : Line) where
  modifier_stated : IsModifier l → (o : Option ModifierName) → modifier_name_of l ≡ o → {c : Complaint} → Memᴰ c (modifier_faults_by o l) → ModifierStops l c
  unfolding modifier_faults_by modifier_in setting_refusal
  modifier_stated s none e m = subst (λ x. ModifierStops l x) (sym (only_one m)) (modifier_unknown s (λ k t w. none_some e (modifier_called w).0))
  modifier_stated s (some of_repeat) e m =
      let h = in_complaint _ 5 l.number m in
      subst (λ x. ModifierStops l x) (sym h.1)
      (repeat_setting (setting_of l) (calls_modifier l of_repeat s e) ((unread_exact repeated (repeat_in (setting_of l)) (repeat_exact (setting_of l))).0 h.0))
  modifier_stated s (some of_cut_start) e m =
      let h = in_complaint _ 5 l.number m in
      subst (λ x. ModifierStops l x) (sym h.1)
      (cut_start_setting (setting_of l) (calls_modifier l of_cut_start s e) ((unread_exact cut_start (cut_in (setting_of l)) (cut_exact (setting_of l))).0 h.0))
  modifier_stated s (some of_cut_end) e m =
      let h = in_complaint _ 5 l.number m in
      subst (λ x. ModifierStops l x) (sym h.1)
      (cut_end_setting (setting_of l) (calls_modifier l of_cut_end s e) ((unread_exact cut_end (cut_in (setting_of l)) (cut_exact (setting_of l))).0 h.0))
  modifier_stated s (some of_before) e m =
      let h = in_complaint _ 7 l.number m in
      subst (λ x. ModifierStops l x) (sym h.1)
      (lead_in_text (setting_of l) (calls_modifier l of_before s e)
      ((unread_exact (before l.number) (side_text (setting_of l)) (side_exact (setting_of l))).0 h.0))
  modifier_stated s (some of_after) e m =
      let h = in_complaint _ 7 l.number m in
      subst (λ x. ModifierStops l x) (sym h.1)
      (tail_text (setting_of l) (calls_modifier l of_after s e) ((unread_exact (after l.number) (side_text (setting_of l)) (side_exact (setting_of l))).0 h.0))

  stated_modifier : {c : Complaint} → ModifierStops l c → Memᴰ c (modifier_faults l)
  unfolding modifier_faults modifier_faults_by modifier_in setting_refusal
  stated_modifier (modifier_unknown s h) = go (modifier_name_of l) refl
    where
      go : (o : Option ModifierName) → modifier_name_of l ≡ o → Memᴰ (complaint 8 l.number) (modifier_faults_by o l)
      go none e = Memᴰ.head refl
      go (some k) e = absurd (h k (setting_of l) (calls_modifier l k s e))
  stated_modifier (repeat_setting setting w h) =
      rw ((modifier_called w).0, (modifier_called w).1) (complaint_in 5 l.number ((unread_exact repeated (repeat_in setting) (repeat_exact setting)).1 h))
  stated_modifier (cut_start_setting setting w h) =
      rw ((modifier_called w).0, (modifier_called w).1) (complaint_in 5 l.number ((unread_exact cut_start (cut_in setting) (cut_exact setting)).1 h))
  stated_modifier (cut_end_setting setting w h) =
      rw ((modifier_called w).0, (modifier_called w).1) (complaint_in 5 l.number ((unread_exact cut_end (cut_in setting) (cut_exact setting)).1 h))
  stated_modifier (lead_in_text setting w h) =
      rw ((modifier_called w).0, (modifier_called w).1)
      (complaint_in 7 l.number ((unread_exact (before l.number) (side_text setting) (side_exact setting)).1 h))
  stated_modifier (tail_text setting w h) =
      rw ((modifier_called w).0, (modifier_called w).1)
      (complaint_in 7 l.number ((unread_exact (after l.number) (side_text setting) (side_exact setting)).1 h))

  pub modifier_stops_exact : IsModifier l → {c : Complaint} → Memᴰ c (modifier_faults l) ↔ ModifierStops l c
  unfolding modifier_faults
  modifier_stops_exact s = (modifier_stated s (modifier_name_of l) refl, stated_modifier)
