-- The keys and modifiers that songcode collects from lines say what the first settings of their numbers among the lines say.
use Prim.Native.Nat.{ℕ, ◌+◌, ◌<◌, ◌≤◌}
use mathlib.Core.Path.{◌≡◌, refl, sym, ap, ◌∙◌, subst}
use mathlib.Core.List.{List, [], ◌∷◌, flat_map, filter_map}
use mathlib.Core.Bool.{Bool, true, false, not}
use mathlib.Core.Option.{Option, none, some, or_else, bind}
use native.Mathlib.Omega.{arith}
use lib.Dec.{eqb}
use borrow.Author.Tests.{eq-eqb, ne_eqb, eqb-true, eqb-false, not-false}
use Rattle.songcode.specs.Lists.{provided◌then◌else◌, prepend, is_some}
use Rattle.songcode.specs.Bytes.{Byte}
use Rattle.songcode.specs.Answer.Lines.{Line}
use Rattle.songcode.specs.Song as song
use Rattle.songcode.specs.Song.{Key, Modifier}
use Rattle.songcode.specs.Answer.Keys.{key_place}
use Rattle.songcode.specs.Answer.Modifiers.{ModifierName, of_repeat, of_cut_start, of_cut_end, of_before, of_after, modifier_place, modifier_in}
use Rattle.songcode.specs.Answer.Modifiers.{setting_refusal, said_by}
use Rattle.songcode.specs.Answer.Sections.{Kind, key_line, modifier_line, pattern_line, kind_of_line, key_name_of, modifier_name_of, setting_of, key_of}
use Rattle.songcode.specs.Answer.Sections.{modifier_of}
use Rattle.songcode.specs.Answer.Sections.{key_in, modifier_on, modifier_faults_by, modifier_faults, faults}
use Rattle.songcode.specs.Complaints.{complain_if}
use Rattle.songcode.proofs.ListLaws.{append_is_nil, complain_if_nil, by_cases}
use Rattle.songcode.proofs.ChoiceLaws.{is_some_some}
use Rattle.songcode.specs.Answer.Playing as playing
use Rattle.songcode.proofs.LineAgree.{by_kind}
use Rattle.sections.specs.Slots.{slot_by, slot_of, Setting, setting_among}

by_option : {A X : Type 0} (o : Option A) → (o ≡ none → X) → ((x : A) → o ≡ some x → X) → X
by_option none f g = f refl
by_option (some x) f g = g x refl

pub key_below : (k : song.KeyName) → key_place k < 8
unfolding key_place
key_below song.name = omega arith
key_below song.artist = omega arith
key_below song.original = omega arith
key_below song.capo = omega arith
key_below song.bpm = omega arith
key_below song.time = omega arith
key_below song.warning = omega arith
key_below song.end = omega arith

pub modifier_below : (m : ModifierName) → modifier_place m < 5
unfolding modifier_place
modifier_below of_repeat = omega arith
modifier_below of_cut_start = omega arith
modifier_below of_cut_end = omega arith
modifier_below of_before = omega arith
modifier_below of_after = omega arith

module _ (l : Line) where
  abbrev key_said : song.KeyName → Key
  key_said j = record { key = j; setting = setting_of l }

  slot_of_kind : (k : Kind) (o : Option song.KeyName) (p : Option ModifierName) → kind_of_line l ≡ k → key_name_of l ≡ o → modifier_name_of l ≡ p
      → slot_of l ≡ slot_by k o p
  unfolding slot_of
  slot_of_kind k o p e f g = rw (e, f, g)

  -- A line says a key, or it says none.
  by_key : {X : Type 0} → (key_in l ≡ none → 8 ≤ slot_of l → X) → ((j : song.KeyName) → key_in l ≡ some (key_said j) → slot_of l ≡ key_place j → X) → X
  unfolding key_in key_of bind slot_by
  by_key {X} f g =
      by_kind
      (kind_of_line l)
      (λ e. by_option (key_name_of l)
      (λ n. let z = slot_of_kind key_line none (modifier_name_of l) e n refl in f (rw (e, key_in, n)) (omega arith))
      (λ j n. g j (rw (e, key_in, n)) (slot_of_kind key_line (some j) (modifier_name_of l) e n refl)))
      (λ e. by_option (modifier_name_of l)
      (λ n. let z = slot_of_kind modifier_line (key_name_of l) none e refl n in f (rw (e, key_in)) (omega arith))
      (λ m n. let z = slot_of_kind modifier_line (key_name_of l) (some m) e refl n in f (rw (e, key_in)) (omega arith)))
      (λ e. let z = slot_of_kind pattern_line (key_name_of l) (modifier_name_of l) e refl refl in f (rw (e, key_in)) (omega arith))

  unfaulted : {m : ModifierName} → kind_of_line l ≡ modifier_line → modifier_name_of l ≡ some m → faults l ≡ []
      → is_some (modifier_in m l.number (setting_of l)) ≡ true
  unfolding faults modifier_faults modifier_faults_by
  unfaulted {m} e n h =
      let z : faults l ≡ complain_if (not (is_some (modifier_in m l.number (setting_of l)))) (setting_refusal m) l.number = rw (e, faults, n) in
      not-false _ (complain_if_nil _ _ _ (sym z ∙ h))

  -- A line says a modifier, or it says none.
  by_modifier : {X : Type 0} → (modifier_on l ≡ none → ((m : ModifierName) → slot_of l ≡ 8 + modifier_place m → ⊥) → X)
      → ((m : ModifierName) → modifier_on l ≡ modifier_in m l.number (setting_of l) → slot_of l ≡ 8 + modifier_place m
      → (faults l ≡ [] → is_some (modifier_in m l.number (setting_of l)) ≡ true) → X) → X
  unfolding modifier_on modifier_of bind slot_by
  by_modifier {X} f g =
      by_kind
      (kind_of_line l)
      (λ e. by_option (key_name_of l)
      (λ n. let z = slot_of_kind key_line none (modifier_name_of l) e n refl in f (rw (e, modifier_on)) (λ m h. let b = modifier_below m in omega arith))
      (λ j n. let z = slot_of_kind key_line (some j) (modifier_name_of l) e n refl in f (rw (e, modifier_on)) (λ m h. let b = key_below j in omega arith)))
      (λ e. by_option (modifier_name_of l)
      (λ n. let z = slot_of_kind modifier_line (key_name_of l) none e refl n in f (rw (e, modifier_on, n)) (λ m h. let b = modifier_below m in omega arith))
      (λ m n. g m (rw (e, modifier_on, n)) (slot_of_kind modifier_line (key_name_of l) (some m) e refl n) (unfaulted e n)))
      (λ e. let z = slot_of_kind pattern_line (key_name_of l) (modifier_name_of l) e refl refl in f (rw (e, modifier_on))
      (λ m h. let b = modifier_below m in omega arith))

  pub slot_pattern_line : kind_of_line l ≡ pattern_line → slot_of l ≡ 13
  unfolding slot_by
  slot_pattern_line e = slot_of_kind pattern_line (key_name_of l) (modifier_name_of l) e refl refl

  pub key_line_no_modifier : kind_of_line l ≡ key_line → (m : ModifierName) → slot_of l ≡ 8 + modifier_place m → ⊥
  unfolding slot_by
  key_line_no_modifier e m h =
      let b = modifier_below m in
      by_option
      (key_name_of l)
      (λ n. let z = slot_of_kind key_line none (modifier_name_of l) e n refl in omega arith)
      (λ j n. let z = slot_of_kind key_line (some j) (modifier_name_of l) e n refl in
      let d = key_below j in omega arith)

  pub modifier_line_no_key : kind_of_line l ≡ modifier_line → (k : song.KeyName) → slot_of l ≡ key_place k → ⊥
  unfolding slot_by
  modifier_line_no_key e k h =
      let b = key_below k in
      by_option
      (modifier_name_of l)
      (λ n. let z = slot_of_kind modifier_line (key_name_of l) none e refl n in omega arith)
      (λ j n. let z = slot_of_kind modifier_line (key_name_of l) (some j) e refl n in omega arith)

-- The first setting of a key.
pub key_among : {B : Type 0} (f : List Byte → Option B) (k : song.KeyName) (ls : List Line)
    → bind (playing.setting_named k (filter_map key_in ls)) f ≡ bind (setting_among (key_place k) ls) (λ x. f x.text)
unfolding bind playing.setting_named filter_map prepend setting_among provided◌then◌else◌
key_among f k [] = refl
key_among f k (l ∷ ls) =
    by_key
    l
    (λ e h. let b = key_below k in rw (e, ne_eqb (slot_of l) (key_place k) (λ z. omega arith)) (key_among f k ls))
    (λ j e h. by_cases (eqb (key_place j) (key_place k)) (λ t. rw (e, h, t)) (λ t. rw (e, h, t) (key_among f k ls)))

-- What a modifier says, and what its setting says: both are there for a name of this place, and nothing is said for another.
unfoldable pub Told : {B : Type 0} → Bool → Option B → Option B → Type 0
Told {B} true o p = (z : B) × (o ≡ some z) × (p ≡ some z)
Told false o p = o ≡ none

abbrev pub Tells : {B : Type 0} → ModifierName → (Modifier → Option B) → (Setting → Option B) → Type 0
Tells m g said = (j : ModifierName) (n : ℕ) (bs : List Byte) (y : Modifier) → modifier_in j n bs ≡ some y
    → Told (eqb (modifier_place j) (modifier_place m)) (g y) (said (record { line = n; text = bs }))

-- The first setting of a modifier, where no line is faulted.
module _ {B : Type 0} (m : ModifierName) (g : Modifier → Option B) (said : Setting → Option B) (tells : Tells m g said) where
  module _ (l : Line) (ls : List Line) {y : Modifier} {k : ℕ} (e : modifier_on l ≡ some y) (h : slot_of l ≡ k) where
    said_here : {z : B} → k ≡ 8 + modifier_place m → g y ≡ some z → said (record { line = l.number; text = setting_of l }) ≡ some z
        → said_by g (filter_map modifier_on (l ∷ ls)) ≡ bind (setting_among (8 + modifier_place m) (l ∷ ls)) said
    unfolding bind said_by filter_map prepend or_else setting_among provided◌then◌else◌
    said_here i p q = rw (e, h, eq-eqb k (8 + modifier_place m) i, p) (sym q)

    not_here : (k ≡ 8 + modifier_place m → ⊥) → g y ≡ none → said_by g (filter_map modifier_on ls) ≡ bind (setting_among (8 + modifier_place m) ls) said
        → said_by g (filter_map modifier_on (l ∷ ls)) ≡ bind (setting_among (8 + modifier_place m) (l ∷ ls)) said
    unfolding bind said_by filter_map prepend or_else setting_among provided◌then◌else◌
    not_here i p rest = rw (e, h, ne_eqb k (8 + modifier_place m) i, p) rest

  pub modifier_among : (ls : List Line) → flat_map faults ls ≡ [] → said_by g (filter_map modifier_on ls) ≡ bind (setting_among (8 + modifier_place m) ls) said
  unfolding flat_map bind said_by filter_map prepend setting_among provided◌then◌else◌ Told
  modifier_among [] clean = refl
  modifier_among (l ∷ ls) clean =
      let split = append_is_nil (faults l) (flat_map faults ls) clean in
      let rest = modifier_among ls split.1 in
      by_modifier
      l
      (λ e h. rw (e, ne_eqb (slot_of l) (8 + modifier_place m) (h m)) rest)
      (λ j e h there.
      let y = is_some_some (modifier_in j l.number (setting_of l)) (there split.0) in
      let x : Setting = record { line = l.number; text = setting_of l } in
      let told : (b : Bool) → eqb (modifier_place j) (modifier_place m) ≡ b
      → Told b (g y.0) (said x) = λ b t. subst (λ (b : Bool). Told b (g y.0) (said x)) t (tells j l.number (setting_of l) y.0 y.1)
      in
      by_cases
      (eqb (modifier_place j) (modifier_place m))
      (λ t. said_here l ls (e ∙ y.1) h (ap (λ (k : ℕ). 8 + k) (eqb-true (modifier_place j) (modifier_place m) t)) (told true t).1 (told true t).2)
      (λ t. let differ = eqb-false (modifier_place j) (modifier_place m) t in not_here l ls (e ∙ y.1) h (λ z. differ (omega arith)) (told false t) rest))
