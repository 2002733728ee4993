-- What the modifiers of a section say together: each kind stands once, so what is looked up is what stands there.
use Prim.Native.Nat.{ℕ}
use mathlib.Core.Path.{◌≡◌, refl, ap, sym, subst, ◌∙◌}
use mathlib.Core.Logic.{◌↔◌, ⊎_elim}
use mathlib.Core.List.Memᴰ
use mathlib.Core.List.{List, [], ◌∷◌, map, Memᴰ}
use mathlib.Core.Option.{Option, none, some, or_else}
use Rattle.songcode.specs.Song.{Cut, Modifier, repeated, cut_start, cut_end, before, after, Side, Modifiers}
use Rattle.songcode.specs.Answer.Modifiers.{repeat_said, cut_start_said, cut_end_said, before_said, after_said, said_by, modifiers_said}
use Rattle.songcode.specs.Description.WrittenSection.{Distinct, modifier_number, Together}
use Rattle.songcode.proofs.PatternLaws.{none_some}
use Rattle.songcode.proofs.ReferenceStops.{absent_member}

-- One kind of modifier: how it is made and looked for.
abbrev SaidOnce : {B : Type 0} → (Modifier → Option B) → (B → Modifier) → Type 0
SaidOnce {B} f make = (ms : List Modifier) → Distinct (map modifier_number ms) → (y : B) → (said_by f ms ≡ some y) ↔ Memᴰ (make y) ms

module _ {B : Type 0} (f : Modifier → Option B) (make : B → Modifier) (k : ℕ) (is : (y : B) → f (make y) ≡ some y)
    (numbered : (y : B) → modifier_number (make y) ≡ k) (only : (m : Modifier) (y : B) → f m ≡ some y → m ≡ make y) where
  member_of : (ms : List Modifier) (y : B) → said_by f ms ≡ some y → Memᴰ (make y) ms
  unfolding said_by
  member_of [] y e = none_some refl e
  member_of (m ∷ ms) y e = go (f m) refl e (member_of ms y)
    where
      go : (o : Option B) → f m ≡ o → or_else o (said_by f ms) ≡ some y → (said_by f ms ≡ some y → Memᴰ (make y) ms) → Memᴰ (make y) (m ∷ ms)
      go none p h r = Memᴰ.tail (r h)
      go (some z) p h r = let q : z ≡ y = cc in Memᴰ.head (sym (only m y (p ∙ ap (λ w. some w) q)))

  said_of : (ms : List Modifier) (y : B) → Distinct (map modifier_number ms) → Memᴰ (make y) ms → said_by f ms ≡ some y
  unfolding said_by or_else Distinct
  said_of [] y d m = absurd (Memᴰ.not-nil m)
  said_of (x ∷ ms) y d m =
      ⊎_elim
      (λ e. let p : f x ≡ some y = ap f (sym e) ∙ is y in rw p)
      (λ i. go (f x) refl
      (λ e. absent_member (modifier_number x) k (map modifier_number ms) d.0
      (subst (λ n. Memᴰ n (map modifier_number ms)) (numbered y) (Memᴰ.map modifier_number i)) e) (said_of ms y d.1 i))
      (Memᴰ.cases_cons m)
    where
      go : (o : Option B) → f x ≡ o → (modifier_number x ≡ k → ⊥) → said_by f ms ≡ some y → or_else (f x) (said_by f ms) ≡ some y
      go none p h r = rw p r
      go (some z) p h r = absurd (h (ap (λ w. modifier_number w) (only x z p) ∙ numbered z))

  once : SaidOnce f make
  once ms d y = (member_of ms y, said_of ms y d)

-- The five kinds.
only_repeat : (m : Modifier) (n : ℕ) → repeat_said m ≡ some n → m ≡ repeated n
unfolding repeat_said
only_repeat (repeated k) n e = cc
only_repeat (cut_start c) n e = none_some refl e
only_repeat (cut_end c) n e = none_some refl e
only_repeat (before l r) n e = none_some refl e
only_repeat (after l r) n e = none_some refl e

repeat_said_lem : SaidOnce repeat_said repeated
unfolding repeat_said modifier_number
repeat_said_lem = once repeat_said repeated 0 (λ y. refl) (λ y. refl) only_repeat

only_cut_start : (m : Modifier) (c : Cut) → cut_start_said m ≡ some c → m ≡ cut_start c
unfolding cut_start_said
only_cut_start (repeated k) c e = none_some refl e
only_cut_start (cut_start d) c e = cc
only_cut_start (cut_end d) c e = none_some refl e
only_cut_start (before l r) c e = none_some refl e
only_cut_start (after l r) c e = none_some refl e

cut_start_said_lem : SaidOnce cut_start_said cut_start
unfolding cut_start_said modifier_number
cut_start_said_lem = once cut_start_said cut_start 1 (λ y. refl) (λ y. refl) only_cut_start

only_cut_end : (m : Modifier) (c : Cut) → cut_end_said m ≡ some c → m ≡ cut_end c
unfolding cut_end_said
only_cut_end (repeated k) c e = none_some refl e
only_cut_end (cut_start d) c e = none_some refl e
only_cut_end (cut_end d) c e = cc
only_cut_end (before l r) c e = none_some refl e
only_cut_end (after l r) c e = none_some refl e

cut_end_said_lem : SaidOnce cut_end_said cut_end
unfolding cut_end_said modifier_number
cut_end_said_lem = once cut_end_said cut_end 2 (λ y. refl) (λ y. refl) only_cut_end

only_lead_in : (m : Modifier) (x : Side) → before_said m ≡ some x → m ≡ before x.line x.items
unfolding before_said
only_lead_in (repeated k) x e = none_some refl e
only_lead_in (cut_start d) x e = none_some refl e
only_lead_in (cut_end d) x e = none_some refl e
only_lead_in (before l r) x e = let h : record { line = l; items = r } ≡ x = cc in ap (λ z. before z.line z.items) h
only_lead_in (after l r) x e = none_some refl e

lead_in_said : SaidOnce before_said (λ x. before x.line x.items)
unfolding before_said modifier_number
lead_in_said = once before_said (λ x. before x.line x.items) 3 (λ y. refl) (λ y. refl) only_lead_in

only_tail : (m : Modifier) (x : Side) → after_said m ≡ some x → m ≡ after x.line x.items
unfolding after_said
only_tail (repeated k) x e = none_some refl e
only_tail (cut_start d) x e = none_some refl e
only_tail (cut_end d) x e = none_some refl e
only_tail (before l r) x e = none_some refl e
only_tail (after l r) x e = let h : record { line = l; items = r } ≡ x = cc in ap (λ z. after z.line z.items) h

tail_said_lem : SaidOnce after_said (λ x. after x.line x.items)
unfolding after_said modifier_number
tail_said_lem = once after_said (λ x. after x.line x.items) 4 (λ y. refl) (λ y. refl) only_tail

-- What is looked up among the modifiers of a section is what they say together, and they say nothing else.
pub said_together : (ms : List Modifier) → Distinct (map modifier_number ms) → Together ms (modifiers_said ms)
unfolding modifiers_said
said_together ms d =
    record {
      repeat = repeat_said_lem ms d;
      cut_start = cut_start_said_lem ms d;
      cut_end = cut_end_said_lem ms d;
      before = lead_in_said ms d;
      after =
          tail_said_lem ms d;
    }

alike : {A : Type 0} {P : A → Type 0} (o p : Option A) → ((y : A) → (o ≡ some y) ↔ P y) → ((y : A) → (p ≡ some y) ↔ P y) → o ≡ p
alike none none f g = refl
alike none (some y) f g = (f y).1 ((g y).0 refl)
alike (some x) p f g = sym ((g x).1 ((f x).0 refl))

same_modifiers : {r s : Option ℕ} {f g b c : Option Cut} {l m t u : Option Side} → r ≡ s → f ≡ g → b ≡ c → l ≡ m → t ≡ u
    → ◌≡◌ {A = Modifiers} (record { repeat = r; cut_start = f; cut_end = b; before = l; after = t })
    (record { repeat = s; cut_start = g; cut_end = c; before = m; after = u })
same_modifiers i j k n o = cc

pub together_once : (ms : List Modifier) (m : Modifiers) → Distinct (map modifier_number ms) → Together ms m → modifiers_said ms ≡ m
together_once ms m d t =
    let s = said_together ms d in
    same_modifiers
    (alike _ _ s.repeat t.repeat)
    (alike _ _ s.cut_start t.cut_start)
    (alike _ _ s.cut_end t.cut_end)
    (alike _ _ s.before t.before)
    (alike _ _ s.after t.after)
