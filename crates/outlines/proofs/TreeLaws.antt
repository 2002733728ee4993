-- The words of written items lead from state to state as the items do, where their loops are no deeper than there is room for numbers.
use Prim.Native.Nat.{ℕ, zero, suc, ◌+◌, ◌-◌, ◌*◌, ◌/◌, ◌%◌, ◌^◌, ◌<◌, ◌≤◌}
use mathlib.Core.Path.{◌≡◌, refl, ap, ◌∙◌}
use mathlib.Core.List.{List, ◌∷◌}
use native.Mathlib.Omega.{arith}
use borrow.Author.Tests.{ne_eqb, lt-ltb}
use lib.Dec.{eqb}
use lib.ListN.{length, get_or, set, length-set}
use lib.Seq.{get_or-set_same, get_or-set_other}
use Rattle.songcode.specs.Lists.{provided◌then◌else◌}
use Rattle.songcode.specs.Song.{Sound, chord, again, silence, Sounds, only, also, nothing, a_line_end, Separator, by_semicolon}
use Rattle.songcode.specs.Song.{by_line_end, by_colon, Item, measure, loop, refer, Items, one, next}
use Rattle.songcode.specs.Answer.Tokens.{Token, sound, remover, reference, opens, closes}
use Rattle.songcode.specs.Answer.PatternText.{depth_i, depth}
use Rattle.songcode.proofs.WrittenBefore.{write_sounds, write_removers, write_measure, write_beside, write_separator, write_item, write_items}
use Rattle.songcode.proofs.ListLaws.{by_cases}
use Rattle.tokens.specs.TokenWords.{chord_word, token_word, token_words}
use Rattle.tokens.specs.Signs.{kind_of, is_position}
use Rattle.score.specs.Standing.{ChordFits, ChordsFit, ItemFits, ItemsFit}
use Rattle.outlines.specs.declared.readings.Outline.{Outline}
use Rattle.outlines.specs.declared.readings.Reading.{Reading}
use Rattle.outlines.specs.Readings.{sounded, measured, closed, opened, loop_shut, referred, Nested, nested, entered, left, step_of, word_read, words_read}
use Rattle.tokens.proofs.KindLaws.{chord_kind}

-- What each part of a pattern makes of a state; a measure is left open behind its last position.
unfoldable pub heard_in : Sound → Reading → Reading
unfolding sounded token_word
heard_in x s = sounded (kind_of (token_word (sound x))) s

unfoldable pub heard_all : Sounds → Reading → Reading
unfolding heard_in
heard_all (only x) s = heard_in x s
heard_all (also xs x) s = heard_in x (heard_all xs s)

unfoldable pub removed : ℕ → Reading → Reading
unfolding sounded
removed zero s = s
removed (suc n) s = sounded 61 (removed n s)

unfoldable mutual
  unfolding heard_all removed opened closed loop_shut referred

  pub after_item : (ℕ → Outline) → Item → Reading → Reading
  after_item find (measure m) s = removed m.removers (heard_all m.sounds s)
  after_item find (loop r n) s = loop_shut n s.count (closed (after find r (opened s)))
  after_item find (refer n) s = referred (find n) s

  pub after : (ℕ → Outline) → Items → Reading → Reading
  after find (one i) s = after_item find i s
  after find (next r t i) s = after_item find i (closed (after find r s))

-- Behind an item the level is that before it.
pub closed_level : (s : Reading) → (closed s).level ≡ s.level
unfolding closed measured provided◌then◌else◌
closed_level s = by_cases (eqb s.positions 0) (λ e. rw e) (λ e. rw e)

all_level : (xs : Sounds) (s : Reading) → (heard_all xs s).level ≡ s.level
unfolding heard_all heard_in sounded
all_level (only x) s = refl
all_level (also xs x) s = all_level xs s

removed_level : (n : ℕ) (s : Reading) → (removed n s).level ≡ s.level
unfolding removed sounded
removed_level zero s = refl
removed_level (suc n) s = removed_level n s

module _ (find : ℕ → Outline) where
  mutual
    unfolding after after_item depth depth_i loop_shut opened referred

    pub item_level : (i : Item) (s : Reading) → s.level + depth_i i ≤ 7 → (after_item find i s).level ≡ s.level
    item_level (measure m) s d = removed_level m.removers (heard_all m.sounds s) ∙ all_level m.sounds s
    item_level (loop r n) s d =
        let e = closed_level (after find r (opened s)) ∙ items_level r (opened s) (omega arith) in
        rw e (omega arith)
    item_level (refer n) s d = refl

    pub items_level : (r : Items) (s : Reading) → s.level + depth r ≤ 7 → (after find r s).level ≡ s.level
    items_level (one i) s d = item_level i s d
    items_level (next r t i) s d =
        let e = closed_level (after find r s) ∙ items_level r s (omega arith) in
        item_level i (closed (after find r s)) (rw e (omega arith)) ∙ e

read_sound : (find : ℕ → Outline) (x : Sound) (s : Reading) (a : List ℕ) → ChordFits x
    → word_read find (nested s a) (token_word (sound x)) ≡ nested (heard_in x s) a
unfolding word_read step_of is_position provided◌then◌else◌ heard_in token_word ChordFits
read_sound find (chord c) s a h =
    let k = chord_kind (chord_word c) h in
    let x = ne_eqb (kind_of (chord_word c)) 55 (λ z. omega arith) in
    let y = lt-ltb (kind_of (chord_word c)) 34 k in
    rw (x, y)
read_sound find again s a h = refl
read_sound find silence s a h = refl

read_closes : (find : ℕ → Outline) (n : ℕ) (h : Nested) → n < 67108864 → word_read find h (token_word (closes n)) ≡ left n h
unfolding word_read step_of is_position provided◌then◌else◌ token_word
read_closes find n h l =
    let a : (56 * 2 ^ 26 + n) / 67108864 ≡ 56 = omega arith in
    let b : (56 * 2 ^ 26 + n) % 67108864 ≡ n = omega arith in
    rw (a, b)

read_refers : (find : ℕ → Outline) (n : ℕ) (s : Reading) (a : List ℕ) → n < 67108864
    → word_read find (nested s a) (token_word (reference n)) ≡ nested (referred (find n) s) a
unfolding word_read provided◌then◌else◌ token_word
read_refers find n s a h =
    let x : (55 * 2 ^ 26 + n) / 67108864 ≡ 55 = omega arith in
    let y : (55 * 2 ^ 26 + n) % 67108864 ≡ n = omega arith in
    rw (x, y)

-- A measure ends once.
pub closed_closed : (s : Reading) → closed (closed s) ≡ closed s
unfolding closed measured provided◌then◌else◌
closed_closed s = by_cases (eqb s.positions 0) (λ e. rw (e, e)) (λ e. rw e)

sounds_read : (find : ℕ → Outline) (xs : Sounds) (s : Reading) (a : List ℕ) (k : List Token) → ChordsFit xs
    → words_read find (nested s a) (token_words (write_sounds xs k)) ≡ words_read find (nested (heard_all xs s) a) (token_words k)
unfolding write_sounds token_words words_read heard_all ChordsFit
sounds_read find (only x) s a k h = ap (λ (t : Nested). words_read find t (token_words k)) (read_sound find x s a h)
sounds_read find (also xs x) s a k h =
    sounds_read find xs s a (sound x ∷ k) h.0 ∙ ap (λ (t : Nested). words_read find t (token_words k)) (read_sound find x (heard_all xs s) a h.1)

removers_read : (find : ℕ → Outline) (n : ℕ) (s : Reading) (a : List ℕ) (k : List Token)
    → words_read find (nested s a) (token_words (write_removers n k)) ≡ words_read find (nested (removed n s) a) (token_words k)
unfolding write_removers token_words token_word words_read word_read step_of is_position provided◌then◌else◌ removed
removers_read find zero s a k = refl
removers_read find (suc n) s a k = removers_read find n s a (remover ∷ k)

separator_read : (find : ℕ → Outline) (t : Separator) (s : Reading) (a : List ℕ) (k : List Token)
    → words_read find (nested s a) (token_words (write_separator t k)) ≡ words_read find (nested (closed s) a) (token_words k)
unfolding write_separator write_beside token_words token_word words_read word_read step_of is_position provided◌then◌else◌
separator_read find by_semicolon s a k = refl
separator_read find by_line_end s a k = refl
separator_read find (by_colon nothing nothing) s a k = refl
separator_read find (by_colon nothing a_line_end) s a k = ap (λ (t : Reading). words_read find (nested t a) (token_words k)) (closed_closed s)
separator_read find (by_colon a_line_end nothing) s a k = ap (λ (t : Reading). words_read find (nested t a) (token_words k)) (closed_closed s)
separator_read find (by_colon a_line_end a_line_end) s a k =
    ap (λ (t : Reading). words_read find (nested t a) (token_words k)) (ap closed (closed_closed s) ∙ closed_closed s)

opens_read : (find : ℕ → Outline) (s : Reading) (a : List ℕ) (k : List Token)
    → words_read find (nested s a) (token_words (opens ∷ k)) ≡ words_read find (nested (opened s) (set a s.level s.count)) (token_words k)
unfolding token_words token_word words_read word_read step_of is_position provided◌then◌else◌ entered
opens_read find s a k = refl

-- A closing bracket takes back what was kept for the row around its loop.
closes_read : (find : ℕ → Outline) (n c : ℕ) (s : Reading) (a : List ℕ) (k : List Token) → n < 67108864 → get_or a (s.level - 1) 0 ≡ c
    → words_read find (nested s a) (token_words (closes n ∷ k)) ≡ words_read find (nested (loop_shut n c (closed s)) a) (token_words k)
unfolding token_words words_read left
closes_read find n c s a k h e =
    ap (λ (t : Nested). words_read find t (token_words k)) (read_closes find n (nested s a) h)
    ∙ ap (λ (x : ℕ). words_read find (nested (loop_shut n x (closed s)) a) (token_words k)) e

-- Some words are read, and the numbers of the rows around stay.
pub record Leads (find : ℕ → Outline) (s : Reading) (a : List ℕ) (ts : List Token) (t : Reading) (ks : List Token) : Type 0 where
  pub numbers : List ℕ
  pub size : length numbers ≡ length a
  pub stay : (l : ℕ) → l < s.level → get_or numbers l 0 ≡ get_or a l 0
  pub read : words_read find (nested s a) (token_words ts) ≡ words_read find (nested t numbers) (token_words ks)

module _ (find : ℕ → Outline) where
  one_up : (s : Reading) → s.level + 1 ≤ 7 → (opened s).level ≡ s.level + 1
  unfolding opened
  one_up s h = omega arith

  inside : (r : Items) (s : Reading) (a : List ℕ) → s.level + suc (depth r) ≤ length a
      → (opened s).level + depth r ≤ length (set a s.level s.count)
  unfolding opened
  inside r s a room = rw (length-set a s.level s.count) (omega arith)

  refers_read : (n : ℕ) (s : Reading) (a : List ℕ) (k : List Token) → n < 67108864
      → words_read find (nested s a) (token_words (reference n ∷ k)) ≡ words_read find (nested (referred (find n) s) a) (token_words k)
  unfolding token_words words_read
  refers_read n s a k h = ap (λ (t : Nested). words_read find t (token_words k)) (read_refers find n s a h)

  -- What is read inside a loop, with its two brackets.
  loop_read : (r : Items) (n : ℕ) (s : Reading) (a : List ℕ) (k : List Token) → n < 67108864 → s.level + suc (depth r) ≤ length a → length a ≤ 7
      → Leads find (opened s) (set a s.level s.count) (write_items r (closes n ∷ k)) (after find r (opened s)) (closes n ∷ k)
      → Leads find s a (write_item (loop r n) k) (after_item find (loop r n) s) k
  unfolding write_item after_item
  loop_read r n s a k h room few w =
      let b = set a s.level s.count in
      let inside = after find r (opened s) in
      let up = one_up s (omega arith) in
      let same : inside.level - 1 ≡ s.level = rw (items_level find r (opened s) (rw up (omega arith)), up) (omega arith) in
      let back : get_or w.numbers (inside.level - 1) 0 ≡ s.count =
      rw same (w.stay s.level (rw up (omega arith)) ∙ get_or-set_same a s.level s.count 0 (omega arith)) in
      record {
        numbers = w.numbers;
        size = w.size ∙ length-set a s.level s.count;
        stay = λ l g. w.stay l (rw up (omega arith)) ∙ get_or-set_other a s.level l s.count 0 (λ z. omega arith);
        read = opens_read find s a (write_items r (closes n ∷ k)) ∙ w.read ∙ closes_read find n s.count inside w.numbers k h back;
      }

  mutual
    unfolding write_item write_items write_measure after after_item depth depth_i ItemFits ItemsFit

    item_read : (i : Item) (s : Reading) (a : List ℕ) (k : List Token) → ItemFits i → s.level + depth_i i ≤ length a → length a ≤ 7
        → Leads find s a (write_item i k) (after_item find i s) k
    item_read (measure m) s a k h room few =
        record {
          numbers = a;
          size = refl;
          stay = λ l g. refl;
          read =
              sounds_read find m.sounds s a (write_removers m.removers k) h
              ∙ removers_read find m.removers (heard_all m.sounds s) a k;
        }
    item_read (loop r n) s a k h room few =
        loop_read r n s a k h.1 room few
        (items_read r (opened s) (set a s.level s.count) (closes n ∷ k) h.2 (inside r s a room) (rw (length-set a s.level s.count) few))
    item_read (refer n) s a k h room few =
        record { numbers = a; size = refl; stay = λ l g. refl; read = refers_read n s a k h }

    pub items_read : (r : Items) (s : Reading) (a : List ℕ) (k : List Token) → ItemsFit r → s.level + depth r ≤ length a → length a ≤ 7
        → Leads find s a (write_items r k) (after find r s) k
    items_read (one i) s a k h room few = item_read i s a k h room few
    items_read (next r t i) s a k h room few =
        let w = items_read r s a (write_separator t (write_item i k)) h.0 (omega arith) few in
        let c = closed (after find r s) in
        let e = closed_level (after find r s) ∙ items_level find r s (omega arith) in
        let v = item_read i c w.numbers k h.1 (rw (e, w.size) (omega arith)) (rw w.size few) in
        record {
          numbers = v.numbers;
          size = v.size ∙ w.size;
          stay = λ l g. v.stay l (rw e g) ∙ w.stay l g;
          read = w.read ∙ separator_read find t (after find r s) w.numbers (write_item i k) ∙ v.read;
        }
