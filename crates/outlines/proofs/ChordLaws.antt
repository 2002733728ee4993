-- The chords of items, and `%` before every chord, as the state tells them.
use Prim.Native.Nat.{ℕ, zero, suc}
use mathlib.Core.Path.{◌≡◌, refl, sym, ap, ◌∙◌}
use mathlib.Core.Bool.{Bool, true, false, ◌||◌, ◌&&◌, not, or-true}
use mathlib.Core.Option.{Option, none}
use native.Mathlib.Omega.{arith}
use borrow.Author.Tests.{ne_eqb, lt-ltb}
use lib.Dec.{eqb}
use Rattle.songcode.specs.Lists.{provided◌then◌else◌, is_some}
use Rattle.songcode.specs.Answer.Chords.{Chord}
use Rattle.songcode.specs.Song.{Sound, chord, again, silence, Sounds, only, also, Separator, Item, measure, loop, refer, Items, one, next}
use Rattle.songcode.specs.Answer.PatternText.{references_i, references}
use Rattle.songcode.specs.Answer.References.{glue, put_in_item, put_in}
use Rattle.songcode.specs.Answer.Playing.{chord_after, last_sounds, last_item, last_items}
use Rattle.songcode.specs.Answer.Meter.{strays, stray_among, stray_item, stray}
use Rattle.songcode.proofs.ListLaws.{by_cases, Each, append_each}
use Rattle.tokens.specs.TokenWords.{chord_word, token_word}
use Rattle.tokens.specs.Signs.{kind_of}
use Rattle.score.specs.Standing.{ChordFits, ChordsFit, ItemFits, ItemsFit}
use Rattle.songcode.proofs.GlueLaws.{last_glue}
use Rattle.outlines.specs.declared.readings.Outline.{Outline}
use Rattle.outlines.specs.declared.readings.Reading.{Reading}
use Rattle.outlines.specs.Readings.{sounded, measured, closed, opened, loop_shut, referred}
use Rattle.outlines.specs.Told.{Told}
use Rattle.outlines.proofs.TreeLaws.{heard_in, heard_all, removed, after_item, after}
use Rattle.tokens.proofs.KindLaws.{chord_kind}

pub or_false : (a : Bool) → (a || false) ≡ a
or_false true = refl
or_false false = refl

pub or_assoc : (a b c : Bool) → ((a || b) || c) ≡ (a || (b || c))
or_assoc true b c = refl
or_assoc false b c = refl

-- Wanted before (w), or by the first part (a) with no chord before it (c), or by the second (b) with none in the first (d) either.
wants_sum : (w c a b d : Bool) → ((w || (a && not c)) || (b && not (c || d))) ≡ (w || ((a || (b && not d)) && not c))
wants_sum true c a b d = refl
wants_sum false true true true d = refl
wants_sum false true true false d = refl
wants_sum false true false true true = refl
wants_sum false true false true false = refl
wants_sum false true false false d = refl
wants_sum false false true b d = refl
wants_sum false false false false d = refl
wants_sum false false false true true = refl
wants_sum false false false true false = refl

-- What songcode says behind any chord.
some_or : (o : Option Chord) → is_some o ≡ (is_some o || false)
some_or o = sym (or_false (is_some o))

sounds_last : (last : Option Chord) (xs : Sounds) → is_some (last_sounds last xs) ≡ (is_some last || is_some (last_sounds none xs))
unfolding last_sounds chord_after is_some
sounds_last last (only (chord c)) = sym (or-true (is_some last))
sounds_last last (only again) = some_or last
sounds_last last (only silence) = some_or last
sounds_last last (also xs (chord c)) = sym (or-true (is_some last))
sounds_last last (also xs again) = sounds_last last xs
sounds_last last (also xs silence) = sounds_last last xs

mutual
  unfolding last_item last_items is_some

  item_last : (last : Option Chord) (i : Item) → is_some (last_item last i) ≡ (is_some last || is_some (last_item none i))
  item_last last (measure m) = sounds_last last m.sounds
  item_last last (loop r n) = items_last last r
  item_last last (refer n) = some_or last

  items_last : (last : Option Chord) (r : Items) → is_some (last_items last r) ≡ (is_some last || is_some (last_items none r))
  items_last last (one i) = item_last last i
  items_last last (next r t i) =
      item_last (last_items last r) i
      ∙ ap (λ b. b || is_some (last_item none i)) (items_last last r)
      ∙ or_assoc (is_some last) (is_some (last_items none r)) (is_some (last_item none i))
      ∙ ap (λ b. is_some last || b) (sym (item_last (last_items none r) i))

sounds_stray : (last : Option Chord) (xs : Sounds) → stray_among last xs ≡ (stray_among none xs && not (is_some last))
unfolding stray_among strays is_some
sounds_stray last (only (chord c)) = refl
sounds_stray last (only again) = refl
sounds_stray last (only silence) = refl
sounds_stray last (also xs (chord c)) = or_false (stray_among last xs) ∙ sounds_stray last xs
    ∙ ap (λ b. b && not (is_some last)) (sym (or_false (stray_among none xs)))
sounds_stray last (also xs again) =
    ap (λ b. b || not (is_some (last_sounds last xs))) (sounds_stray last xs)
    ∙ ap (λ b. (stray_among none xs && not (is_some last)) || not b) (sounds_last last xs)
    ∙ wants_sum false (is_some last) (stray_among none xs) true (is_some (last_sounds none xs))
sounds_stray last (also xs silence) = or_false (stray_among last xs) ∙ sounds_stray last xs
    ∙ ap (λ b. b && not (is_some last)) (sym (or_false (stray_among none xs)))

mutual
  unfolding stray_item stray last_item last_items

  item_stray : (last : Option Chord) (i : Item) → stray_item last i ≡ (stray_item none i && not (is_some last))
  item_stray last (measure m) = sounds_stray last m.sounds
  item_stray last (loop r n) = items_stray last r
  item_stray last (refer n) = refl

  items_stray : (last : Option Chord) (r : Items) → stray last r ≡ (stray none r && not (is_some last))
  items_stray last (one i) = item_stray last i
  items_stray last (next r t i) =
      ap (λ b. b || stray_item (last_items last r) i) (items_stray last r)
      ∙ ap (λ b. (stray none r && not (is_some last)) || b) (item_stray (last_items last r) i ∙ ap (λ b. stray_item none i && not b) (items_last last r))
      ∙ wants_sum false (is_some last) (stray none r) (stray_item none i) (is_some (last_items none r))
      ∙ ap (λ b. (stray none r || b) && not (is_some last)) (sym (item_stray (last_items none r) i))

stray_glue : (last : Option Chord) (r : Items) (t : Separator) (q : Items) → stray last (glue r t q) ≡ (stray last r || stray (last_items last r) q)
unfolding glue stray last_items
stray_glue last r t (one i) = refl
stray_glue last r t (next q u i) =
    ap (λ b. b || stray_item (last_items last (glue r t q)) i) (stray_glue last r t q)
    ∙ ap (λ o. (stray last r || stray (last_items last r) q) || stray_item o i) (last_glue last r t q)
    ∙ or_assoc (stray last r) (stray (last_items last r) q) (stray_item (last_items (last_items last r) q) i)

-- The end of a measure says nothing of chords.
pub closed_chord : (s : Reading) → (closed s).chord ≡ s.chord
unfolding closed measured provided◌then◌else◌
closed_chord s = by_cases (eqb s.positions 0) (λ e. rw e) (λ e. rw e)

pub closed_wants : (s : Reading) → (closed s).wants ≡ s.wants
unfolding closed measured provided◌then◌else◌
closed_wants s = by_cases (eqb s.positions 0) (λ e. rw e) (λ e. rw e)

removed_chord : (n : ℕ) (s : Reading) → (removed n s).chord ≡ s.chord
unfolding removed sounded
removed_chord zero s = refl
removed_chord (suc n) s = or_false (removed n s).chord ∙ removed_chord n s

removed_wants : (n : ℕ) (s : Reading) → (removed n s).wants ≡ s.wants
unfolding removed sounded
removed_wants zero s = refl
removed_wants (suc n) s = or_false (removed n s).wants ∙ removed_wants n s

heard_chord : (last : Option Chord) (x : Sound) (s : Reading) (b : Bool) → ChordFits x → s.chord ≡ (b || is_some last)
    → (heard_in x s).chord ≡ (b || is_some (chord_after last x))
unfolding heard_in sounded token_word chord_after is_some ChordFits
heard_chord last (chord c) s b h e = rw (lt-ltb (kind_of (chord_word c)) 34 (chord_kind (chord_word c) h)) (or-true s.chord ∙ sym (or-true b))
heard_chord last again s b h e = or_false s.chord ∙ e
heard_chord last silence s b h e = or_false s.chord ∙ e

heard_wants : (last : Option Chord) (x : Sound) (s : Reading) (w c a : Bool) → ChordFits x → s.chord ≡ (c || is_some last)
    → s.wants ≡ (w || (a && not c)) → (heard_in x s).wants ≡ (w || ((a || strays last x) && not c))
unfolding heard_in sounded token_word strays ChordFits
heard_wants last (chord k) s w c a h e f =
    let l = chord_kind (chord_word k) h in
    let n = ne_eqb (kind_of (chord_word k)) 62 (λ z. omega arith) in
    rw (n, f) (wants_sum w c a false (is_some last))
heard_wants last again s w c a h e f = rw (e, f) (wants_sum w c a true (is_some last))
heard_wants last silence s w c a h e f = rw f (wants_sum w c a false (is_some last))

all_chord : (xs : Sounds) (s : Reading) → ChordsFit xs → (heard_all xs s).chord ≡ (s.chord || is_some (last_sounds none xs))
unfolding heard_all last_sounds ChordsFit is_some
all_chord (only x) s h = heard_chord none x s s.chord h (sym (or_false s.chord))
all_chord (also xs x) s h = heard_chord (last_sounds none xs) x (heard_all xs s) s.chord h.1 (all_chord xs s h.0)

all_wants : (xs : Sounds) (s : Reading) → ChordsFit xs → (heard_all xs s).wants ≡ (s.wants || (stray_among none xs && not s.chord))
unfolding heard_all stray_among ChordsFit is_some
all_wants (only x) s h = heard_wants none x s s.wants s.chord false h (sym (or_false s.chord)) (sym (or_false s.wants))
all_wants (also xs x) s h = heard_wants (last_sounds none xs) x (heard_all xs s) s.wants s.chord (stray_among none xs) h.1
    (all_chord xs s h.0) (all_wants xs s h.0)

module _ (find : ℕ → Outline) (f : ℕ → Option Items) where
  mutual
    unfolding after after_item put_in put_in_item references_i references Each ItemFits ItemsFit last_item last_items loop_shut opened referred Told

    item_chord : (i : Item) (s : Reading) → ItemFits i → Each (Told find f) (references_i i)
        → (after_item find i s).chord ≡ (s.chord || is_some (last_items none (put_in_item f i)))
    item_chord (measure m) s h t = removed_chord m.removers (heard_all m.sounds s) ∙ all_chord m.sounds s h
    item_chord (loop r n) s h t = closed_chord (after find r (opened s)) ∙ items_chord r (opened s) h.2 t
    item_chord (refer n) s h t = ap (λ b. s.chord || b) t.0.chord

    pub items_chord : (r : Items) (s : Reading) → ItemsFit r → Each (Told find f) (references r)
        → (after find r s).chord ≡ (s.chord || is_some (last_items none (put_in f r)))
    items_chord (one i) s h t = item_chord i s h t
    items_chord (next r u i) s h t =
        let g = append_each (Told find f) (references r) (references_i i) t in
        item_chord i (closed (after find r s)) h.1 g.1
        ∙ ap (λ b. b || is_some (last_items none (put_in_item f i))) (closed_chord (after find r s) ∙ items_chord r s h.0 g.0)
        ∙ or_assoc s.chord (is_some (last_items none (put_in f r))) (is_some (last_items none (put_in_item f i)))
        ∙ ap (λ b. s.chord || b)
        (sym (ap is_some (last_glue none (put_in f r) u (put_in_item f i)) ∙ items_last (last_items none (put_in f r)) (put_in_item f i)))

  mutual
    unfolding after after_item put_in put_in_item references_i references Each ItemFits ItemsFit stray stray_item loop_shut opened referred Told

    item_wants : (i : Item) (s : Reading) → ItemFits i → Each (Told find f) (references_i i)
        → (after_item find i s).wants ≡ (s.wants || (stray none (put_in_item f i) && not s.chord))
    item_wants (measure m) s h t = removed_wants m.removers (heard_all m.sounds s) ∙ all_wants m.sounds s h
    item_wants (loop r n) s h t = closed_wants (after find r (opened s)) ∙ items_wants r (opened s) h.2 t
    item_wants (refer n) s h t = ap (λ b. s.wants || (b && not s.chord)) t.0.wants

    pub items_wants : (r : Items) (s : Reading) → ItemsFit r → Each (Told find f) (references r)
        → (after find r s).wants ≡ (s.wants || (stray none (put_in f r) && not s.chord))
    items_wants (one i) s h t = item_wants i s h t
    items_wants (next r u i) s h t =
        let g = append_each (Told find f) (references r) (references_i i) t in
        let q = put_in_item f i in
        item_wants i (closed (after find r s)) h.1 g.1
        ∙ ap (λ b. b || (stray none q && not (closed (after find r s)).chord)) (closed_wants (after find r s) ∙ items_wants r s h.0 g.0)
        ∙ ap (λ b. (s.wants || (stray none (put_in f r) && not s.chord)) || (stray none q && not b))
        (closed_chord (after find r s) ∙ items_chord r s h.0 g.0)
        ∙ wants_sum s.wants s.chord (stray none (put_in f r)) (stray none q) (is_some (last_items none (put_in f r)))
        ∙ ap (λ b. s.wants || ((stray none (put_in f r) || b) && not s.chord)) (sym (items_stray (last_items none (put_in f r)) q))
        ∙ ap (λ b. s.wants || (b && not s.chord)) (sym (stray_glue none (put_in f r) u q))
