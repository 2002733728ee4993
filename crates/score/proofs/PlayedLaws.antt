-- What is played of a text: items without a reference themselves, and for `$n` the words of the definition.
use Prim.Native.Nat.{ℕ, ◌+◌, ◌*◌, ◌^◌, ◌≤◌}
use mathlib.Core.Path.{◌≡◌, refl, sym, ap, ◌∙◌}
use mathlib.Core.List.{List, [], ◌∷◌}
use native.Mathlib.Omega.{arith}
use lib.ListN.{take, drop, get_or}
use lib.Seq.{get_or-drop}
use borrow.Author.Tests.{eq-eqb, ne_eqb}
use Rattle.songcode.specs.Lists.{provided◌then◌else◌}
use Rattle.songcode.specs.Song.{chord, again, silence, Sounds, only, also, Item, measure, loop, refer, Items, one, next}
use Rattle.songcode.specs.Answer.Tokens.{Token, sound, reference, closes}
use Rattle.songcode.specs.Answer.PatternText.{references_i, references}
use Rattle.songcode.proofs.WrittenBefore.{write_sounds, write_removers, write_measure, write_separator, write_item, write_items}
use Rattle.songcode.proofs.ListLaws.{append_is_nil, nil_is_not_cons}
use Rattle.tokens.specs.TokenWords.{chord_word, token_word, token_words}
use Rattle.tokens.specs.Signs.{kind_of, number_of}
use Rattle.score.specs.declared.stretches.Stretch.{Stretch}
use Rattle.score.proofs.StandingLaws.{stands_written}
use Rattle.score.specs.Places.{word_of, stretch_of, played_text}
use Rattle.score.specs.Standing.{ChordFits, ChordsFit, ItemFits, ItemsFit, Stands}
use Rattle.score.specs.Fitting.{PlainFits}

-- There is a first word, and it is no reference's.
record Begun (ws : List ℕ) : Type 0 where
  first : ℕ
  others : List ℕ
  split : ws ≡ first ∷ others
  plain : kind_of first ≡ 55 → ⊥

sounds_begin : (ss : Sounds) (k : List Token) → ChordsFit ss → Begun (token_words (write_sounds ss k))
unfolding write_sounds token_words token_word ChordsFit ChordFits
sounds_begin (only (chord c)) k h = record { first = chord_word c; others = token_words k; split = refl; plain = λ e. let z : ⊥ = omega arith in z }
sounds_begin (only again) k h = record { first = 62 * 2 ^ 26; others = token_words k; split = refl; plain = λ e. let z : ⊥ = omega arith in z }
sounds_begin (only silence) k h = record { first = 63 * 2 ^ 26; others = token_words k; split = refl; plain = λ e. let z : ⊥ = omega arith in z }
sounds_begin (also ss s) k h = sounds_begin ss (sound s ∷ k) h.0

item_begins : (i : Item) (k : List Token) → ItemFits i → references_i i ≡ [] → Begun (token_words (write_item i k))
unfolding write_item write_measure token_words token_word ItemFits references_i
item_begins (measure m) k h e = sounds_begin m.sounds (write_removers m.removers k) h
item_begins (loop r n) k h e =
    record { first = 57 * 2 ^ 26; others = token_words (write_items r (closes n ∷ k)); split = refl; plain = λ e. let z : ⊥ = omega arith in z }
item_begins (refer n) k h e = absurd (nil_is_not_cons (sym e))

items_begin : (r : Items) (k : List Token) → ItemsFit r → references r ≡ [] → Begun (token_words (write_items r k))
unfolding write_items ItemsFit references
items_begin (one i) k h e = item_begins i k h e
items_begin (next r s i) k h e = items_begin r (write_separator s (write_item i k)) h.0 (append_is_nil (references r) (references_i i) e).0

module _ (ws : List ℕ) (t : Stretch) where
  first_word : (w : ℕ) (others : List ℕ) → drop t.from (take t.to ws) ≡ w ∷ others → word_of ws t.to t.from ≡ w
  unfolding word_of
  first_word w others e =
      let z : t.from + 0 ≡ t.from = omega arith in
      let g = get_or-drop t.from (take t.to ws) 0 3623878656 in
      let h : get_or (drop t.from (take t.to ws)) 0 3623878656 ≡ get_or (take t.to ws) t.from 3623878656 = rw z at g in
      sym h ∙ ap (λ (l : List ℕ). get_or l 0 3623878656) e

  -- By the kind of its first word.
  pub by_name : (w : ℕ) → word_of ws t.to t.from ≡ w → kind_of w ≡ 55 → played_text ws t ≡ stretch_of ws (number_of w)
  unfolding played_text provided◌then◌else◌
  by_name w e k = rw (e, eq-eqb (kind_of w) 55 k)

  pub by_itself : (w : ℕ) → word_of ws t.to t.from ≡ w → (kind_of w ≡ 55 → ⊥) → played_text ws t ≡ t
  unfolding played_text provided◌then◌else◌
  by_itself w e k = rw (e, ne_eqb (kind_of w) 55 k)

  -- Items without a reference, and a name.
  pub plain_word : (r : Items) → PlainFits r → Stands ws t r → kind_of (word_of ws t.to t.from) ≡ 55 → ⊥
  plain_word r f h e =
      let b = items_begin r [] f.words f.plain in
      b.plain (ap kind_of (sym (first_word b.first b.others (stands_written ws t r h ∙ b.split))) ∙ e)

  pub named_word : (n : ℕ) → n ≤ 9999 → drop t.from (take t.to ws) ≡ token_words (reference n ∷ [])
      → (kind_of (word_of ws t.to t.from) ≡ 55) × (number_of (word_of ws t.to t.from) ≡ n)
  unfolding token_words token_word
  named_word n f h = let w = first_word (55 * 2 ^ 26 + n) [] h in (omega arith, omega arith)

  pub plain_played : (r : Items) → PlainFits r → Stands ws t r → played_text ws t ≡ t
  plain_played r f h = by_itself (word_of ws t.to t.from) refl (plain_word r f h)

  pub named_played : (n : ℕ) → n ≤ 9999 → drop t.from (take t.to ws) ≡ token_words (reference n ∷ []) → played_text ws t ≡ stretch_of ws n
  named_played n f h =
      let w = named_word n f h in
      by_name (word_of ws t.to t.from) refl w.0 ∙ ap (λ (k : ℕ). stretch_of ws k) w.1
