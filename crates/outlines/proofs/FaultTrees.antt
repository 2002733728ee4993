-- The words of written items lead from faults to faults as the items' references do.
use Prim.Native.Nat.{ℕ, zero, suc, ◌+◌, ◌-◌, ◌*◌, ◌/◌, ◌%◌, ◌^◌, ◌<◌}
use mathlib.Core.Path.{◌≡◌, refl, sym, ap, ◌∙◌}
use mathlib.Core.List.{List, ◌∷◌}
use mathlib.Core.Bool.{Bool, ◌||◌}
use native.Mathlib.Omega.{arith}
use borrow.Author.Tests.{ne_eqb}
use Rattle.songcode.specs.Lists.{provided◌then◌else◌, any}
use Rattle.songcode.specs.Song.{Sound, chord, again, silence, Sounds, only, also, nothing, a_line_end, Separator, by_semicolon, by_line_end}
use Rattle.songcode.specs.Song.{by_colon, Item, measure, loop, refer, Items, one, next}
use Rattle.songcode.specs.Answer.Tokens.{Token, sound, remover, reference, opens, closes}
use Rattle.songcode.specs.Answer.PatternText.{references_i, references}
use Rattle.songcode.proofs.WrittenBefore.{write_sounds, write_removers, write_measure, write_beside, write_separator, write_item, write_items}
use Rattle.songcode.proofs.ListLaws.{any_append}
use Rattle.tokens.specs.TokenWords.{chord_word, token_word, token_words}
use Rattle.tokens.specs.Signs.{kind_of}
use Rattle.score.specs.Standing.{ChordFits, ChordsFit, ItemFits, ItemsFit}
use Rattle.outlines.specs.declared.readings.Outline.{Outline}
use Rattle.outlines.specs.declared.faults.Faults.{Faults}
use Rattle.outlines.specs.Readings.{inner_level}
use Rattle.outlines.specs.Faults.{reference_read, bracket_read, faults_read, all_faults}
use Rattle.outlines.proofs.ChordLaws.{or_false, or_assoc}

abbrev at_level : ℕ → Faults → Faults
at_level l g = record { level = l; missing = g.missing; deep = g.deep }

-- Into a loop, and out of it.
abbrev pub sunk : Faults → Faults
sunk g = at_level (inner_level g.level) g

abbrev pub risen : Faults → Faults
risen g = at_level (g.level - 1) g

module _ (missing : ℕ → Bool) (find : ℕ → Outline) where
  unfoldable mutual
    unfolding reference_read

    pub fault_item : Item → Faults → Faults
    fault_item (measure m) g = g
    fault_item (loop r n) g = risen (fault_items r (sunk g))
    fault_item (refer n) g = reference_read (missing n) (find n) g

    pub fault_items : Items → Faults → Faults
    fault_items (one i) g = fault_item i g
    fault_items (next r t i) g = fault_item i (fault_items r g)

  sound_fault : (x : Sound) (g : Faults) → ChordFits x → faults_read missing find g (token_word (sound x)) ≡ g
  unfolding faults_read bracket_read provided◌then◌else◌ token_word ChordFits
  sound_fault (chord c) g h =
      let k : kind_of (chord_word c) < 34 = omega arith in
      rw (
        ne_eqb (kind_of (chord_word c)) 55 (λ z. omega arith),
        ne_eqb (kind_of (chord_word c)) 57 (λ z. omega arith),
        ne_eqb (kind_of (chord_word c)) 56
            (λ z. omega arith),
      )
  sound_fault again g h = refl
  sound_fault silence g h = refl

  closes_fault : (n : ℕ) (g : Faults) → n < 67108864 → faults_read missing find g (token_word (closes n)) ≡ risen g
  unfolding faults_read bracket_read provided◌then◌else◌ token_word
  closes_fault n g h = let a : (56 * 2 ^ 26 + n) / 67108864 ≡ 56 = omega arith in rw a

  refer_fault : (n : ℕ) (g : Faults) → n < 67108864 → faults_read missing find g (token_word (reference n)) ≡ reference_read (missing n) (find n) g
  unfolding faults_read provided◌then◌else◌ token_word
  refer_fault n g h =
      let a : (55 * 2 ^ 26 + n) / 67108864 ≡ 55 = omega arith in
      let b : (55 * 2 ^ 26 + n) % 67108864 ≡ n = omega arith in
      rw (a, b)

  sounds_fault : (xs : Sounds) (g : Faults) (k : List Token) → ChordsFit xs
      → all_faults missing find g (token_words (write_sounds xs k)) ≡ all_faults missing find g (token_words k)
  unfolding write_sounds token_words all_faults ChordsFit
  sounds_fault (only x) g k h = ap (λ (t : Faults). all_faults missing find t (token_words k)) (sound_fault x g h)
  sounds_fault (also xs x) g k h = sounds_fault xs g (sound x ∷ k) h.0
      ∙ ap (λ (t : Faults). all_faults missing find t (token_words k)) (sound_fault x g h.1)

  removers_fault : (n : ℕ) (g : Faults) (k : List Token)
      → all_faults missing find g (token_words (write_removers n k)) ≡ all_faults missing find g (token_words k)
  unfolding write_removers token_words token_word all_faults faults_read bracket_read provided◌then◌else◌
  removers_fault zero g k = refl
  removers_fault (suc n) g k = removers_fault n g (remover ∷ k)

  separator_fault : (t : Separator) (g : Faults) (k : List Token) → all_faults missing find g (token_words (write_separator t k)) ≡ all_faults missing
      find g (token_words k)
  unfolding write_separator write_beside token_words token_word all_faults faults_read bracket_read provided◌then◌else◌
  separator_fault by_semicolon g k = refl
  separator_fault by_line_end g k = refl
  separator_fault (by_colon nothing nothing) g k = refl
  separator_fault (by_colon nothing a_line_end) g k = refl
  separator_fault (by_colon a_line_end nothing) g k = refl
  separator_fault (by_colon a_line_end a_line_end) g k = refl

  opens_fault : (g : Faults) (k : List Token) → all_faults missing find g (token_words (opens ∷ k)) ≡ all_faults missing find (sunk g) (token_words k)
  unfolding token_words token_word all_faults faults_read bracket_read provided◌then◌else◌
  opens_fault g k = refl

  mutual
    unfolding write_item write_items write_measure token_words all_faults fault_item fault_items ItemFits ItemsFit

    item_fault : (i : Item) (g : Faults) (k : List Token) → ItemFits i
        → all_faults missing find g (token_words (write_item i k)) ≡ all_faults missing find (fault_item i g) (token_words k)
    item_fault (measure m) g k h = sounds_fault m.sounds g (write_removers m.removers k) h ∙ removers_fault m.removers g k
    item_fault (loop r n) g k h =
        opens_fault g (write_items r (closes n ∷ k))
        ∙ items_fault_lem r (sunk g) (closes n ∷ k) h.2
        ∙ ap (λ (t : Faults). all_faults missing find t (token_words k)) (closes_fault n (fault_items r (sunk g)) h.1)
    item_fault (refer n) g k h = ap (λ (t : Faults). all_faults missing find t (token_words k)) (refer_fault n g h)

    pub items_fault_lem : (r : Items) (g : Faults) (k : List Token) → ItemsFit r
        → all_faults missing find g (token_words (write_items r k)) ≡ all_faults missing find (fault_items r g) (token_words k)
    items_fault_lem (one i) g k h = item_fault i g k h
    items_fault_lem (next r t i) g k h =
        items_fault_lem r g (write_separator t (write_item i k)) h.0
        ∙ separator_fault t (fault_items r g) (write_item i k)
        ∙ item_fault i (fault_items r g) k h.1

  -- A reference to no definition.
  mutual
    unfolding fault_item fault_items reference_read references references_i any

    item_missing : (i : Item) (g : Faults) → (fault_item i g).missing ≡ (g.missing || any missing (references_i i))
    item_missing (measure m) g = sym (or_false g.missing)
    item_missing (loop r n) g = items_missing r (sunk g)
    item_missing (refer n) g = ap (λ b. g.missing || b) (sym (or_false (missing n)))

    pub items_missing : (r : Items) (g : Faults) → (fault_items r g).missing ≡ (g.missing || any missing (references r))
    items_missing (one i) g = item_missing i g
    items_missing (next r t i) g =
        item_missing i (fault_items r g)
        ∙ ap (λ b. b || any missing (references_i i)) (items_missing r g)
        ∙ or_assoc g.missing (any missing (references r)) (any missing (references_i i))
        ∙ ap (λ b. g.missing || b) (sym (any_append missing (references r) (references_i i)))
