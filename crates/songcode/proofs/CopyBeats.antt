-- The measures and beats of a copy are the original's: their words differ in heads and in where the letters stand.
use Prim.Native.Nat.{ℕ, suc, ◌+◌, ◌*◌, ◌^◌, ◌<◌, ◌≤◌}
use mathlib.Core.Path.{◌≡◌, refl, ap, sym, ◌∙◌}
use mathlib.Core.List.{List, [], ◌∷◌, ◌++◌, map, map-append, flat_map}
use mathlib.Core.Bool.{Bool, true, false}
use mathlib.Core.Option.{Option, none, some}
use native.Mathlib.Omega.{arith}
use lib.ListN.{length, replicate}
use Rattle.songcode.specs.Bytes.{Byte, placed, values}
use Rattle.songcode.specs.Answer.Chords.{Chord}
use Rattle.songcode.specs.Song.{Beat}
use Rattle.songcode.specs.Answer.Tables.{offset, measure_words, head_bit, beat_by, beat_word}
use Rattle.songcode.specs.Description.WrittenSection.{Each, none_each, and_each}
use Rattle.songcode.specs.Answer.Flat.{letters_of, flat_measure}
use Rattle.songcode.specs.FlatDemands.{Within}
use Rattle.songcode.specs.Description.Layout.{field, without}
use Rattle.songcode.specs.Description.WrittenFlat.{stretch_at}
use Rattle.songcode.proofs.ByteLaws.{values_placed}
use Rattle.songcode.proofs.EachLaws.{each_length}
use Rattle.songcode.proofs.Alike.{length_alike}
use Rattle.songcode.proofs.Stretches.{stretch_of_lem, stands_within}
use Rattle.songcode.proofs.ChordsPlayed.{OfIf, OfAll, OfRow}
use Rattle.songcode.proofs.SpeltChords.{Known}
use Rattle.songcode.proofs.CopyLines.{behind}
use Rattle.songcode.proofs.CopyMeasure.{chord_at, heard_at, heads_at, measure_heads}
use Rattle.songcode.proofs.CopyPattern.{row_heads}
use Rattle.songcode.proofs.CopyWords.{bit_small, beat_offset, beat_length_lem, beat_head, beat_without}

-- What sounds on a beat of the copy and on the beat that it copies.
unfoldable pub AlikeSound : Option Chord → Option Chord → Type 0
AlikeSound none none = Unit {0}
AlikeSound none (some c) = ⊥
AlikeSound (some d) none = ⊥
AlikeSound (some d) (some c) = (d.base ≡ c.base) × (values d.extension ≡ values c.extension)

pub record AlikeBeat (c b : Beat) : Type 0 where
  pub head : c.head ≡ true
  pub sounds : AlikeSound c.sounds b.sounds

heard_alike : (at : ℕ) (h : Option Chord) → AlikeSound (heard_at at h) h
unfolding AlikeSound heard_at chord_at
heard_alike at none = tt
heard_alike at (some c) = (refl, values_placed _ (values c.extension))

heads_alike : (at : ℕ) (m : List Beat) → Each AlikeBeat (heads_at at m) m
unfolding heads_at
heads_alike at [] = none_each
heads_alike at (b ∷ m) = and_each (record { head = refl; sounds = heard_alike (suc at) b.sounds }) (heads_alike (suc at + length (letters_of b)) m)

pub row_alike : (n at : ℕ) (row : List (List Beat)) → Within n row → Each (Each AlikeBeat) (row_heads n at row) row
unfolding row_heads Within measure_heads
row_alike n at [] w = none_each
row_alike n at ([] ∷ row) w = absurd (let h = w.0 in omega arith)
row_alike n at ((b ∷ m) ∷ row) w =
    and_each (and_each (record { head = refl; sounds = heard_alike at b.sounds }) (heads_alike (at + length (letters_of b)) m))
    (row_alike n (behind at (flat_measure n (b ∷ m))) row w.2)

-- Their measures have the same words.
pub measures_alike : {R : Beat → Beat → Type 0} (first : ℕ) {rows row : List (List Beat)} → Each (Each R) rows row
    → measure_words first rows ≡ measure_words first row
unfolding measure_words
measures_alike first none_each = refl
measures_alike first (and_each {x = c} {y = m} e more) = rw (each_length e, measures_alike (first + length m) more)

-- A chord's place and length fit their fields.
pub chord_fits : (bs : List ℕ) (c : Chord) → length bs ≤ 65536 → Known (placed 0 bs) c → (offset c.extension < 65536) × (length c.extension < 32)
unfolding offset
chord_fits bs c l k =
    let w = stands_within bs c.extension k.stands in
    let s = k.spelt.spelled.short in
    (go c.extension w, omega arith)
  where
    go : (xs : List Byte) → offset xs + length xs ≤ length bs → offset xs < 65536
    go [] w = omega arith
    go (x ∷ xs) w = omega arith

module _ (bs copy : List ℕ) (small : length bs ≤ 65536) (brief : length copy ≤ 65536) where
  -- A beat and its copy, each known in its file.
  pub record Pair (c b : Beat) : Type 0 where
    pub alike : AlikeBeat c b
    pub there : OfIf (Known (placed 0 copy)) c.sounds
    pub here : OfIf (Known (placed 0 bs)) b.sounds

  pair_all : {cs m : List Beat} → Each AlikeBeat cs m → OfAll (Known (placed 0 copy)) cs → OfAll (Known (placed 0 bs)) m → Each Pair cs m
  unfolding OfAll
  pair_all none_each p q = none_each
  pair_all (and_each a more) p q = and_each (record { alike = a; there = p.0; here = q.0 }) (pair_all more p.1 q.1)

  pub pair_row : {rows row : List (List Beat)} → Each (Each AlikeBeat) rows row → OfRow (Known (placed 0 copy)) rows → OfRow (Known (placed 0 bs)) row
      → Each (Each Pair) rows row
  unfolding OfRow
  pair_row none_each p q = none_each
  pair_row (and_each a more) p q = and_each (pair_all a p.0 q.0) (pair_row more p.1 q.1)

  silent : (h : Bool) → without 4 1 (without 10 16 (63 * 2 ^ 26 + head_bit h * 2 ^ 4)) ≡ 63 * 2 ^ 26
  unfolding without field head_bit
  silent true = refl
  silent false = refl

  keeps_sound : (d c : Option Chord) (h g : Bool) → AlikeSound d c → OfIf (Known (placed 0 copy)) d → OfIf (Known (placed 0 bs)) c
      → without 4 1 (without 10 16 (beat_by d h)) ≡ without 4 1 (without 10 16 (beat_by c g))
  unfolding AlikeSound OfIf beat_by
  keeps_sound none none h g a p q = silent h ∙ sym (silent g)
  keeps_sound none (some c) h g a p q = absurd a
  keeps_sound (some d) none h g a p q = absurd a
  keeps_sound (some d) (some c) h g a p q =
      let i = chord_fits copy d brief p in
      let j = chord_fits bs c small q in
      let l = length_alike d.extension c.extension a.1 in
      beat_without d.base (offset d.extension) (length d.extension) (head_bit h) i.0 i.1 (bit_small h)
      ∙ rw (a.0, l) (sym (beat_without c.base (offset c.extension) (length c.extension) (head_bit g) j.0 j.1 (bit_small g)))

  head_set : (d : Option Chord) → OfIf (Known (placed 0 copy)) d → field 4 1 (beat_by d true) ≡ 1
  unfolding OfIf beat_by head_bit field
  head_set none p = refl
  head_set (some d) p = let i = chord_fits copy d brief p in beat_head d.base (offset d.extension) (length d.extension) 1 i.0 i.1 (omega arith)

  -- The letters at an extension's place.
  letters_at_lem : (file : List ℕ) (c : Chord) (h : Bool) → length file ≤ 65536 → Known (placed 0 file) c
      → stretch_at 10 16 5 5 file (beat_by (some c) h) ≡ values c.extension
  unfolding stretch_at beat_by
  letters_at_lem file c h l k =
      let i = chord_fits file c l k in
      rw (
        beat_length_lem c.base (offset c.extension) (length c.extension) (head_bit h) i.0 i.1 (bit_small h),
        beat_offset c.base (offset c.extension) (length c.extension) (head_bit h) i.0 i.1 (bit_small h),
      )
      (stretch_of_lem file c.extension k.stands)

  no_letters : (file : List ℕ) (h : Bool) → stretch_at 10 16 5 5 file (beat_by none h) ≡ []
  unfolding stretch_at beat_by field head_bit
  no_letters file true = refl
  no_letters file false = refl

  same_letters : (d c : Option Chord) (h g : Bool) → AlikeSound d c → OfIf (Known (placed 0 copy)) d → OfIf (Known (placed 0 bs)) c
      → stretch_at 10 16 5 5 copy (beat_by d h) ≡ stretch_at 10 16 5 5 bs (beat_by c g)
  unfolding AlikeSound OfIf
  same_letters none none h g a p q = no_letters copy h ∙ sym (no_letters bs g)
  same_letters none (some c) h g a p q = absurd a
  same_letters (some d) none h g a p q = absurd a
  same_letters (some d) (some c) h g a p q = letters_at_lem copy d h brief p ∙ a.1 ∙ sym (letters_at_lem bs c g small q)

  joined_same : {X : Type 0} {a b c d : List X} → a ≡ b → c ≡ d → a ++ c ≡ b ++ d
  joined_same e f = cc

  -- A row and its copy, word by word.
  words_by_lem : {X : Type 0} (f g : ℕ → X) → ((c b : Beat) → Pair c b → f (beat_word c) ≡ g (beat_word b))
      → {rows row : List (List Beat)} → Each (Each Pair) rows row → map f (flat_map (map beat_word) rows) ≡ map g (flat_map (map beat_word) row)
  unfolding flat_map
  words_by_lem f g h none_each = refl
  words_by_lem f g h (and_each {x = cs} {y = m} e more) =
      map-append f (map beat_word cs) _ ∙ joined_same (measure e) (words_by_lem f g h more) ∙ sym (map-append g (map beat_word m) _)
    where
      measure : {cs m : List Beat} → Each Pair cs m → map f (map beat_word cs) ≡ map g (map beat_word m)
      measure none_each = refl
      measure (and_each {x = c} {y = b} p ps) = rw (h c b p, measure ps)

  module _ {rows row : List (List Beat)} (pairs : Each (Each Pair) rows row) where
    pub beats_kept : map (λ w. without 4 1 (without 10 16 w)) (flat_map (map beat_word) rows)
        ≡ map (λ w. without 4 1 (without 10 16 w)) (flat_map (map beat_word) row)
    unfolding beat_word
    beats_kept = words_by_lem _ _ (λ c b p. keeps_sound c.sounds b.sounds c.head b.head p.alike.sounds p.there p.here) pairs

    pub heads_set : map (field 4 1) (flat_map (map beat_word) rows) ≡ replicate (length (flat_map (map beat_word) row)) 1
    unfolding beat_word
    heads_set =
        words_by_lem {X = ℕ} (field 4 1) (λ w. 1) (λ c b p. ap (λ h. field 4 1 (beat_by c.sounds h)) p.alike.head ∙ head_set c.sounds p.there) pairs
        ∙ all_one (flat_map (map beat_word) row)
      where
        all_one : (ws : List ℕ) → map {B = ℕ} (λ w. 1) ws ≡ replicate (length ws) 1
        all_one [] = refl
        all_one (w ∷ ws) = ap (λ r. 1 ∷ r) (all_one ws)

    pub extensions_kept : map (stretch_at 10 16 5 5 copy) (flat_map (map beat_word) rows) ≡ map (stretch_at 10 16 5 5 bs) (flat_map (map beat_word) row)
    unfolding beat_word
    extensions_kept = words_by_lem _ _ (λ c b p. same_letters c.sounds b.sounds c.head b.head p.alike.sounds p.there p.here) pairs
