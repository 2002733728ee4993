-- What holds of every chord of a text holds of every chord that is heard: through references, loops, `%`, repeats and cuts.
use Prim.Native.Nat.{ℕ, zero, suc, ◌/◌}
use mathlib.Core.Path.{◌≡◌, refl, sym, subst}
use mathlib.Core.List.{List, [], ◌∷◌, ◌++◌, flat_map}
use mathlib.Core.Bool.{false}
use mathlib.Core.Option.{Option, none, some, get_or}
use lib.ListN.{replicate}
use Rattle.songcode.specs.Lists.{times}
use Rattle.songcode.specs.Answer.Chords.{Chord}
use Rattle.songcode.specs.Song.{Sound, chord, again, silence, Sounds, only, also, nothing, a_line_end, Separator, Beat, beat}
use Rattle.songcode.specs.Song.{by_semicolon, by_line_end, by_colon, Item, measure, loop, refer, Items, one, next, Cut}
use Rattle.songcode.specs.Answer.Tokens.{Token, sound, remover, reference, semicolon, colon, line_end, opens, closes, wrong}
use Rattle.songcode.specs.Answer.References.{glue, put_in_item, put_in}
use Rattle.songcode.specs.Answer.Playing.{chord_after, heard, last_sounds, last_item}
use Rattle.songcode.specs.Answer.Playing.{last_items, voices, lasting, positions, beats_of, measures_item, measures_of}
use Rattle.songcode.specs.Description.WrittenPattern.{items_tokens}
use Rattle.songcode.proofs.WrittenBefore.{write_sounds, write_removers, write_measure, write_beside, write_separator, write_item, write_items, appended}
use Rattle.songcode.specs.Description.Performance.{CutsFront, CutsBack, CutIf}

module _ (Q : Chord → Type 0) where
  unfoldable pub OfIf : Option Chord → Type 0
  OfIf none = Unit {0}
  OfIf (some c) = Q c

  unfoldable pub OfAll : List Beat → Type 0
  unfolding OfIf
  OfAll [] = Unit {0}
  OfAll (b ∷ m) = OfIf b.sounds × OfAll m

  unfoldable pub OfRow : List (List Beat) → Type 0
  unfolding OfAll
  OfRow [] = Unit {0}
  OfRow (m ∷ row) = OfAll m × OfRow row

  unfoldable pub OfSound : Sound → Type 0
  OfSound (chord c) = Q c
  OfSound again = Unit {0}
  OfSound silence = Unit {0}

  unfoldable pub OfToken : Token → Type 0
  unfolding OfSound
  OfToken (sound s) = OfSound s
  OfToken remover = Unit {0}
  OfToken (reference n) = Unit {0}
  OfToken semicolon = Unit {0}
  OfToken colon = Unit {0}
  OfToken line_end = Unit {0}
  OfToken opens = Unit {0}
  OfToken (closes n) = Unit {0}
  OfToken wrong = Unit {0}

  unfoldable pub OfTokens : List Token → Type 0
  unfolding OfToken
  OfTokens [] = Unit {0}
  OfTokens (t ∷ ts) = OfToken t × OfTokens ts

  pub tokens_append : (a b : List Token) → OfTokens a → OfTokens b → OfTokens (a ++ b)
  unfolding OfTokens
  tokens_append [] b p q = q
  tokens_append (t ∷ a) b p q = (p.0, tokens_append a b p.1 q)

  -- The chords of items.
  unfoldable pub OfSounds : Sounds → Type 0
  unfolding OfSound
  OfSounds (only s) = OfSound s
  OfSounds (also ss s) = OfSounds ss × OfSound s

  unfoldable mutual
    unfolding OfSounds

    pub OfItem : Item → Type 0
    OfItem (measure m) = OfSounds m.sounds
    OfItem (loop r n) = OfItems r
    OfItem (refer n) = Unit {0}

    pub OfItems : Items → Type 0
    OfItems (one i) = OfItem i
    OfItems (next r s i) = OfItems r × OfItem i

  sounds_written_lem : (ss : Sounds) (k : List Token) → OfTokens (write_sounds ss k) → OfSounds ss × OfTokens k
  unfolding write_sounds OfTokens OfToken OfSounds
  sounds_written_lem (only s) k h = (h.0, h.1)
  sounds_written_lem (also ss s) k h = let p = sounds_written_lem ss (sound s ∷ k) h in ((p.0, p.1.0), p.1.1)

  removers_written : (n : ℕ) (k : List Token) → OfTokens (write_removers n k) → OfTokens k
  unfolding write_removers OfTokens
  removers_written zero k h = h
  removers_written (suc n) k h = (removers_written n (remover ∷ k) h).1

  separator_written : (s : Separator) (k : List Token) → OfTokens (write_separator s k) → OfTokens k
  unfolding write_separator write_beside OfTokens
  separator_written by_semicolon k h = h.1
  separator_written by_line_end k h = h.1
  separator_written (by_colon nothing nothing) k h = h.1
  separator_written (by_colon nothing a_line_end) k h = h.1.1
  separator_written (by_colon a_line_end nothing) k h = h.1.1
  separator_written (by_colon a_line_end a_line_end) k h = h.1.1.1

  mutual
    unfolding write_item write_items write_measure OfItem OfItems OfTokens

    item_written_lem : (i : Item) (k : List Token) → OfTokens (write_item i k) → OfItem i × OfTokens k
    item_written_lem (measure m) k h = let p = sounds_written_lem m.sounds (write_removers m.removers k) h in (p.0, removers_written m.removers k p.1)
    item_written_lem (loop r n) k h = let p = items_written_lem r (closes n ∷ k) h.1 in (p.0, p.1.1)
    item_written_lem (refer n) k h = (tt, h.1)

    items_written_lem : (r : Items) (k : List Token) → OfTokens (write_items r k) → OfItems r × OfTokens k
    items_written_lem (one i) k h = item_written_lem i k h
    items_written_lem (next r s i) k h =
        let p = items_written_lem r (write_separator s (write_item i k)) h in
        let q = item_written_lem i k (separator_written s (write_item i k) p.1) in
        ((p.0, q.0), q.1)

  pub items_of_tokens : (r : Items) → OfTokens (items_tokens r) → OfItems r
  items_of_tokens r h = (items_written_lem r [] (subst (λ ts. OfTokens ts) (sym (appended r)) h)).0

  -- References put in.
  glue_of : (r : Items) (s : Separator) (q : Items) → OfItems r → OfItems q → OfItems (glue r s q)
  unfolding glue OfItems
  glue_of r s (one i) p h = (p, h)
  glue_of r s (next q t i) p h = (glue_of r s q p h.0, h.1)

  mutual
    unfolding put_in_item put_in OfItem OfItems

    put_in_item_of : (f : ℕ → Option Items) → ((n : ℕ) (q : Items) → f n ≡ some q → OfItems q) → (i : Item) → OfItem i → OfItems (put_in_item f i)
    put_in_item_of f h (measure m) p = p
    put_in_item_of f h (loop r n) p = put_in_of f h r p
    put_in_item_of f h (refer n) p = found (f n) refl
      where
        found : (o : Option Items) → f n ≡ o → OfItems (get_or o (one (refer n)))
        found none e = tt
        found (some q) e = h n q e

    pub put_in_of : (f : ℕ → Option Items) → ((n : ℕ) (q : Items) → f n ≡ some q → OfItems q) → (r : Items) → OfItems r → OfItems (put_in f r)
    put_in_of f h (one i) p = put_in_item_of f h i p
    put_in_of f h (next r s i) p = glue_of (put_in f r) s (put_in_item f i) (put_in_of f h r p.0) (put_in_item_of f h i p.1)

  -- What is played.
  after_of : (last : Option Chord) (s : Sound) → OfIf last → OfSound s → OfIf (chord_after last s)
  unfolding chord_after OfIf OfSound
  after_of last (chord c) p q = q
  after_of last again p q = p
  after_of last silence p q = p

  heard_of : (last : Option Chord) (s : Sound) → OfIf last → OfSound s → OfIf (heard last s)
  unfolding heard OfIf OfSound
  heard_of last (chord c) p q = q
  heard_of last again p q = p
  heard_of last silence p q = tt

  last_sounds_of : (last : Option Chord) (ss : Sounds) → OfIf last → OfSounds ss → OfIf (last_sounds last ss)
  unfolding last_sounds OfSounds
  last_sounds_of last (only s) p q = after_of last s p q
  last_sounds_of last (also ss s) p q = after_of (last_sounds last ss) s (last_sounds_of last ss p q.0) q.1

  mutual
    unfolding last_item last_items OfItem OfItems

    last_item_of : (last : Option Chord) (i : Item) → OfIf last → OfItem i → OfIf (last_item last i)
    last_item_of last (measure m) p q = last_sounds_of last m.sounds p q
    last_item_of last (loop r n) p q = last_items_of last r p q
    last_item_of last (refer n) p q = p

    last_items_of : (last : Option Chord) (r : Items) → OfIf last → OfItems r → OfIf (last_items last r)
    last_items_of last (one i) p q = last_item_of last i p q
    last_items_of last (next r s i) p q = last_item_of (last_items last r) i (last_items_of last r p q.0) q.1

  all_append : (a b : List Beat) → OfAll a → OfAll b → OfAll (a ++ b)
  unfolding OfAll
  all_append [] b p q = q
  all_append (x ∷ a) b p q = (p.0, all_append a b p.1 q)

  append_all : (a b : List Beat) → OfAll (a ++ b) → OfAll a × OfAll b
  unfolding OfAll
  append_all [] b p = (tt, p)
  append_all (x ∷ a) b p = let h = append_all a b p.1 in ((p.0, h.0), h.1)

  pub row_append : (a b : List (List Beat)) → OfRow a → OfRow b → OfRow (a ++ b)
  unfolding OfRow
  row_append [] b p q = q
  row_append (x ∷ a) b p q = (p.0, row_append a b p.1 q)

  append_row : (a b : List (List Beat)) → OfRow (a ++ b) → OfRow a × OfRow b
  unfolding OfRow
  append_row [] b p = (tt, p)
  append_row (x ∷ a) b p = let h = append_row a b p.1 in ((p.0, h.0), h.1)

  pub row_times : (k : ℕ) (a : List (List Beat)) → OfRow a → OfRow (times k a)
  unfolding times OfRow
  row_times zero a p = tt
  row_times (suc k) a p = row_append a (times k a) p (row_times k a p)

  replicate_of : (k : ℕ) (b : Beat) → OfIf b.sounds → OfAll (replicate k b)
  unfolding OfAll
  replicate_of zero b p = tt
  replicate_of (suc k) b p = (p, replicate_of k b p)

  lasting_of_lem : (k : ℕ) (c : Option Chord) → OfIf c → OfAll (lasting k c)
  unfolding lasting OfAll
  lasting_of_lem zero c p = tt
  lasting_of_lem (suc k) c p = (p, replicate_of k (beat c false) p)

  unfoldable OfHeard : List (Option Chord) → Type 0
  OfHeard [] = Unit {0}
  OfHeard (h ∷ hs) = OfIf h × OfHeard hs

  gather_of : (k : ℕ) (hs : List (Option Chord)) → OfHeard hs → OfAll (flat_map (lasting k) hs)
  unfolding flat_map OfHeard OfAll
  gather_of k [] p = tt
  gather_of k (h ∷ hs) p = all_append (lasting k h) (flat_map (lasting k) hs) (lasting_of_lem k h p.0) (gather_of k hs p.1)

  heard_append : (a b : List (Option Chord)) → OfHeard a → OfHeard b → OfHeard (a ++ b)
  unfolding OfHeard
  heard_append [] b p q = q
  heard_append (x ∷ a) b p q = (p.0, heard_append a b p.1 q)

  voices_of : (last : Option Chord) (ss : Sounds) → OfIf last → OfSounds ss → OfHeard (voices last ss)
  unfolding voices OfSounds OfHeard
  voices_of last (only s) p q = (heard_of last s p q, tt)
  voices_of last (also ss s) p q =
      heard_append (voices last ss) _ (voices_of last ss p q.0) (heard_of (last_sounds last ss) s (last_sounds_of last ss p q.0) q.1, tt)

  mutual
    unfolding measures_item measures_of beats_of OfItem OfItems OfRow

    measures_item_of : (n : ℕ) (last : Option Chord) (i : Item) → OfIf last → OfItem i → OfRow (measures_item n last i)
    measures_item_of n last (measure m) p q = (gather_of (n / positions m) (voices last m.sounds) (voices_of last m.sounds p q), tt)
    measures_item_of n last (loop r k) p q = row_times k (measures_of n last r) (measures_of_lem n last r p q)
    measures_item_of n last (refer k) p q = tt

    pub measures_of_lem : (n : ℕ) (last : Option Chord) (r : Items) → OfIf last → OfItems r → OfRow (measures_of n last r)
    measures_of_lem n last (one i) p q = measures_item_of n last i p q
    measures_of_lem n last (next r s i) p q =
        row_append (measures_of n last r) (measures_item n (last_items last r) i) (measures_of_lem n last r p q.0)
        (measures_item_of n (last_items last r) i (last_items_of last r p q.0) q.1)

  pub front_of : (o : Option Cut) (row kept : List (List Beat)) → CutIf CutsFront o row kept → OfRow row → OfRow kept
  unfolding CutIf OfRow
  front_of none row kept p s = rw p s
  front_of (some c) row kept p s =
      let h = (append_row p.lost ((p.begun ++ p.stays) ∷ p.rest) (append_row p.gone _ (subst (λ r. OfRow r) p.written s)).1).1 in
      rw p.keeps ((append_all p.begun p.stays h.0).1, h.1)

  pub back_of_lem : (o : Option Cut) (row kept : List (List Beat)) → CutIf CutsBack o row kept → OfRow row → OfRow kept
  unfolding CutIf OfRow
  back_of_lem none row kept p s = rw p s
  back_of_lem (some c) row kept p s =
      let h = append_row p.rest (((p.stays ++ p.ended) ∷ p.lost) ++ p.gone) (subst (λ r. OfRow r) p.written s) in
      rw p.keeps (row_append p.rest (p.stays ∷ []) h.0 ((append_all p.stays p.ended h.1.0).0, tt))
