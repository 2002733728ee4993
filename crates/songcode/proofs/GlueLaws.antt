-- What a row plays with its references put in: rows glued together, rows that hold no reference.
use Prim.Native.Nat.{ℕ}
use mathlib.Core.Path.{◌≡◌, refl, sym, ap}
use mathlib.Core.List.{[], ◌++◌, append_assoc}
use mathlib.Core.Option.{Option}
use Rattle.songcode.specs.Answer.Chords.{Chord}
use Rattle.songcode.specs.Song.{Separator, Item, measure, loop, refer, Items, one, next}
use Rattle.songcode.specs.Answer.PatternText.{references, references_i}
use Rattle.songcode.specs.Answer.References.{glue, put_in_item, put_in}
use Rattle.songcode.specs.Answer.Playing.{last_item, last_items, measures_of}
use Rattle.songcode.proofs.ListLaws.{append_is_nil, nil_is_not_cons}

pub last_glue : (last : Option Chord) (r : Items) (s : Separator) (q : Items) → last_items last (glue r s q) ≡ last_items (last_items last r) q
unfolding glue last_items
last_glue last r s (one i) = refl
last_glue last r s (next q t i) = ap (λ x. last_item x i) (last_glue last r s q)

pub measures_glue : (n : ℕ) (last : Option Chord) (r : Items) (s : Separator) (q : Items)
    → measures_of n last (glue r s q) ≡ measures_of n last r ++ measures_of n (last_items last r) q
unfolding glue measures_of
measures_glue n last r s (one i) = refl
measures_glue n last r s (next q t i) = rw (measures_glue n last r s q, last_glue last r s q, append_assoc)

mutual
  unfolding put_in put_in_item references references_i glue

  put_in_item_same : (f : ℕ → Option Items) (i : Item) → references_i i ≡ [] → put_in_item f i ≡ one i
  put_in_item_same f (measure m) h = refl
  put_in_item_same f (loop r n) h = ap (λ q. one (loop q n)) (put_in_same f r h)
  put_in_item_same f (refer n) h = nil_is_not_cons (sym h)

  pub put_in_same : (f : ℕ → Option Items) (r : Items) → references r ≡ [] → put_in f r ≡ r
  put_in_same f (one i) h = put_in_item_same f i h
  put_in_same f (next r s i) h =
      let g = append_is_nil (references r) (references_i i) h in
      rw (put_in_same f r g.0, put_in_item_same f i g.1)
