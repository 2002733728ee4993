-- The walk of a stretch that holds written items plays what they play, references put in, and ends behind them.
use Rattle.std.proofs.Common.{◌≡◌, ℕ, zero, suc, ◌+◌, ◌-◌, ◌≤◌, true, List, [], ◌∷◌, ◌++◌, take, drop, sym, ap, ◌∙◌, append_assoc, append-nil, arith}
use mathlib.Core.Option.{Option, none}
use Rattle.songcode.specs.Answer.Chords.{Chord}
use Rattle.songcode.specs.Song.{Item, measure, loop, refer, Items, one, next, Beat}
use Rattle.songcode.specs.Answer.Tokens.{Token, opens, closes}
use Rattle.songcode.specs.Answer.References.{put_in_item, put_in}
use Rattle.songcode.proofs.WrittenBefore.{write_separator, write_item, write_items}
use Rattle.songcode.specs.Answer.Playing.{last_item, last_items, measures_item, measures_of}
use Rattle.tokens.specs.TokenWords.{token_word, token_words}
use Rattle.score.specs.declared.stretches.Stretch.{Stretch}
use Rattle.score.specs.Places.{stretch_of, word_of}
use Rattle.tokens.specs.Signs.{kind_of, is_stop}
use Rattle.player.specs.Walks.{Read, stop, and_then, item_of, rows_by, level, row_of}
use Rattle.score.specs.Standing.{Stands}
use Rattle.score.proofs.StandingLaws.{stands_written}
use Rattle.player.specs.Texts.{voice_word, row_words, WalkableItem, WalkableBy, Walkable}
use Rattle.player.proofs.WalkLaws.{rows_stop, rows_more, item_onward, level_onward}
use Rattle.songcode.proofs.GlueLaws.{last_glue, measures_glue, put_in_same}
use Rattle.player.proofs.RowWordLaws.{words_append}
use Rattle.player.proofs.WrittenWords.{word_here, word_none, behind_here, Ends, closes_ends, Apart, ends_apart, separator_apart}
use Rattle.player.proofs.WalkedItems.{Walked, Passed, measure_passed, loop_passed, refer_passed, separator_across}

-- Rows, where what stands inside is walked already.
module _ (ws : List ℕ) (f : ℕ → Option Items) (n : ℕ) where
  -- What a level plays of every row that can be walked in it.
  Inside : ℕ → Type 0
  Inside k =
      (r : Items) → Walkable ws f k r → (to at : ℕ) (last : Option Chord) (t : List Token) → Ends t
      → drop at (take to ws) ≡ token_words (write_items r t)
      → Walked ws n to (level k n ws to at (voice_word last)) (measures_of n last (put_in f r)) (last_items last (put_in f r)) t

  nothing_ends : Ends []
  unfolding Ends
  nothing_ends = tt

  item_passed : (k : ℕ) → Inside k → (i : Item) → WalkableItem ws f (Walkable ws f k) i
      → (to at : ℕ) (last : Option Chord) (t : List Token) → Apart t → drop at (take to ws) ≡ token_words (write_item i t)
      → Passed ws n (level k n ws) to at last (measures_of n last (put_in_item f i)) (last_items last (put_in_item f i)) t
  unfolding Inside WalkableItem write_item token_words put_in_item measures_of last_items measures_item last_item
  item_passed k ih (measure m) h to at last t a e = measure_passed ws n (level k n ws) to at last m t h a e
  item_passed k ih (loop r j) h to at last t a e =
      loop_passed ws n (level k n ws) to at last j (measures_of n last (put_in f r)) (last_items last (put_in f r))
      (token_words (write_items r (closes j ∷ t))) t h.0 h.1 e
      (ih r h.2 to (at + 1) last (closes j ∷ t) (closes_ends j t h.1)
      (behind_here ws to at (token_word opens) (token_words (write_items r (closes j ∷ t))) e))
  item_passed k ih (refer j) h to at last t a e =
      let q = h.1 in
      let y = h.2 in
      let w = ih q h.3 (stretch_of ws j).to (stretch_of ws j).from last [] nothing_ends (stands_written ws (stretch_of ws j) q y.stands) in
      let same : put_in f q ≡ q = put_in_same f q y.plain in
      rw y.said (refer_passed ws n (level k n ws) to at last j (measures_of n last q) (last_items last q) t [] h.0 e (rw same at w))

  -- A row was walked up to where the tokens t stand, and the walk goes on from there.
  record Come (inner : ℕ → ℕ → ℕ → Read) (to g at : ℕ) (before : Option Chord) (row : List (List Beat)) (last : Option Chord) (t : List Token) : Type 0 where
    x : Read
    fuel : ℕ
    walked : Walked ws n to x row last t
    enough : to ≤ x.at + fuel
    goes : rows_by inner n ws g to at (voice_word before) ≡ and_then x (rows_by inner n ws fuel to)

  passed_come : (k to g at : ℕ) (before : Option Chord) (row : List (List Beat)) (last : Option Chord) (t : List Token)
      → Passed ws n (level k n ws) to at before row last t → to ≤ at + g → Come (level k n ws) to g at before row last t
  passed_come k to g at before row last t p h =
      let i = p.inside in
      let o = item_onward (level k n ws) n ws to at (voice_word before) (level_onward k n ws) p.goes_on in
      record {
        x = item_of (level k n ws) n ws to at (voice_word before);
        fuel = g - 1;
        walked = p.walked;
        enough = omega arith;
        goes = rows_more (level k n ws) n ws g to at (voice_word before) (omega arith) p.goes_on;
      }

  and_then_then : (x y : Read) (k j : ℕ → ℕ → Read) → k x.at x.last ≡ and_then y j
      → and_then x k ≡ and_then (record { row = x.row ++ y.row; at = y.at; last = y.last }) j
  unfolding and_then
  and_then_then x y k j e = rw (e, append_assoc)

  items_come : (k : ℕ) → Inside k → (r : Items) → WalkableBy ws f (Walkable ws f k) r
      → (to g at : ℕ) (last : Option Chord) (t : List Token) → Apart t → drop at (take to ws) ≡ token_words (write_items r t) → to ≤ at + g
      → Come (level k n ws) to g at last (measures_of n last (put_in f r)) (last_items last (put_in f r)) t
  unfolding WalkableBy write_items put_in
  items_come k ih (one i) h to g at last t a e q =
      passed_come k to g at last (measures_of n last (put_in_item f i)) (last_items last (put_in_item f i)) t (item_passed k ih i h to at last t a e) q
  items_come k ih (next r s i) h to g at last t a e q =
      let inner = level k n ws in
      let c = items_come k ih r h.0 to g at last (write_separator s (write_item i t)) (separator_apart s (write_item i t)) e q in
      let mid = last_items last (put_in f r) in
      let w = c.walked in
      let b = separator_across ws n inner to (voice_word mid) s c.fuel c.x.at (write_item i t) w.text_is c.enough in
      let z = passed_come k to b.fuel b.place mid (measures_of n mid (put_in_item f i)) (last_items mid (put_in_item f i)) t
      (item_passed k ih i h.1 to b.place mid t a b.text) b.enough in
      let v = z.walked in
      let step : rows_by inner n ws c.fuel to c.x.at c.x.last ≡ and_then z.x (rows_by inner n ws z.fuel to) =
      ap (rows_by inner n ws c.fuel to c.x.at) w.last_is ∙ b.same ∙ z.goes in
      record {
        x = record { row = c.x.row ++ z.x.row; at = z.x.at; last = z.x.last };
        fuel = z.fuel;
        walked = record {
          row_is =
              rw (w.row_is, v.row_is, measures_glue n last (put_in f r) s (put_in_item f i))
              (sym (words_append (measures_of n last (put_in f r)) (measures_of n mid (put_in_item f i))));
          last_is = v.last_is ∙ ap voice_word (sym (last_glue last (put_in f r) s (put_in_item f i)));
          text_is = v.text_is;
        };
        enough = z.enough;
        goes = c.goes ∙ and_then_then c.x z.x (rows_by inner n ws c.fuel to) (rows_by inner n ws z.fuel to) step;
      }

  at_end : (to at : ℕ) (t : List Token) → Ends t → drop at (take to ws) ≡ token_words t → is_stop (kind_of (word_of ws to at)) ≡ true
  unfolding Ends token_words is_stop
  at_end to at [] h e = rw (word_none ws to at e)
  at_end to at (t ∷ k) h e = rw (word_here ws to at (token_word t) (token_words k) e) h.0

  inside_next : (k : ℕ) → Inside k → Inside (suc k)
  unfolding Inside Walkable level and_then
  inside_next k ih r h to at last t e p =
      let inner = level k n ws in
      let c = items_come k ih r h to to at last t (ends_apart t e) p (omega arith) in
      let w = c.walked in
      let s : rows_by inner n ws c.fuel to c.x.at c.x.last ≡ stop c.x.at c.x.last =
      rows_stop inner n ws c.fuel to c.x.at c.x.last (at_end to c.x.at t e w.text_is) in
      rw (c.goes, s, append-nil) (record { row_is = w.row_is; last_is = w.last_is; text_is = w.text_is })

  every_level : (k : ℕ) → Inside k
  unfolding Inside Walkable
  every_level zero r h to at last t e p = absurd h
  every_level (suc k) r h to at last t e p = inside_next k (every_level k) r h to at last t e p

  -- The row of a stretch where written items stand is what they play, references put in.
  pub row_meaning : (r : Items) (s : Stretch) → Walkable ws f 8 r → Stands ws s r → row_of n ws s ≡ row_words (measures_of n none (put_in f r))
  unfolding row_of Inside voice_word
  row_meaning r s h e = (every_level 8 r h s.to s.from none [] nothing_ends (stands_written ws s r e)).row_is
