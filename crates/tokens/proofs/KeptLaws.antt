-- Marks of a row stay right: where words are laid or set before them, and where one more line is kept.
use Prim.Native.Nat.{ℕ, zero, suc, ◌+◌, ◌-◌, ◌<◌, ◌≤◌}
use mathlib.Core.Path.{◌≡◌, refl, sym, ap, ◌∙◌}
use mathlib.Core.List.{List, [], ◌∷◌}
use native.Mathlib.Omega.{arith}
use borrow.Author.Tests.{ltb-true, ltb-false, eqb-true, eqb-false}
use lib.Dec.{eqb, ltb}
use mathlib.Core.Logic.{inl, inr}
use lib.ListN.{length, take, drop, get_or, replicate, length-take}
use lib.Seq.{sets, length-sets, get_or-take, drop-drop}
use Rattle.songcode.specs.Song.{chord, again, silence}
use Rattle.songcode.specs.Answer.Tokens.{Token, sound, remover, reference, semicolon, colon, line_end, opens, closes, wrong}
use Rattle.songcode.proofs.ListLaws.{by_cases, drop_take}
use Rattle.songcode.proofs.MemoryLaws.{sets_before, sets_word, sets_behind, sets_rest, word_same, rest_same}
use Rattle.text.specs.declared.lines.Line.{Line}
use Rattle.text.specs.Spans.{part, line_length, front_blanks, line_of, Found}
use Rattle.text.proofs.WalkLaws.{part_length}
use Rattle.tokens.specs.TokenWords.{token_words}
use Rattle.tokens.specs.Signs.{kind_of, number_of}
use Rattle.tokens.specs.Fitting.{Fit, AllFit, kind}
use Rattle.tokens.specs.Lexing.{tokens_from}
use Rattle.tokens.specs.Kept.{line_stop, line_words, mark_word, kept, KeptAt, Kept, Unmarked, KeptFrom, Keeps}
use Rattle.tokens.proofs.KindLaws.{word_kind_lem}
use Rattle.tokens.proofs.LineFitLaws.{front_le, line_rest, found_before}
use Rattle.tokens.proofs.TokensFit.{tokens_fit}
use Rattle.tokens.proofs.FewLaws.{part_words_few}

-- The text of a line that was found stops where the line from its first byte on does.
pub found_stop : (s : List ℕ) {n at : ℕ} {l : Line} → Found s n at l → l.stop ≡ line_stop s l.start
unfolding line_of line_stop
found_stop s {n} {at} f =
    let bs = drop at s in
    let len = line_length bs in
    let k = front_blanks (take len bs) in
    let h : k ≤ len = omega (arith, front_le (take len bs), length-take len bs) in
    rw (f.is, ← (drop-drop k at s), line_rest k bs h) refl

-- Marks from a later word on, and within a wider bound.
pub kept_later : {s ws : List ℕ} {from to bound : ℕ} → from ≤ to → Kept s ws from bound → Kept s ws to bound
kept_later h k = record { right = λ a g m. k.right a (omega arith) m }

pub kept_wider : {s ws : List ℕ} {from bound wide : ℕ} → bound ≤ wide → Kept s ws from bound → Kept s ws from wide
kept_wider h k =
    record {
      right = λ a g m. let q = k.right a g m in
          let w = q.within in
          record { mark = q.mark; words = q.words; within = omega arith };
    }

-- A row without marks has no wrong one; zeros are none.
pub unmarked_kept : (s ws : List ℕ) (from bound : ℕ) → Unmarked ws → Kept s ws from bound
unfolding Unmarked
unmarked_kept s ws from bound u = record { right = λ a g m. absurd (u a m) }

zero_there : (n i : ℕ) → ◌≡◌ {A = ℕ} (get_or (replicate n 0) i 0) 0
zero_there zero i = refl
zero_there (suc n) zero = refl
zero_there (suc n) (suc i) = zero_there n i

pub unmarked_zeros : (n : ℕ) → Unmarked (replicate n 0)
unfolding Unmarked
unmarked_zeros n =
    λ a m. let z : kind_of 0 ≡ 53 = rw (zero_there n (a + 8)) at m in
    let y : ⊥ = omega arith in y

-- What stands behind a place tells its marks.
module _ (s ws after : List ℕ) (end : ℕ) (same : drop end after ≡ drop end ws) where
  kept_behind : (from bound : ℕ) → from ≤ end → Kept s ws from bound → Kept s after end bound
  kept_behind from bound h k =
      record {
        right = λ a g m. let w = word_same after ws end same (a + 8) g in
            let q = k.right a (omega arith) (rw w at m) in
            record {
              mark = w ∙ q.mark;
              words = ap (take (length (line_words s a))) (rest_same after ws end same (a + 9) (omega arith)) ∙ q.words;
              within = q.within;
            };
      }

-- Words laid before the marks.
pub kept_laid : (s ws new : List ℕ) (from n end bound : ℕ) → end ≡ n + length new → from ≤ end → Kept s ws from bound
    → Kept s (sets ws n new) end bound
kept_laid s ws new from n end bound e g k = kept_behind s ws (sets ws n new) end (sets_behind n new ws end (omega arith)) from bound g k

-- A token's word is no mark.
kind_unmarked : (t : Token) → Fit t → kind t ≡ 53 → ⊥
unfolding Fit kind
kind_unmarked (sound (chord c)) f e = omega arith
kind_unmarked (sound silence) f e = omega arith
kind_unmarked (sound again) f e = omega arith
kind_unmarked remover f e = omega arith
kind_unmarked semicolon f e = omega arith
kind_unmarked colon f e = omega arith
kind_unmarked line_end f e = omega arith
kind_unmarked opens f e = omega arith
kind_unmarked (closes n) f e = omega arith
kind_unmarked (reference n) f e = omega arith
kind_unmarked wrong f e = omega arith

words_unmarked : (ts : List Token) → AllFit ts → (i : ℕ) → kind_of (get_or (token_words ts) i 0) ≡ 53 → ⊥
unfolding AllFit token_words
words_unmarked [] f i e = omega arith
words_unmarked (t ∷ ts) f zero e = kind_unmarked t f.0 (sym (word_kind_lem t f.0) ∙ e)
words_unmarked (t ∷ ts) f (suc i) e = words_unmarked ts f.1 i e

-- One more line is kept, behind the marks that are there.
module _ (s ws : List ℕ) (at start bound : ℕ) (marks : Kept s ws 0 at) (starts : at ≤ start) (room : start + 9 + length (line_words s start) ≤ length ws)
    (within : start + length (line_words s start) + 1 ≤ bound) (plain : (i : ℕ) → kind_of (get_or (line_words s start) i 0) ≡ 53 → ⊥) where
  abbrev row : List ℕ
  row = mark_word (length (line_words s start)) ∷ line_words s start

  abbrev after : List ℕ
  after = sets ws (start + 8) row

  before_same : (i : ℕ) → i ≤ start + 8 → take i after ≡ take i ws
  before_same i h = sets_before i (start + 8) row ws h

  earlier : (a : ℕ) → a < start → kind_of (get_or after (a + 8) 0) ≡ 53 → KeptAt s after bound a
  earlier a h m =
      let w : get_or after (a + 8) 0 ≡ get_or ws (a + 8) 0 =
      sym (get_or-take (a + 9) after (a + 8) 0 (omega arith)) ∙ ap (λ (l : List ℕ). get_or l (a + 8) 0) (before_same (a + 9) (omega arith))
      ∙ get_or-take (a + 9) ws (a + 8) 0 (omega arith) in
      let q = marks.right a (omega arith) (rw w at m) in
      let i = q.within in
      let c = length (line_words s a) in
      let z : a + 9 + c - (a + 9) ≡ c = omega arith in
      let e : take (a + 9 + c - (a + 9)) (drop (a + 9) after) ≡ take (a + 9 + c - (a + 9)) (drop (a + 9) ws) =
      sym (drop_take (a + 9) (a + 9 + c) after) ∙ ap (drop (a + 9)) (before_same (a + 9 + c) (omega arith)) ∙ drop_take (a + 9) (a + 9 + c) ws in
      record { mark = w ∙ q.mark; words = rw z at e ∙ q.words; within = omega arith }

  here : KeptAt s after bound start
  here =
      let z : start + 8 + 0 ≡ start + 8 = omega arith in
      let y : start + 8 + 1 ≡ start + 9 = omega arith in
      let m = sets_word (start + 8) row ws 0 (omega arith) (omega arith) in
      let w = sets_rest (start + 8) (mark_word (length (line_words s start))) (line_words s start) ws (omega arith) in
      record { mark = rw z at m; words = rw y at w; within = within }

  among : (a : ℕ) → start < a → a < start + 1 + length (line_words s start) → kind_of (get_or after (a + 8) 0) ≡ 53 → ⊥
  among a h g m =
      let z : start + 8 + suc (a - suc start) ≡ a + 8 = omega arith in
      let w = sets_word (start + 8) row ws (suc (a - suc start)) (omega arith) (omega arith) in
      plain (a - suc start) (rw (rw z at w) at m)

  past : (a : ℕ) → start + 1 + length (line_words s start) ≤ a → kind_of (get_or after (a + 8) 0) ≡ 53 → ⊥
  past a h m =
      let end = start + 9 + length (line_words s start) in
      let w = word_same after ws end (sets_behind (start + 8) row ws end (omega arith)) (a + 8) (omega arith) in
      let q = marks.right a (omega arith) (rw w at m) in
      let i = q.within in
      omega arith

  kept_one : Kept s after 0 bound
  kept_one =
      record {
        right = λ a g m. by_cases (ltb a start)
            (λ e. earlier a (ltb-true a start e) m)
            (λ e. let h = ltb-false a start e in
            by_cases (eqb a start)
            (λ f. rw (eqb-true a start f) here)
            (λ f. let d = eqb-false a start f in
            by_cases (ltb a (start + 1 + length (line_words s start)))
            (λ t. absurd (among a (omega arith) (ltb-true _ _ t) m))
            (λ t. absurd (past a (ltb-false _ _ t) m))));
      }

module _ (s ws after : List ℕ) (n at : ℕ) (l : Line) (f : Found s n at l) (there : at < length s) (room : length s + 16 ≤ length ws)
    (small : length s ≤ 65536) (marks : Kept s ws 0 at) where
  -- The words of the line that was found have room, and none is a mark.
  inside : l.stop ≤ length s
  inside =
      let next = f.next in
      let over = f.over in
      omega arith

  words_room : l.start + length (line_words s l.start) ≤ l.stop
  words_room =
      let few = part_words_few s l.start l.stop inside in
      let stop = f.stop in
      rw (← (found_stop s f)) (omega arith)

  words_plain : (i : ℕ) → kind_of (get_or (line_words s l.start) i 0) ≡ 53 → ⊥
  words_plain =
      let size = part_length s l.start l.stop inside in
      let stop = f.stop in
      let fit = tokens_fit l.start (part l.start l.stop s) (omega (arith, inside)) in
      rw (← (found_stop s f)) (words_unmarked (tokens_from l.start l.stop s) fit)

  line_kept : (bound : ℕ) → after ≡ kept l.start (line_words s l.start) ws → l.stop < bound → Kept s after 0 bound
  line_kept bound e h =
      let r = words_room in
      let i = inside in
      rw e (kept_one s ws at l.start bound marks f.start (omega arith) (omega arith) words_plain)

  -- The row behind one line more.
  pub kept_next : Keeps s l.start l.stop ws after
      → (length after ≡ length ws) × Kept s after 0 (length s + 1) × (l.next < length s → Kept s after 0 l.next)
  unfolding Keeps
  kept_next (inl e) =
      let onward = f.onward in
      rw e (refl, kept_wider (omega arith) marks, λ z. kept_wider (omega arith) marks)
  kept_next (inr e) =
      let i = inside in
      let r = words_room in
      let words = line_words s l.start in
      let k : after ≡ kept l.start words ws = rw (← (found_stop s f)) e in
      let size : length (kept l.start words ws) ≡ length ws = length-sets ws (l.start + 8) (mark_word (length words) ∷ words) in
      (ap length k ∙ size, line_kept (length s + 1) k (omega arith), λ z. line_kept l.next k (found_before s f z))

-- What the mark of a line tells: how many words the line has, and that they stand behind it.
module _ (s ws : List ℕ) (start stop n : ℕ) (known : (stop ≡ line_stop s start) × KeptFrom s ws n) (inside : stop ≤ length s) (small : stop ≤ 65536)
    (after : n ≤ start + 8) (marked : kind_of (get_or ws (start + 8) 0) ≡ 53) where
  abbrev new : List ℕ
  new = token_words (tokens_from start stop s)

  new_few : length new ≤ stop - start
  new_few = part_words_few s start stop inside

  pub mark_number : (number_of (get_or ws (start + 8) 0) ≡ length new) × (length new ≤ stop - start)
  mark_number =
      let q = known.1.kept.right start after marked in
      let few = new_few in
      let mark : get_or ws (start + 8) 0 ≡ mark_word (length new) = rw known.0 q.mark in
      (omega arith, few)

  pub mark_words : take (length new) (drop (start + 8 + 1) ws) ≡ new
  mark_words =
      let nine : start + 8 + 1 ≡ start + 9 = omega arith in
      rw (nine, known.0) (known.1.kept.right start after marked).words
