-- Lyric lines tallied one after another: the tally of some lines joined with the tally of the others.
use Prim.Native.Nat.{ℕ, zero, suc, ◌+◌, ◌<◌, ◌≤◌, min}
use mathlib.Core.Path.{◌≡◌, refl, sym, ap, ◌∙◌}
use mathlib.Core.List.{List, [], ◌∷◌, flat_map}
use mathlib.Core.Bool.{Bool, false, ◌||◌, or-false, or-true}
use mathlib.Core.Option.{get_or}
use native.Mathlib.Omega.{arith}
use lib.Dec.{eqb, ltb}
use lib.ListN.{length, take, drop, length-take, length-drop}
use borrow.Author.Tests.{ne_eqb, eqb-true, ltb-true, ltb-false}
use Rattle.songcode.specs.Lists.{provided◌then◌else◌, is_some, any}
use Rattle.songcode.specs.Song.{LyricLine}
use Rattle.songcode.specs.Answer.Lyrics.{count_of, is_counted, counted}
use Rattle.songcode.proofs.ListLaws.{by_cases}
use Rattle.settings.specs.LyricParts.{count_from}
use Rattle.score.specs.declared.lyrics.Lyric.{Lyric}
use Rattle.score.specs.declared.stretches.Stretch.{Stretch}
use Rattle.score.specs.Sections.{lyric_by, lyric_row}
use Rattle.score.specs.Fitting.{LyricsFit}
use Rattle.score.specs.Seen.{Holds}
use Rattle.score.specs.LyricLines.{lyric_at}
use Rattle.score.proofs.LyricLaws.{lyric_read, two_words}
use Rattle.sections.specs.declared.blocks.Place.{Place}
use Rattle.sections.specs.declared.values.Keys.{Keys}
use Rattle.sections.specs.Onward.{section_at}
use Rattle.laying.specs.declared.texts.Opened.{Opened}
use Rattle.laying.specs.Rows.{RoomFor, Lays}
use Rattle.judging.specs.declared.lyrics.Tally.{Tally}
use Rattle.judging.specs.Lyrics.{first_line, with_line, no_lines, tally_words, tally_in, Inside, bare_line, tallied}
use Rattle.judging.proofs.LyricLaws.{count_said}

-- The first of two lines, where 0 is none.
pub zero_first : (b : ℕ) → first_line 0 b ≡ b
unfolding first_line provided◌then◌else◌
zero_first b = refl

pub first_zero : (a : ℕ) → first_line a 0 ≡ a
unfolding first_line provided◌then◌else◌
first_zero a = by_cases (eqb a 0) (λ e. rw e (sym (eqb-true a 0 e))) (λ e. rw e)

pub first_two : (a b : ℕ) → first_line (suc a) (suc b) ≡ suc (min a b)
unfolding first_line provided◌then◌else◌
first_two a b =
    let p = ne_eqb (suc a) 0 (λ (z : suc a ≡ 0). let y : ⊥ = omega arith in y) in
    let q = ne_eqb (suc b) 0 (λ (z : suc b ≡ 0). let y : ⊥ = omega arith in y) in
    by_cases (ltb (suc b) (suc a))
    (λ e. let h = ltb-true (suc b) (suc a) e in rw (p, q, e) (omega arith))
    (λ e. let h = ltb-false (suc b) (suc a) e in rw (p, q, e) (omega arith))

pub first_assoc : (a b c : ℕ) → first_line a (first_line b c) ≡ first_line (first_line a b) c
first_assoc zero b c = zero_first (first_line b c) ∙ ap (λ (k : ℕ). first_line k c) (sym (zero_first b))
first_assoc (suc a) zero c = ap (first_line (suc a)) (zero_first c) ∙ ap (λ (k : ℕ). first_line k c) (sym (first_zero (suc a)))
first_assoc (suc a) (suc b) zero = ap (first_line (suc a)) (first_zero (suc b)) ∙ sym (first_zero (first_line (suc a) (suc b)))
first_assoc (suc a) (suc b) (suc c) =
    let e : min a (min b c) ≡ min (min a b) c = omega arith in
    ap (first_line (suc a)) (first_two b c) ∙ first_two a (min b c) ∙ ap suc e ∙ sym (first_two (min a b) c)
    ∙ ap (λ (k : ℕ). first_line k (suc c)) (sym (first_two a b))

tally_is : {a b c d m n : ℕ} {x y : Bool} → a ≡ b → c ≡ d → x ≡ y → m ≡ n
    → ◌≡◌ {A = Tally} (record { lines = a; sum = c; counted = x; bare = m }) (record { lines = b; sum = d; counted = y; bare = n })
tally_is p q r s = rw (p, q, r, s)

unfoldable joined : Tally → Tally → Tally
joined t u = record { lines = t.lines + u.lines; sum = t.sum + u.sum; counted = t.counted || u.counted; bare = first_line t.bare u.bare }

joined_none : (t : Tally) → joined t (tallied []) ≡ t
unfolding joined tallied any counted bare_line
joined_none t = tally_is (omega arith) (omega arith) (or-false t.counted) (first_zero t.bare)

none_joined : (u : Tally) → joined (record { lines = 0; sum = 0; counted = false; bare = 0 }) u ≡ u
unfolding joined
none_joined u = tally_is (omega arith) (omega arith) refl (zero_first u.bare)

joined_more : (t : Tally) (l : LyricLine) (ls : List LyricLine) (k : ℕ) → count_of l ≡ count_from k
    → joined (with_line t l.number k) (tallied ls) ≡ joined t (tallied (l ∷ ls))
unfolding joined with_line tallied any counted bare_line is_counted is_some count_from provided◌then◌else◌
joined_more t l ls zero e =
    tally_is (omega arith) (rw e (omega arith)) (rw e) (rw e (sym (first_assoc t.bare l.number (bare_line ls))))
joined_more t l ls (suc k) e =
    rw (ne_eqb (suc k) 0 (λ (z : suc k ≡ 0). let y : ⊥ = omega arith in y))
    (tally_is (omega arith) (rw e (omega arith)) (rw e (sym (or-true t.counted))) (rw e))

pub with_lines : (t : Tally) (n k : ℕ) → (with_line t n k).lines ≡ t.lines + 1
unfolding with_line provided◌then◌else◌
with_lines t n k = by_cases (eqb k 0) (λ e. rw e) (λ e. rw e)

pub with_sum : (t : Tally) (n k : ℕ) → (with_line t n k).sum ≡ t.sum + k
unfolding with_line provided◌then◌else◌
with_sum t n k = by_cases (eqb k 0) (λ e. let z = eqb-true k 0 e in rw e (omega arith)) (λ e. rw e)

-- The words of the lines tell their tally.
tally_read : (t : Tally) (ls : List LyricLine) → LyricsFit ls → tally_words t (flat_map lyric_row ls) ≡ joined t (tallied ls)
unfolding flat_map lyric_row lyric_by LyricsFit tally_words
tally_read t [] f = sym (joined_none t)
tally_read t (l ∷ ls) f =
    ap (λ (y : Lyric). tally_words (with_line t y.number y.count) (flat_map lyric_row ls)) (lyric_read l f.0)
    ∙ tally_read (with_line t l.number (get_or (count_of l) 0)) ls f.1
    ∙ joined_more t l ls (get_or (count_of l) 0) (count_said l)

pub tally_there : (ws : List ℕ) (t : Stretch) (ls : List LyricLine) → LyricsFit ls → Holds ws t (flat_map lyric_row ls) → tally_in ws t ≡ tallied ls
unfolding tally_in
tally_there ws t ls f h = ap (tally_words no_lines) h.words ∙ tally_read no_lines ls f ∙ none_joined (tallied ls)

-- The line at a place of a stretch that ends before `to`; past the last line there is none.
module _ (ws : List ℕ) (to at : ℕ) where
  pub tally_more : (t : Tally) {r : Tally} {l : Lyric} → at + 1 < to → to ≤ length ws → l ≡ lyric_at ws at → r ≡ with_line t l.number l.count
      → tally_words r (drop (at + 2) (take to ws)) ≡ tally_words t (drop at (take to ws))
  unfolding lyric_at tally_words
  tally_more t more inside is e =
      rw e (ap (λ (y : Lyric). tally_words (with_line t y.number y.count) (drop (at + 2) (take to ws))) is
      ∙ ap (tally_words t) (sym (two_words ws to at more inside)))

  pub tally_over : (t : Tally) → to ≤ at + 1 → tally_words t (drop at (take to ws)) ≡ t
  unfolding tally_words
  tally_over t h =
      let n = length-take to ws in
      let k = length-drop at (take to ws) in
      short (drop at (take to ws)) (omega arith)
    where
      short : (l : List ℕ) → length l ≤ 1 → tally_words t l ≡ t
      short [] z = refl
      short (a ∷ []) z = refl
      short (a ∷ b ∷ l) z = absurd (let y : ⊥ = omega arith in y)

-- The lyric lines of a section that is laid.
module _ {s old ws : List ℕ} {p : Place} {song : Keys} {at : ℕ} (r : Opened) (l : Lays s p song at old ws r) where
  pub lyrics_inside : Inside ws r.lyrics
  unfolding RoomFor
  lyrics_inside =
      let e = l.lyrics_end in
      let b = l.room in
      let z = l.before.ready.small in
      let d = ap (λ (new : List ℕ). length new) l.lyrics.words in
      let k = l.lyrics.size in
      record { low = omega arith; size = omega arith }

  pub lyrics_tallied : tally_in ws r.lyrics ≡ tallied (section_at s p).lyrics
  lyrics_tallied = tally_there ws r.lyrics (section_at s p).lyrics l.fits.lyrics l.lyrics
