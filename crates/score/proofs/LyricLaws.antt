-- The two words of a lyric line tell what it says; the line at a place of a stretch.
use Prim.Native.Nat.{ℕ, suc, ◌+◌, ◌-◌, ◌*◌, ◌^◌, ◌/◌, ◌%◌, ◌<◌, ◌≤◌}
use mathlib.Core.Path.{◌≡◌, ◌∙◌}
use mathlib.Core.List.{List, ◌∷◌}
use mathlib.Core.Option
use native.Mathlib.Omega.{arith}
use lib.ListN.{length, take, drop, get_or, length-take}
use lib.Seq.{drop-cons, get_or-take}
use Rattle.songcode.specs.Song.{LyricLine}
use Rattle.songcode.specs.Answer.Lyrics.{Styled, words_of, styled, count_of}
use Rattle.songcode.specs.Answer.Tables.{offset}
use Rattle.score.specs.LyricLines.{lyric_in}
use Rattle.score.specs.Fitting.{LyricBounds, LyricFits}

module _ (number count : ℕ) (w : Styled) (f : LyricBounds number count w) where
  abbrev place : ℕ
  place = offset w.text * 2 ^ 16 + length w.text

  abbrev rest : ℕ
  rest = (number - 1) * 2 ^ 16 + count * 2 ^ 2 + w.style

  line_read : lyric_in place rest ≡ record { offset = offset w.text; length = length w.text; number = number; count = count; style = w.style }
  unfolding lyric_in
  line_read =
      let short = f.short in
      let few = f.few in
      let style = f.style in
      let one = f.first in
      let a : place / 65536 ≡ offset w.text = omega arith in
      let b : place % 65536 ≡ length w.text = omega arith in
      let c : rest / 65536 + 1 ≡ number = omega arith in
      let d : rest / 4 % 16384 ≡ count = omega arith in
      let e : rest % 4 ≡ w.style = omega arith in
      rw (a, b, c, d, e)

-- What the code reads of the line whose words these are.
pub lyric_read : (l : LyricLine) → LyricFits l → lyric_in
    (offset (styled (words_of l.text).text).text * 2 ^ 16 + length (styled (words_of l.text).text).text)
    ((l.number - 1) * 2 ^ 16 + Option.get_or (count_of l) 0 * 2 ^ 2 + (styled (words_of l.text).text).style)
    ≡ record {
      offset = offset (styled (words_of l.text).text).text;
      length = length (styled (words_of l.text).text).text;
      number = l.number;
      count = Option.get_or (count_of l) 0;
      style = (styled (words_of l.text).text).style;
    }
unfolding LyricFits
lyric_read l f = line_read l.number (Option.get_or (count_of l) 0) (styled (words_of l.text).text) f

-- A line is left before the end of the stretch.
pub two_words : (ws : List ℕ) (to at : ℕ) → at + 1 < to → to ≤ length ws
    → drop at (take to ws) ≡ get_or ws at 0 ∷ get_or ws (at + 1) 0 ∷ drop (at + 2) (take to ws)
two_words ws to at h l =
    let n = length-take to ws in
    let k : suc at ≡ at + 1 = omega arith in
    let j : suc (at + 1) ≡ at + 2 = omega arith in
    let a = drop-cons (take to ws) at 0 (omega arith) in
    let b = drop-cons (take to ws) (at + 1) 0 (omega arith) in
    let c : get_or (take to ws) at 0 ≡ get_or ws at 0 = get_or-take to ws at 0 (omega arith) in
    let d : get_or (take to ws) (at + 1) 0 ≡ get_or ws (at + 1) 0 = get_or-take to ws (at + 1) 0 h in
    a ∙ rw (k, b, c, d, j)
