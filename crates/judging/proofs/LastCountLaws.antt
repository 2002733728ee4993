-- The last count of a section's lyric lines, found by their words in the row: its digits end the line of the text that holds the words.
use Prim.Native.Nat.{ℕ, zero, suc, ◌+◌, ◌-◌, ◌<◌, ◌≤◌}
use mathlib.Core.Path.{◌≡◌, refl, sym, ap, ◌∙◌, subst}
use mathlib.Core.Bool.{Bool, true, false, ◌&&◌}
use mathlib.Core.List.{List, [], ◌∷◌, ◌++◌, map, reverse, flat_map}
use mathlib.Core.Option
use mathlib.Core.Option.{Option, none, some}
use native.Mathlib.Omega.{arith}
use borrow.Author.Tests.{ne_eqb, leb-true, ltb-true, ltb-false}
use lib.Dec.{leb, ltb}
use lib.ListN.{length, take, drop, get_or, length-append, length-take, length-drop}
use lib.Seq.{take_at}
use Rattle.songcode.specs.Lists.{provided◌then◌else◌}
use Rattle.songcode.specs.Bytes.{Byte, values, ascii, begins, placed, is_blank}
use Rattle.songcode.specs.Song.{LyricLine, Section}
use Rattle.songcode.specs.Seams.{number_written}
use Rattle.songcode.specs.Answer.Lines as text
use Rattle.songcode.specs.Answer.Sections.{lyric_line}
use Rattle.songcode.specs.Answer.Lyrics.{words_of, bracketed, between, styled, count_of}
use Rattle.songcode.specs.Answer.Tables.{offset}
use Rattle.songcode.specs.Description.WrittenText.{All}
use Rattle.songcode.specs.Description.WrittenLyrics.{CountedLine}
use Rattle.songcode.proofs.ByteLaws.{length_placed}
use Rattle.songcode.proofs.ListLaws.{by_cases, both_pass}
use Rattle.songcode.proofs.LyricLineAgree.{count_exact, words_exact}
use Rattle.text.specs.declared.lines.Line.{Line}
use Rattle.text.specs.Spans.{blank, part, line_of, line_at, line_text}
use Rattle.text.proofs.TestLaws.{false_not_true}
use Rattle.settings.proofs.PlaceLaws.{take_placed, drop_placed}
use Rattle.settings.proofs.PartLaws.{part_back}
use Rattle.score.specs.declared.lyrics.Lyric.{Lyric}
use Rattle.score.specs.Sections.{lyric_by, lyric_row}
use Rattle.score.specs.LyricLines.{lyric_at}
use Rattle.score.specs.Fitting.{LyricFits, LyricsFit}
use Rattle.score.specs.Views.{view_of}
use Rattle.score.proofs.LyricLaws.{lyric_read, two_words}
use Rattle.sections.specs.Runs.{lines_of}
use Rattle.sections.proofs.RunLaws.{lines_next}
use Rattle.laying.proofs.LyricRowLaws.{lyrics_at, lyrics_over, offset_part, length_part}
use Rattle.judging.specs.declared.counts.LastCount.{LastCount}
use Rattle.judging.specs.Lyrics.{tally_in, Inside, tallied}
use Rattle.judging.specs.Counts.{no_count, count_place, count_behind, last_count, no_lyric, later_of, later_words, later_in, count_ending, stop_in, Ends}
use Rattle.judging.specs.Counts.{Summable}
use Rattle.judging.proofs.TallyLaws.{tally_there}
use Rattle.judging.proofs.DigitLaws.{digits_inside}
use Rattle.judging.proofs.LineEndLaws.{stop_low, starts_plain, stop_inside}

-- The text of a styled line stands in its words: it begins with them, or behind a mark.
offset_placed : (a : ℕ) (w : List ℕ) → 0 < length w → offset (placed a w) ≡ a
unfolding offset placed
offset_placed a [] h = absurd (let z : ⊥ = omega arith in z)
offset_placed a (b ∷ w) h = refl

between_offset : (a : ℕ) (w : List ℕ) → 7 ≤ length w → offset (between (placed a w)) ≡ a + 3
unfolding between
between_offset a w h =
    let k = length (placed a w) - 6 in
    let l = length_placed a w in
    let d = length-drop 3 w in
    let t = length-take k (drop 3 w) in
    ap offset (ap (take k) (drop_placed 3 a w) ∙ take_placed k (a + 3) (drop 3 w)) ∙ offset_placed (a + 3) (take k (drop 3 w)) (omega arith)

seven : (mark : List ℕ) (bs : List Byte) → bracketed mark bs ≡ true → 7 ≤ length bs
unfolding bracketed
seven mark bs e = leb-true 7 (length bs) (both_pass (begins mark (values bs) && begins mark (values (reverse bs))) (leb 7 (length bs)) e).1

styled_offset : (a : ℕ) (w : List ℕ) → 0 < length w
    → (a ≤ offset (styled (placed a w)).text) × (offset (styled (placed a w)).text < a + length w)
unfolding styled provided◌then◌else◌
styled_offset a w h =
    let l = length_placed a w in
    by_cases (bracketed (ascii "***") (placed a w)) (λ e. rw e (marked (ascii "***") e))
    (λ e. by_cases (bracketed (ascii ":::") (placed a w)) (λ f. rw (e, f) (marked (ascii ":::") f))
    (λ f. let o = offset_placed a w h in rw (e, f) (omega arith, omega arith)))
  where
    marked : (mark : List ℕ) → bracketed mark (placed a w) ≡ true
        → (a ≤ offset (between (placed a w))) × (offset (between (placed a w)) < a + length w)
    marked mark e =
        let l = length_placed a w in
        let k = seven mark (placed a w) e in
        let o = between_offset a w (omega arith) in
        (omega arith, omega arith)

-- Words stand before a count: the line does not begin with a blank.
unfoldable begins_blank : List Byte → Bool
unfolding is_blank
begins_blank [] = false
begins_blank (b ∷ bs) = is_blank b

begins_part : (a k : ℕ) (w : List ℕ) → 0 < k → begins_blank (placed a (take k w)) ≡ blank (get_or w 0 0)
unfolding begins_blank placed is_blank
begins_part a zero w h = absurd (let z : ⊥ = omega arith in z)
begins_part a (suc k) [] h = refl
begins_part a (suc k) (b ∷ w) h = refl

gap_blank : (gap rest : List Byte) → 1 ≤ length gap → All is_blank gap → begins_blank (gap ++ rest) ≡ false → ⊥
unfolding All begins_blank
gap_blank [] rest p b e = let z : ⊥ = omega arith in z
gap_blank (g ∷ gs) rest p b e = false_not_true (sym e ∙ b.0)

words_some : {line : List Byte} {n : ℕ} (words : List Byte) → CountedLine line words n → begins_blank line ≡ false → 0 < length words
words_some [] c h = absurd (gap_blank c.gap _ c.parted c.blanks (ap begins_blank (sym c.written) ∙ h))
words_some (w ∷ words) c h = omega arith

-- A line of the text that has a count.
module _ (s : List ℕ) (n at k : ℕ) where
  abbrev line : Line
  line = line_at s n at

  abbrev bytes : List Byte
  bytes = placed line.start (part line.start line.stop s)

  module _ (e : (words_of bytes).count ≡ some k) where
    some_bytes : line.start < line.stop
    some_bytes =
        let d = digits_inside bytes k e in
        let low = d.0 in
        let high = d.1 in
        let g = length_placed line.start (part line.start line.stop s) in
        let t = length-take (line.stop - line.start) (drop line.start s) in
        omega arith

    size : length bytes ≡ line.stop - line.start
    size = length_part s line.start line.stop (stop_low s n at some_bytes)

    words_inside : (line.start ≤ offset (styled (words_of bytes).text).text) × (offset (styled (words_of bytes).text).text < line.stop)
    words_inside =
        let words = ((count_exact bytes k).0 e).0 in
        let c = ((count_exact bytes k).0 e).1 in
        let h = some_bytes in
        let plain = begins_part line.start (line.stop - line.start) (drop line.start s) (omega arith) ∙ starts_plain s n at h in
        let some = words_some words c plain in
        let l = ap length c.written ∙ length-append words _ in
        let z = size in
        let j = length words in
        let is : (words_of bytes).text ≡ placed line.start (take j (part line.start line.stop s)) =
        words_exact c ∙ sym (ap (take j) c.written ∙ take_at words _ j refl)
        ∙ take_placed j line.start (part line.start line.stop s) in
        let m = ap length (words_exact c) in
        let t = length_placed line.start (take j (part line.start line.stop s)) in
        let u = ap length is in
        let o = styled_offset line.start (take j (part line.start line.stop s)) (omega arith) in
        let low = o.0 in
        let high = o.1 in
        rw is (omega arith, omega arith)

    -- From the words of the line on its end is found.
    stop_same : (line_at s n (offset (styled (words_of bytes).text).text)).stop ≡ line.stop
    stop_same = stop_inside s n n at (offset (styled (words_of bytes).text).text) words_inside.0 words_inside.1

    digits_fit : length (number_written k) ≤ line.stop
    digits_fit =
        let d = (digits_inside bytes k e).1 in
        let g = size in
        omega arith

    starts : offset (drop (length bytes - length (number_written k)) bytes) ≡ line.stop - length (number_written k)
    starts =
        let d = digits_inside bytes k e in
        let low = d.0 in
        let high = d.1 in
        let g = size in
        let a = some_bytes in
        let j = length bytes - length (number_written k) in
        let place : line.start + j ≡ line.stop - length (number_written k) = omega arith in
        let rest : drop j (part line.start line.stop s) ≡ part (line.start + j) line.stop s = part_back s line.start line.stop j in
        ap offset (drop_placed j line.start (part line.start line.stop s) ∙ ap (placed (line.start + j)) rest)
        ∙ offset_part s (line.start + j) line.stop (omega arith) (stop_low s n at a) ∙ place

-- The line of the row with the last count so far tells where that stands.
pub record Tells (s : List ℕ) (l : Lyric) (c : LastCount) : Type 0 where
  pub ends : Ends s l
  pub is : count_ending l.number (stop_in s l) l.count ≡ c

-- As the code reads a line from its words.
abbrev seen : LyricLine → Lyric
seen l =
    record {
      offset = offset (styled (words_of l.text).text).text;
      length = length (styled (words_of l.text).text).text;
      number = l.number;
      count = Option.get_or (count_of l) 0;
      style = (styled (words_of l.text).text).style;
    }

module _ (s : List ℕ) (n at : ℕ) where
  abbrev here : LyricLine
  here = lyric_line (line_text s (line_at s n at))

  tells_here : (t : Lyric) (c : LastCount) → Tells s t c → LyricFits here → Tells s (later_of t (seen here)) (count_place c here (count_of here))
  unfolding lyric_line line_of LyricFits later_of provided◌then◌else◌ count_place count_of count_ending
  tells_here t c old f = by (count_of here) refl
    where
      by : (o : Option ℕ) → count_of here ≡ o → Tells s (later_of t (seen here)) (count_place c here (count_of here))
      by none e = rw e old
      by (some zero) e =
          let low = ((count_exact here.text 0).0 e).1.number.at_least in
          let z : ⊥ = omega arith in absurd z
      by (some (suc k)) e =
          rw (e, ne_eqb (suc k) 0 (λ (z : suc k ≡ 0). let y : ⊥ = omega arith in y))
          (record {
            ends = record {
              few = ((count_exact here.text (suc k)).0 e).1.number.at_most;
              fits = λ z. rw (stop_same s n at (suc k) e) (digits_fit s n at (suc k) e);
            };
            is = rw (stop_same s n at (suc k) e, starts s n at (suc k) e) refl;
          })

abbrev Told : List ℕ → Lyric → LastCount → List LyricLine → Type 0
Told s t c ls = LyricsFit ls → Tells s (later_words t (flat_map lyric_row ls)) (count_behind c ls)

module _ (s : List ℕ) (n at : ℕ) (t : Lyric) (c : LastCount) (old : Tells s t c) where
  tells_more : (ls : List LyricLine)
      → ((u : Lyric) (d : LastCount) → Tells s u d → LyricsFit ls → Tells s (later_words u (flat_map lyric_row ls)) (count_behind d ls))
      → Told s t c (here s n at ∷ ls)
  unfolding later_words flat_map count_behind LyricsFit lyric_row lyric_by
  tells_more ls on fits =
      rw (lyric_read (here s n at) fits.0)
      (on (later_of t (seen (here s n at))) (count_place c (here s n at) (count_of (here s n at))) (tells_here s n at t c old fits.0) fits.1)

-- The lines of a run, one after another.
pub tells_lines : (s : List ℕ) (left n at : ℕ) (t : Lyric) (c : LastCount) → Tells s t c → LyricsFit (lyrics_at s n at left)
    → Tells s (later_words t (flat_map lyric_row (lyrics_at s n at left))) (count_behind c (lyrics_at s n at left))
unfolding later_words flat_map count_behind
tells_lines s zero n at t c old f = old
tells_lines s (suc left) n at t c old f =
    by_cases (ltb at (length s))
    (λ h.
    let next = (line_at s n at).next in
    let more : lyrics_at s n at (suc left) ≡ here s n at ∷ lyrics_at s (n + 1) next left =
    ap (λ (ls : List text.Line). map lyric_line (take (suc left) ls)) (lines_next s n at (ltb-true at (length s) h)) in
    subst (Told s t c) (sym more) (tells_more s n at t c old (lyrics_at s (n + 1) next left) (λ u d. tells_lines s left (n + 1) next u d)) f)
    (λ h.
    let over = lyrics_over s n at (suc left) (ltb-false at (length s) h) in
    subst (Told s t c) (sym over) (λ _. old) f)

-- The line at a place of a stretch that ends before `to`; past the last line there is none.
module _ (ws : List ℕ) (to at : ℕ) where
  pub later_more : (t : Lyric) {r l : Lyric} → at + 1 < to → to ≤ length ws → l ≡ lyric_at ws at → r ≡ later_of t l
      → later_words r (drop (at + 2) (take to ws)) ≡ later_words t (drop at (take to ws))
  unfolding lyric_at later_words
  later_more t more inside is e =
      rw e (ap (λ (y : Lyric). later_words (later_of t y) (drop (at + 2) (take to ws))) is ∙ ap (later_words t) (sym (two_words ws to at more inside)))

  pub later_over : (t : Lyric) → to ≤ at + 1 → later_words t (drop at (take to ws)) ≡ t
  unfolding later_words
  later_over t h =
      let n = length-take to ws in
      let k = length-drop at (take to ws) in
      short (drop at (take to ws)) (omega arith)
    where
      short : (l : List ℕ) → length l ≤ 1 → later_words t l ≡ t
      short [] z = refl
      short (a ∷ []) z = refl
      short (a ∷ b ∷ l) z = absurd (let y : ⊥ = omega arith in y)

tells_none : (s : List ℕ) → Tells s no_lyric no_count
unfolding count_ending
tells_none s = record { ends = record { few = omega arith; fits = λ z. absurd (z refl) }; is = refl }

-- The section that stands at a place of the row.
module _ {s ws : List ℕ} {at : ℕ} {x : Section} (m : Summable s ws at x) where
  pub lyrics_within : Inside ws (view_of ws at).lyrics
  lyrics_within =
      let d = ap (λ (new : List ℕ). length new) m.words.words in
      let k = m.words.size in
      record { low = m.ends; size = omega arith }

  pub lyrics_told : tally_in ws (view_of ws at).lyrics ≡ tallied x.lyrics
  lyrics_told = tally_there ws (view_of ws at).lyrics x.lyrics m.fits m.words

  pub last_told : Tells s (later_in ws (view_of ws at).lyrics) (last_count x.lyrics)
  unfolding later_in last_count lines_of
  last_told =
      let run = m.run in
      rw m.words.words
      (subst (λ (ls : List LyricLine). Tells s (later_words no_lyric (flat_map lyric_row ls)) (count_behind no_count ls)) m.lyrics
      (tells_lines s run.lines run.number run.at no_lyric no_count (tells_none s) (subst LyricsFit (sym m.lyrics) m.fits)))
