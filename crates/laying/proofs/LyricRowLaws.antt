-- The lyric lines of a run, line by line, and the words of each.
use Prim.Native.Nat.{ℕ, zero, suc, ◌+◌, ◌-◌, ◌*◌, ◌<◌, ◌≤◌}
use mathlib.Core.Path.{◌≡◌, refl, sym, ap, ◌∙◌, subst}
use mathlib.Core.List.{List, [], ◌∷◌, map}
use mathlib.Core.Option.{get_or}
use native.Mathlib.Omega.{arith}
use borrow.Author.Tests.{eqb-true, eqb-false, ltb-true, ltb-false}
use lib.Dec.{eqb, ltb}
use lib.ListN.{length, take}
use Rattle.songcode.specs.Lists.{provided◌then◌else◌, taken, left}
use Rattle.songcode.specs.Bytes.{placed}
use Rattle.songcode.specs.Song.{LyricLine}
use Rattle.songcode.specs.Answer.Lines as text
use Rattle.songcode.specs.Answer.Sections.{lyric_line, not_dashes, from_dashes}
use Rattle.songcode.specs.Answer.Lyrics as songcode
use Rattle.songcode.specs.Answer.Lyrics.{words_of, count_of, styled}
use Rattle.songcode.specs.Answer.Tables.{offset}
use Rattle.songcode.proofs.ByteLaws.{length_placed}
use Rattle.songcode.proofs.ListLaws.{by_cases, Each}
use Rattle.text.specs.declared.lines.Line.{Line}
use Rattle.text.specs.Spans.{part, line_of, line_at, Found}
use Rattle.text.proofs.WalkLaws.{part_length}
use Rattle.settings.specs.declared.lyrics.Words.{Words}
use Rattle.settings.specs.declared.lyrics.Styled.{Styled}
use Rattle.settings.specs.LyricParts.{count_from, words_from, styled_from}
use Rattle.sections.specs.declared.runs.Run.{Run}
use Rattle.sections.specs.declared.runs.Test.TheVariants.{Full}
use Rattle.sections.specs.Runs.{text_lines, passing, lines_of}
use Rattle.sections.specs.BlockParts.{block_at, behind_dashes}
use Rattle.sections.proofs.ListLaws.{each_taken, each_left}
use Rattle.sections.proofs.MeetLaws.{From, from_lines}
use Rattle.sections.proofs.RunLaws.{lines_found, lines_next, lines_over}
use Rattle.score.specs.Sections.{lyric_by, lyric_row}
use Rattle.score.specs.Fitting.{LyricFits}
use Rattle.laying.specs.Rows.{place_word}

-- So many lyric lines from a line on, as far as the text has them.
abbrev pub lyrics_at : List ℕ → ℕ → ℕ → ℕ → List LyricLine
lyrics_at s n at left = map lyric_line (take left (text_lines s n at))

abbrev pub lyric_at : List ℕ → ℕ → Line → LyricLine
lyric_at s n l = record { number = n; text = placed l.start (part l.start l.stop s) }

pub count_or : (k : ℕ) → get_or (count_from k) 0 ≡ k
unfolding count_from
count_or zero = refl
count_or (suc k) = refl

module _ (s : List ℕ) (n at left : ℕ) where
  pub lyrics_none : left ≡ 0 → lyrics_at s n at left ≡ []
  lyrics_none e = rw e

  pub lyrics_over : length s ≤ at → lyrics_at s n at left ≡ []
  lyrics_over h = rw (lines_over s n at h) (nil left)
    where
      nil : (k : ℕ) → map lyric_line (take k []) ≡ []
      nil zero = refl
      nil (suc k) = refl

  pub lyrics_more : {l : Line} → Found s n at l → at < length s → (left ≡ 0 → ⊥)
      → lyrics_at s n at left ≡ lyric_at s n l ∷ lyrics_at s (n + 1) l.next (left - 1)
  unfolding lyric_line
  lyrics_more f h some_left =
      let e : left ≡ suc (left - 1) = omega arith in
      ap (λ (k : ℕ). map lyric_line (take k (text_lines s n at))) e ∙ rw (lines_found f h, f.number)

-- A text from one place up to another.
pub offset_part : (s : List ℕ) (a e : ℕ) → a < e → e ≤ length s → offset (placed a (part a e s)) ≡ a
unfolding offset placed
offset_part s a e h f = first (part a e s) (let l = part_length s a e f in omega arith)
  where
    first : (w : List ℕ) → 0 < length w → offset (placed a w) ≡ a
    first [] z = absurd (let y : ⊥ = omega arith in y)
    first (b ∷ w) z = refl

pub length_part : (s : List ℕ) (a e : ℕ) → e ≤ length s → length (placed a (part a e s)) ≡ e - a
length_part s a e f = length_placed a (part a e s) ∙ part_length s a e f

nothing_part : (s : List ℕ) (a e : ℕ) → a ≡ e → placed a (part a e s) ≡ []
unfolding placed
nothing_part s a e h = let z : e - a ≡ 0 = omega arith in rw z

place_is : (s : List ℕ) (a e : ℕ) → a ≤ e → e ≤ length s → place_word a e ≡ offset (placed a (part a e s)) * 65536 + length (placed a (part a e s))
unfolding place_word provided◌then◌else◌ offset
place_is s a e h f =
    by_cases (eqb a e)
    (λ t. rw (t, nothing_part s a e (eqb-true a e t)) refl)
    (λ t. let ne = eqb-false a e t in rw (t, offset_part s a e (omega arith) f, length_part s a e f) refl)

-- The words of a line whose count and style are read, and that they fit.
module _ (s : List ℕ) (number start stop : ℕ) (w : Words) (t : Styled) (e : words_of (placed start (part start stop s)) ≡ words_from w start s)
    (f : styled (placed start (part start w.stop s)) ≡ styled_from t s) where
  abbrev line : LyricLine
  line = record { number = number; text = placed start (part start stop s) }

  said : get_or (count_of line) 0 ≡ w.count
  unfolding count_of
  said = ap (λ (x : songcode.Words). get_or x.count 0) e ∙ count_or w.count

  style : styled (words_of line.text).text ≡ styled_from t s
  style = ap (λ (x : songcode.Words). styled x.text) e ∙ f

  pub lyric_words : t.start ≤ t.stop → t.stop ≤ length s
      → lyric_row line ≡ place_word t.start t.stop ∷ ((number - 1) * 65536 + w.count * 4 + t.style) ∷ []
  unfolding lyric_row lyric_by
  lyric_words h k = rw (said, style, place_is s t.start t.stop h k) refl

  pub lyric_fits : 1 ≤ number → number ≤ 65536 → w.count ≤ 9999 → t.style ≤ 2 → 0 < t.start → t.start ≤ t.stop → t.stop ≤ length s
      → length s ≤ 65536 → LyricFits line
  unfolding LyricFits offset
  lyric_fits a b c d g h k small =
      rw (said, style)
      (record {
        place = by_cases (eqb t.start t.stop)
            (λ z. rw (nothing_part s t.start t.stop (eqb-true _ _ z)) (omega arith))
            (λ z. let ne = eqb-false t.start t.stop z in rw (offset_part s t.start t.stop (omega arith) k) (omega arith));
        short = rw (length_part s t.start t.stop k) (omega arith);
        first = a;
        last = b;
        few = c;
        style = d;
      })

-- The first of some lines has the number that they begin with.
first_number : (s : List ℕ) (n m at k : ℕ) → 0 < length (take k (text_lines s m at)) → Each (From n) (take k (text_lines s m at)) → n ≤ m
unfolding Each line_of
first_number s n m at zero h e = absurd (let y : ⊥ = omega arith in y)
first_number s n m at (suc k) h e =
    by_cases (ltb at (length s))
    (λ t.
    let lines = lines_next s m at (ltb-true at (length s) t) in
    (subst (λ (ls : List text.Line). Each (From n) (take (suc k) ls)) lines e).0)
    (λ t.
    let lines = lines_over s m at (ltb-false at (length s) t) in
    let none : 0 < 0 = subst (λ (ls : List text.Line). 0 < length (take (suc k) ls)) lines h in
    absurd (let y : ⊥ = omega arith in y))

each_behind : (P : text.Line → Type 0) (ls : List text.Line) → Each P ls → Each P (behind_dashes ls)
unfolding Each behind_dashes
each_behind P [] e = tt
each_behind P (l ∷ ls) e = e.1

-- A section's lyric lines stand behind its header.
pub lyrics_behind : (s : List ℕ) (n at : ℕ) (run : Run) → lines_of s run ≡ behind_dashes (from_dashes (block_at s n at)) → 0 < length (lines_of s run)
    → n + 1 ≤ run.number
unfolding lines_of block_at from_dashes
lyrics_behind s n at run e h =
    let all = text_lines s (n + 1) (line_at s n at).next in
    let others = each_taken (From (n + 1)) (passing Full) all (from_lines s (n + 1) (line_at s n at).next) in
    let lyrics = each_behind (From (n + 1)) (left not_dashes (taken (passing Full) all))
    (each_left (From (n + 1)) not_dashes (taken (passing Full) all) others) in
    first_number s (n + 1) run.number run.at run.lines h (subst (Each (From (n + 1))) (sym e) lyrics)
