-- The longest run of lines, line by line.
use Prim.Native.Nat.{ℕ, ◌+◌, ◌<◌, ◌≤◌}
use mathlib.Core.Path.{◌≡◌, refl, sym, ap, ◌∙◌}
use mathlib.Core.List.{List, [], ◌∷◌, ◌++◌, map, append-nil, append_assoc}
use mathlib.Core.Bool.{Bool, true, false}
use native.Mathlib.Omega.{arith}
use native.Mathlib.Nat.{add-zero}
use lib.ListN.{length, take, drop}
use Rattle.songcode.specs.Lists.{provided◌then◌else◌, taken, left}
use Rattle.songcode.specs.Bytes.{placed}
use Rattle.songcode.specs.Answer.Lines as songcode
use Rattle.text.specs.declared.lines.Line.{Line}
use Rattle.text.specs.Spans.{part, line_of, line_at, line_text, Found}
use Rattle.text.proofs.WalkLaws.{spans_next, spans_found, spans_over}
use Rattle.settings.proofs.PlaceLaws.{Placeless}
use Rattle.settings.proofs.ValueLaws.{is_placeless}
use Rattle.sections.specs.declared.runs.Test.{Test}
use Rattle.sections.specs.declared.runs.Test.TheVariants.{Full, Body, Early, Pattern}
use Rattle.sections.specs.Runs.{text_lines, opens, parted, passing, lines_of, lines_behind, Longest}
use Rattle.sections.proofs.ListLaws.{take_more, drop_more}
use Rattle.sections.proofs.TestLaws.{shut_fails, parted_fails, whole_passes}

-- A `--` is seen at the values of bytes alone.
parted_placeless : (t : Test) → Placeless (parted t)
unfolding parted
parted_placeless Full a w = refl
parted_placeless Body a w = is_placeless "--" a w
parted_placeless Early a w = refl
parted_placeless Pattern a w = is_placeless "--" a w

-- What is left at a place is the line there, and what is left at the next one; behind the text there is nothing.
pub lines_found : {s : List ℕ} {n at : ℕ} {l : Line} → Found s n at l → at < length s → text_lines s n at ≡ line_text s l ∷ text_lines s (n + 1) l.next
unfolding text_lines
lines_found {s} f h = ap (map (line_text s)) (spans_found f h)

pub lines_next : (s : List ℕ) (n at : ℕ) → at < length s → text_lines s n at ≡ line_text s (line_at s n at) ∷ text_lines s (n + 1) (line_at s n at).next
unfolding text_lines
lines_next s n at h = ap (map (line_text s)) (spans_next s n at h)

pub lines_over : (s : List ℕ) (n at : ℕ) → length s ≤ at → text_lines s n at ≡ []
unfolding text_lines
lines_over s n at h = ap (map (line_text s)) (spans_over s n at h)

-- The tests of a line, at the line as it was found.
module _ (s : List ℕ) (t : Test) {n at : ℕ} {l : Line} (f : Found s n at l) {r : Bool} (o : r ≡ opens t (line_text s (line_at s 0 at)).text) where
  here_opens : {b : Bool} → r ≡ b → opens t (line_text s l).text ≡ b
  unfolding line_of
  here_opens e = rw f.is (sym o ∙ e)

  module _ {p : Bool} (q : p ≡ parted t (placed 0 (part l.start l.stop s))) (e : r ≡ true) where
    here_parted : {b : Bool} → p ≡ b → parted t (line_text s l).text ≡ b
    here_parted h = parted_placeless t l.start (part l.start l.stop s) ∙ sym q ∙ h

    pub tested_parted : p ≡ true → passing t (line_text s l) ≡ false
    unfolding passing
    tested_parted h = parted_fails t (line_text s l).text (here_opens e) (here_parted h)

    pub tested_whole : p ≡ false → passing t (line_text s l) ≡ true
    unfolding passing
    tested_whole h = whole_passes t (line_text s l).text (here_opens e) (here_parted h)

pub tested_shut : (s : List ℕ) (t : Test) (n at : ℕ) {r : Bool} → r ≡ opens t (line_text s (line_at s 0 at)).text → r ≡ false
    → passing t (line_text s (line_at s n at)) ≡ false
unfolding passing line_of
tested_shut s t n at o e = shut_fails t (line_text s (line_at s n at)).text (sym o ∙ e)

-- So many lines from a line on pass the test, and the next line begins at a place.
pub record Walked (s : List ℕ) (test : songcode.Line → Bool) (n at k i : ℕ) : Type 0 where
  pub lines : taken test (text_lines s n at) ≡ take k (text_lines s n at) ++ taken test (text_lines s (n + k) i)
  pub behind : left test (text_lines s n at) ≡ left test (text_lines s (n + k) i)
  pub rest : drop k (text_lines s n at) ≡ text_lines s (n + k) i

-- From a place on no line more passes it.
pub record Stopped (s : List ℕ) (test : songcode.Line → Bool) (n i : ℕ) : Type 0 where
  pub lines : taken test (text_lines s n i) ≡ []
  pub behind : left test (text_lines s n i) ≡ text_lines s n i

module _ (s : List ℕ) (test : songcode.Line → Bool) (n at : ℕ) where
  pub walked_none : Walked s test n at 0 at
  walked_none = record { lines = rw add-zero; behind = rw add-zero; rest = rw add-zero }

  module _ (k i : ℕ) {l : Line} (f : l ≡ line_at s (n + k) i) (h : i < length s) (w : Walked s test n at k i) where
    here : text_lines s (n + k) i ≡ line_text s l ∷ text_lines s (n + (k + 1)) l.next
    here = let e : n + k + 1 ≡ n + (k + 1) = omega arith in rw f (lines_next s (n + k) i h ∙ rw e refl)

    pub walked_more : test (line_text s l) ≡ true → Walked s test n at (k + 1) l.next
    unfolding taken left provided◌then◌else◌
    walked_more p =
        let rest = text_lines s (n + (k + 1)) l.next in
        record {
          lines = w.lines ∙ rw (here, p, take_more k (text_lines s n at) (w.rest ∙ here))
              (sym (append_assoc (take k (text_lines s n at)) (line_text s l ∷ []) (taken test rest)));
          behind = w.behind ∙ rw (here, p);
          rest = drop_more k (text_lines s n at) (w.rest ∙ here);
        }

    pub walked_stop : test (line_text s l) ≡ false → Stopped s test (n + k) i
    unfolding taken left provided◌then◌else◌
    walked_stop p = record { lines = rw (here, p); behind = rw (here, p) }

  pub walked_over : (k i : ℕ) → length s ≤ i → Stopped s test (n + k) i
  unfolding taken left
  walked_over k i h = let e = lines_over s (n + k) i h in record { lines = rw e; behind = rw e }

-- No line more passes: the run is the longest.
pub longest : (s : List ℕ) (t : Test) (n at k i : ℕ) → at ≤ i → i ≤ length s → at + k ≤ i → Walked s (passing t) n at k i → Stopped s (passing t) (n + k) i
    → Longest s t n at (record { number = n; at = at; lines = k; next = i })
unfolding lines_of lines_behind
longest s t n at k i a b c w e =
    record {
      number = refl;
      place = refl;
      onward = a;
      inside = b;
      counted = c;
      lines = sym (w.lines ∙ rw e.lines (append-nil (take k (text_lines s n at))));
      behind = sym (w.behind ∙ e.behind);
    }
