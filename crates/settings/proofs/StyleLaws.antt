-- The style of a text by its marks, and what lies between them as a part of the text.
use Prim.Native.Nat.{ℕ, ◌+◌, ◌-◌, ◌<◌, ◌≤◌}
use mathlib.Core.Path.{◌≡◌, sym, ◌∙◌}
use mathlib.Core.List.{List, [], ◌∷◌, reverse}
use mathlib.Core.Bool.{true, false, ◌&&◌, and-true, and-false}
use native.Mathlib.Omega.{arith}
use borrow.Author.Tests.{le-leb, lt-leb, leb-true}
use lib.Dec.{leb}
use lib.ListN.{length, get_or, drop, length-drop, length-reverse}
use lib.Seq.{length-take-le}
use Rattle.songcode.specs.Lists.{provided◌then◌else◌}
use Rattle.songcode.specs.Bytes.{Byte, placed, ascii, begins}
use Rattle.songcode.specs.Answer.Lyrics.{bracketed, between, styled}
use Rattle.songcode.proofs.ByteLaws.{length_placed}
use Rattle.songcode.proofs.ListLaws.{both_pass}
use Rattle.text.specs.Spans.{part}
use Rattle.settings.proofs.PartLaws.{part_back, part_front}
use Rattle.settings.proofs.PlaceLaws.{Placeless, take_placed, drop_placed}
use Rattle.settings.proofs.LyricLaws.{bracketed_values, begins_three, get_d_reverse}

pub bracketed_placeless : (mark : List ℕ) → Placeless (bracketed mark)
bracketed_placeless mark a w = bracketed_values mark a w ∙ sym (bracketed_values mark 0 w)

-- The three bytes in front, and the last three from the end.
abbrev pub first_three : List ℕ → List ℕ
first_three w = get_or w 0 0 ∷ get_or w 1 0 ∷ get_or w 2 0 ∷ []

abbrev pub last_three : List ℕ → List ℕ
last_three w = get_or w (length w - 1) 0 ∷ get_or w (length w - 2) 0 ∷ get_or w (length w - 3) 0 ∷ []

pub marked_short : (mark w : List ℕ) → length w < 7 → bracketed mark (placed 0 w) ≡ false
marked_short mark w h = bracketed_values mark 0 w ∙ rw (lt-leb 7 (length w) h) (and-false (begins mark w && begins mark (reverse w)))

pub marked_by : (m : ℕ) (w : List ℕ) → 7 ≤ length w → bracketed (m ∷ m ∷ m ∷ []) (placed 0 w) ≡ begins (m ∷ m ∷ m ∷ []) (first_three w) && begins
    (m ∷ m ∷ m ∷ []) (last_three w)
marked_by m w h =
    let n = length-reverse w in
    bracketed_values (m ∷ m ∷ m ∷ []) 0 w
    ∙ rw (
      le-leb 7 (length w) h,
      begins_three m w (omega arith),
      begins_three m (reverse w) (omega arith),
      get_d_reverse w 0 (omega arith),
      get_d_reverse w 1 (omega arith),
      get_d_reverse w 2 (omega arith),
    )
    (and-true (begins (m ∷ m ∷ m ∷ []) (first_three w) && begins (m ∷ m ∷ m ∷ []) (last_three w)))

pub marked_length : (mark w : List ℕ) → bracketed mark (placed 0 w) ≡ true → 7 ≤ length w
marked_length mark w e =
    leb-true 7 (length w) (both_pass (begins mark w && begins mark (reverse w)) (leb 7 (length w)) (sym (bracketed_values mark 0 w) ∙ e)).1

length_part : (s : List ℕ) (a e : ℕ) → a ≤ e → e ≤ length s → length (part a e s) ≡ e - a
length_part s a e h k = let n = length-drop a s in length-take-le (e - a) (drop a s) (omega arith)

pub marked_room : (mark s : List ℕ) (a e : ℕ) → a ≤ e → e ≤ length s → bracketed mark (placed 0 (part a e s)) ≡ true → a + 7 ≤ e
marked_room mark s a e h k m =
    let n = length_part s a e h k in
    let l = marked_length mark (part a e s) m in
    omega arith

pub between_part : (s : List ℕ) (a e : ℕ) → a + 7 ≤ e → e ≤ length s → between (placed a (part a e s)) ≡ placed (a + 3) (part (a + 3) (e - 3) s)
unfolding between
between_part s a e h k =
    let n = length_part s a e (omega arith) k in
    let f : a + 3 + (e - a - 6) ≡ e - 3 = omega arith in
    rw (
      drop_placed 3 a (part a e s),
      length_placed a (part a e s),
      n,
      part_back s a e 3,
      take_placed (e - a - 6) (a + 3) (part (a + 3) e s),
      part_front s (a + 3) e (e - a - 6) (omega arith),
      f,
    )

pub style_one : (bs : List Byte) → bracketed (ascii "***") bs ≡ true → styled bs ≡ record { style = 1; text = between bs }
unfolding styled provided◌then◌else◌
style_one bs e = rw e

pub style_two : (bs : List Byte) → bracketed (ascii "***") bs ≡ false → bracketed (ascii ":::") bs ≡ true → styled bs ≡ record { style = 2; text = between bs }
unfolding styled provided◌then◌else◌
style_two bs e f = rw (e, f)

pub style_none : (bs : List Byte) → bracketed (ascii "***") bs ≡ false → bracketed (ascii ":::") bs ≡ false → styled bs ≡ record { style = 0; text = bs }
unfolding styled provided◌then◌else◌
style_none bs e f = rw (e, f)
