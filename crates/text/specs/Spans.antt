-- The lines of a text as places in it: what the code finds line by line.
use Rattle.std.specs.Prelude.{ℕ, zero, suc, ◌+◌, ◌-◌, ◌≤◌, min, max, ◌≡◌, List, [], ◌∷◌, Bool, true, false, length, take, drop, get_or}
use Rattle.songcode.specs.Lists.{provided◌then◌else◌, is_empty}
use Rattle.songcode.specs.Bytes.{Byte, placed, is_blank}
use Rattle.songcode.specs.Answer.Lines.{Ending, lf, cr, inside, ending}
use Rattle.songcode.specs.Answer.Lines as songcode
use Rattle.text.specs.declared.lines.Line.{Line}

-- A byte, wherever it stands, is a blank; is a line end.
abbrev byte : ℕ → Byte
byte b = record { place = 0; value = b }

abbrev pub blank : ℕ → Bool
blank b = is_blank (byte b)

abbrev pub end : ℕ → Ending
end b = ending (byte b)

unfoldable pub ends : Ending → Bool
ends inside = false
ends lf = true
ends cr = true

-- The bytes from one place up to another.
abbrev pub part : ℕ → ℕ → List ℕ → List ℕ
part a e s = take (e - a) (drop a s)

-- How many bytes stand before the first line end, or before the end of the text.
unfoldable pub longer : Ending → ℕ → ℕ
longer inside n = suc n
longer lf n = 0
longer cr n = 0

unfoldable pub line_length : List ℕ → ℕ
unfolding longer ending
line_length [] = 0
line_length (b ∷ bs) = longer (end b) (line_length bs)

-- How many bytes the line end in front has; a byte behind the text is no line end.
unfoldable pub break_width : Ending → Ending → ℕ
break_width inside next = 0
break_width lf next = 1
break_width cr lf = 2
break_width cr cr = 1
break_width cr inside = 1

unfoldable pub break_length : List ℕ → ℕ
unfolding break_width ending
break_length [] = 0
break_length (b ∷ bs) = break_width (end b) (end (get_or bs 0 0))

-- How many blanks stand in front.
unfoldable pub front_blanks : List ℕ → ℕ
unfolding provided◌then◌else◌ is_blank
front_blanks [] = 0
front_blanks (b ∷ bs) = provided blank b then suc (front_blanks bs) else 0

-- The length up to the last byte that is no blank.
unfoldable pub grown : Bool → ℕ → ℕ
grown blank (suc n) = suc (suc n)
grown true zero = 0
grown false zero = 1

unfoldable pub solid_length : List ℕ → ℕ
unfolding grown is_blank
solid_length [] = 0
solid_length (b ∷ bs) = grown (blank b) (solid_length bs)

-- The line at the front of a text whose first byte has this place.
unfoldable pub line_of : ℕ → ℕ → List ℕ → Line
unfolding line_length front_blanks solid_length break_length
line_of n at bs =
    let len = line_length bs in
    let f = front_blanks (take len bs) in
    record { number = n; start = at + f; stop = at + f + solid_length (take (len - f) (drop f bs)); next = at + len + break_length (drop len bs) }

abbrev pub line_at : List ℕ → ℕ → ℕ → Line
line_at s n at = line_of n at (drop at s)

-- What is known of the line at a place. Past the end of the text no line stands: all its places are that place.
pub record Found (s : List ℕ) (n at : ℕ) (l : Line) : Type 0 where
  pub is : l ≡ line_at s n at
  pub number : l.number ≡ n
  pub start : at ≤ l.start
  pub stop : l.start ≤ l.stop
  pub next : l.stop ≤ l.next
  pub over : l.next ≤ max at (length s)
  pub onward : min (at + 1) (length s) ≤ l.next

-- The lines of a text from a line on, of which the first bytes still belong to the line before.
unfoldable pub spans_from : ℕ → ℕ → ℕ → List ℕ → List Line
spans_from n at k [] = []
spans_from n at (suc k) (b ∷ bs) = spans_from n (suc at) k bs
spans_from n at zero (b ∷ bs) =
    line_of n at (b ∷ bs) ∷ spans_from (suc n) (suc at) ((line_of n at (b ∷ bs)).next - suc at) bs

unfoldable pub spans : List ℕ → List Line
spans s = spans_from 1 0 0 s

-- A line as songcode has it: its number and its bytes with their places.
abbrev pub line_text : List ℕ → Line → songcode.Line
line_text s l = record { number = l.number; text = placed l.start (part l.start l.stop s) }

-- The place behind a blank line; where the line there is not blank, the place itself.
unfoldable pub past_blank : List ℕ → ℕ → ℕ
unfolding provided◌then◌else◌ is_empty
past_blank s at = provided is_empty (line_text s (line_at s 0 at)).text then (line_at s 0 at).next else at

-- The text is empty, or its last byte ends a line: one more line stands behind, an empty one. The first test says so of what stands before.
unfoldable pub is_end : Ending → Bool
is_end inside = false
is_end lf = true
is_end cr = true

unfoldable pub ends_open : Bool → List ℕ → Bool
unfolding is_end ending
ends_open before [] = before
ends_open before (b ∷ bs) = ends_open (is_end (end b)) bs
