-- The description of a text: whole characters; lines with their ends and blanks; blocks. Nothing here reads: each page says how a thing is written.
use Rattle.std.specs.Prelude.{ℕ, suc, ◌≡◌, Bool, true, false, length}
use mathlib.Core.List.{List, [], ◌∷◌, ◌++◌, Memᴰ}
use Rattle.songcode.specs.Lists.{is_empty}
use Rattle.songcode.specs.Bytes.{Byte, is_blank}
use Rattle.songcode.specs.Answer.Characters.{Form, forms, within, is_tail}
use Rattle.songcode.specs.Answer.Lines.{lf, cr, inside, ending, ending_of, Line, Block}

-- Every element passes; nothing is there, or what stands first does not pass.
unfoldable pub All : {A : Type 0} → (A → Bool) → List A → Type 0
All p [] = Unit {0}
All p (x ∷ xs) = (p x ≡ true) × All p xs

unfoldable pub Stops : {A : Type 0} → (A → Bool) → List A → Type 0
Stops p [] = Unit {0}
Stops p (x ∷ xs) = p x ≡ false

-- What a form of RFC 3629 has behind its first byte.
unfoldable pub Follows : Form → List ℕ → Type 0
unfolding All
Follows f [] = Unit {0}
Follows f (b ∷ bs) = (within f.second_low f.second_high b ≡ true) × All is_tail bs

-- A whole character, in one of the RFC's forms.
pub record Character (c : List ℕ) : Type 0 where
  pub form : Form
  pub listed : Memᴰ form forms
  pub first : ℕ
  pub rest : List ℕ
  pub spelled : c ≡ first ∷ rest
  pub begins : within form.first_low form.first_high first ≡ true
  pub as_many : length rest ≡ form.more
  pub follows : Follows form rest

-- "bytes of UTF-8, no zero byte": whole characters one after another.
pub data Characters : List ℕ → Type 0 where
  no_character : Characters []
  a_character : {c bs zs : List ℕ} → Character c → zs ≡ c ++ bs → Characters bs → Characters zs

-- "A character is a code point": how many there are.
unfoldable pub how_many : {bs : List ℕ} → Characters bs → ℕ
how_many no_character = 0
how_many (a_character c e h) = suc (how_many h)

-- No whole character stands in front.
abbrev pub Stuck : List ℕ → Type 0
Stuck bs = (c ys : List ℕ) → Character c → bs ≡ c ++ ys → ⊥

-- "the first place, read character by character, with a zero or no whole character": before it stand whole characters.
pub record FirstBad (bs : List ℕ) (place : ℕ) : Type 0 where
  pub front : List ℕ
  pub rest : List ℕ
  pub joins : bs ≡ front ++ rest
  pub whole : Characters front
  pub size : length front ≡ place
  pub stuck : Stuck rest

-- No line ends in it.
unfoldable pub Inside : List Byte → Type 0
Inside [] = Unit {0}
Inside (b ∷ bs) = (ending b ≡ inside) × Inside bs

-- "CR LF, lone CR and LF each end a line": a text and its lines. A lone CR has no LF behind it.
pub data Cuts : List Byte → List (List Byte) → Type 0 where
  last_line : {l : List Byte} → Inside l → Cuts l (l ∷ [])
  ends_lf : {l ts zs : List Byte} {ls : List (List Byte)} (b : Byte) → Inside l → ending b ≡ lf → Cuts ts ls → zs ≡ l ++ (b ∷ ts) → Cuts zs (l ∷ ls)
  ends_cr : {l ts zs : List Byte} {ls : List (List Byte)} (b : Byte) → Inside l → ending b ≡ cr → (ending_of ts ≡ lf → ⊥) → Cuts ts ls
      → zs ≡ l ++ (b ∷ ts) → Cuts zs (l ∷ ls)
  ends_crlf : {l ts zs : List Byte} {ls : List (List Byte)} (b d : Byte) → Inside l → ending b ≡ cr → ending d ≡ lf → Cuts ts ls
      → zs ≡ l ++ (b ∷ d ∷ ts) → Cuts zs (l ∷ ls)

-- A byte stands on the line of this number, counted from 1.
pub record StandsOn (lines : List (List Byte)) (b : Byte) (number : ℕ) : Type 0 where
  pub before : List (List Byte)
  pub front : List Byte
  pub back : List Byte
  pub behind : List (List Byte)
  pub listed : lines ≡ before ++ ((front ++ (b ∷ back)) ∷ behind)
  pub counted : suc (length before) ≡ number

-- The last byte of a text that begins with b.
unfoldable pub last_of : Byte → List Byte → Byte
last_of b [] = b
last_of b (c ∷ bs) = last_of c bs

-- No blank at either end.
unfoldable pub Solid : List Byte → Type 0
unfolding last_of
Solid [] = Unit {0}
Solid (b ∷ bs) = (is_blank b ≡ false) × (is_blank (last_of b bs) ≡ false)

-- "Spaces and tabs at both ends of a line are dropped": a line as written, and its text.
pub record Trims (raw text : List Byte) : Type 0 where
  pub front : List Byte
  pub back : List Byte
  pub written : raw ≡ front ++ (text ++ back)
  pub blanks_before : All is_blank front
  pub blanks_behind : All is_blank back
  pub solid : Solid text

-- Lines as written, and the lines that they are, numbered from n.
pub data Counts : ℕ → List (List Byte) → List Line → Type 0 where
  no_line : {n : ℕ} → Counts n [] []
  a_line : {n : ℕ} {raw text : List Byte} {raws : List (List Byte)} {ls : List Line} → Trims raw text → Counts (suc n) raws ls
      → Counts n (raw ∷ raws) (record { number = n; text = text } ∷ ls)

-- A text and its lines: "lines count from 1".
pub record WrittenLines (bs : List Byte) (ls : List Line) : Type 0 where
  pub raws : List (List Byte)
  pub cuts : Cuts bs raws
  pub counts : Counts 1 raws ls

-- "A line left with nothing is blank."
unfoldable pub is_blank_line : Line → Bool
unfolding is_empty
is_blank_line l = is_empty l.text

unfoldable pub NotBlank : List Line → Type 0
NotBlank [] = Unit {0}
NotBlank (l ∷ ls) = (is_blank_line l ≡ false) × NotBlank ls

unfoldable pub BlankOrEnd : List Line → Type 0
BlankOrEnd [] = Unit {0}
BlankOrEnd (l ∷ ls) = is_blank_line l ≡ true

-- "A block is a longest run of lines that aren't blank."
pub data WrittenBlocks : List Line → List Block → Type 0 where
  no_block : WrittenBlocks [] []
  a_blank : {l : Line} {ls : List Line} {bs : List Block} → is_blank_line l ≡ true → WrittenBlocks ls bs → WrittenBlocks (l ∷ ls) bs
  a_block : {l : Line} {w ls zs : List Line} {bs : List Block} → is_blank_line l ≡ false → NotBlank w → BlankOrEnd ls → zs ≡ w ++ ls
      → WrittenBlocks ls bs → WrittenBlocks (l ∷ zs) (record { first = l; others = w } ∷ bs)
