-- The description of a section's lines: keys, pattern, modifiers, lyrics, each as it is written.
use Rattle.std.specs.Prelude.{ℕ, ◌≤◌, ◌≡◌, ◌↔◌, true, false, length}
use Prim.Native.Char.{code}
use mathlib.Core.List.{List, [], ◌∷◌, ◌++◌, map, Memᴰ}
use Rattle.std.proofs.Math.Option.{some}
use Rattle.std.proofs.Math.ListN.{get_elem?}
use Rattle.songcode.specs.Bytes.{Byte, values, ascii, is_byte, is_blank, is_letter}
use Rattle.songcode.specs.Answer.Characters.{characters}
use Rattle.songcode.specs.Answer.Lines.{Line, Block}
use Rattle.songcode.specs.Answer.Chords.{bases}
use Rattle.songcode.specs.Song.{KeyName, name, artist, original, capo, bpm, time, warning, end, Key, Cut, Modifier, repeated, cut_start, cut_end}
use Rattle.songcode.specs.Song.{before, after, Side, Modifiers, LyricLine, Section}
use Rattle.songcode.specs.Description.WrittenText.{All, Stops}
use Rattle.songcode.specs.Description.WrittenPattern.{Number, WrittenPattern, WrittenSide}

-- Each line is written as the thing at its place.
pub data Each {A B : Type 0} (R : A → B → Type 0) : List A → List B → Type 0 where
  none_each : Each R [] []
  and_each : {x : A} {y : B} {xs : List A} {ys : List B} → R x y → Each R xs ys → Each R (x ∷ xs) (y ∷ ys)

-- No two are the same.
unfoldable pub Absent : ℕ → List ℕ → Type 0
Absent x [] = Unit {0}
Absent x (y ∷ ys) = (x ≡ y → ⊥) × Absent x ys

unfoldable pub Distinct : List ℕ → Type 0
unfolding Absent
Distinct [] = Unit {0}
Distinct (x ∷ xs) = Absent x xs × Distinct xs

-- A line that begins with a sign: the sign, a name, blanks, and a setting. "Key and modifier names run to the first space or the line's end."
pub record Signed (sign : ℕ) (spelling : List ℕ) (bs setting : List Byte) : Type 0 where
  pub first : Byte
  pub word : List Byte
  pub gap : List Byte
  pub written : bs ≡ first ∷ (word ++ (gap ++ setting))
  pub signs : first.value ≡ sign
  pub spelled : values word ≡ spelling
  pub blanks : All is_blank gap
  pub parted : 1 ≤ length gap
  pub solid : Stops is_blank setting

unfoldable pub key_spelling : KeyName → List ℕ
unfolding ascii
key_spelling name = ascii "name"
key_spelling artist = ascii "artist"
key_spelling original = ascii "original"
key_spelling capo = ascii "capo"
key_spelling bpm = ascii "bpm"
key_spelling time = ascii "time"
key_spelling warning = ascii "warning"
key_spelling end = ascii "end"

-- "1 to 100 characters"
unfoldable pub Phrase : List Byte → Type 0
Phrase bs = (1 ≤ characters bs) × (characters bs ≤ 100)

-- "time (`n/4`, n from 1 to 32)"
pub record TimeText (bs : List Byte) (n : ℕ) : Type 0 where
  pub above : List Byte
  pub under : List Byte
  pub written : bs ≡ above ++ under
  pub number : Number 1 32 above n
  pub quarters : values under ≡ ascii "/4"

-- The settings: "name, artist, warning, end (1 to 100 characters ...), original (a base chord exactly), capo (1 to 20), bpm (0 to 400), time".
unfoldable pub Setting : KeyName → List Byte → Type 0
unfolding Phrase
Setting name bs = Phrase bs
Setting artist bs = Phrase bs
Setting original bs = (n : ℕ) × (get_elem? bases n ≡ some (values bs))
Setting capo bs = (n : ℕ) × Number 1 20 bs n
Setting bpm bs = (n : ℕ) × Number 0 400 bs n
Setting time bs = (n : ℕ) × TimeText bs n
Setting warning bs = Phrase bs
Setting end bs = Phrase bs

-- "every line is `@key` and, after spaces, its setting"
pub record KeyLine (l : Line) (k : Key) : Type 0 where
  pub written : Signed (code "@") (key_spelling k.key) l.text k.setting
  pub allowed : Setting k.key k.setting

-- A section's keys are "bpm, time".
unfoldable pub OfSection : KeyName → Type 0
OfSection name = ⊥
OfSection artist = ⊥
OfSection original = ⊥
OfSection capo = ⊥
OfSection bpm = Unit {0}
OfSection time = Unit {0}
OfSection warning = ⊥
OfSection end = ⊥

pub record SectionKey (l : Line) (k : Key) : Type 0 where
  pub line : KeyLine l k
  pub here : OfSection k.key

-- The keys are numbered in the order of their table, the modifiers as document 01 names them.
unfoldable pub key_number : Key → ℕ
key_number k = elim k.key [ name ↦ 0 | artist ↦ 1 | original ↦ 2 | capo ↦ 3 | bpm ↦ 4 | time ↦ 5 | warning ↦ 6 | end ↦ 7 ]

unfoldable pub modifier_number : Modifier → ℕ
modifier_number (repeated n) = 0
modifier_number (cut_start c) = 1
modifier_number (cut_end c) = 2
modifier_number (before l r) = 3
modifier_number (after l r) = 4

unfoldable pub modifier_spelling : Modifier → List ℕ
unfolding ascii
modifier_spelling (repeated n) = ascii "repeat"
modifier_spelling (cut_start c) = ascii "cutStart"
modifier_spelling (cut_end c) = ascii "cutEnd"
modifier_spelling (before l r) = ascii "before"
modifier_spelling (after l r) = ascii "after"

-- "A cut c is `m`, `-b` or `m-b`."
pub data CutText : List Byte → Cut → Type 0 where
  measures_alone : {bs : List Byte} {m : ℕ} → Number 1 9999 bs m → CutText bs (record { whole = record { measures = m }; further = record { beats = 0 } })
  beats_alone : {bs : List Byte} {b : ℕ} (dash : Byte) → dash.value ≡ code "-" → Number 1 9999 bs b
      → CutText (dash ∷ bs) (record { whole = record { measures = 0 }; further = record { beats = b } })
  both : {ms bs zs : List Byte} {m b : ℕ} (dash : Byte) → dash.value ≡ code "-" → Number 1 9999 ms m → Number 1 9999 bs b
      → zs ≡ ms ++ (dash ∷ bs) → CutText zs (record { whole = record { measures = m }; further = record { beats = b } })

-- "`_repeat n`, `_cutStart c`, `_cutEnd c`, `_before p`, `_after p`": what stands behind the name, on the line of that number.
unfoldable pub ModifierSetting : ℕ → Modifier → List Byte → Type 0
ModifierSetting line (repeated n) bs = Number 2 9999 bs n
ModifierSetting line (cut_start c) bs = CutText bs c
ModifierSetting line (cut_end c) bs = CutText bs c
ModifierSetting line (before l r) bs = (l ≡ line) × WrittenSide bs r
ModifierSetting line (after l r) bs = (l ≡ line) × WrittenSide bs r

pub record ModifierLine (l : Line) (m : Modifier) : Type 0 where
  pub setting : List Byte
  pub written : Signed (code "_") (modifier_spelling m) l.text setting
  pub allowed : ModifierSetting l.number m setting

-- "modifier lines, each kind at most once, in any order": a section says what one of its lines says, and nothing else.
pub record Together (ms : List Modifier) (m : Modifiers) : Type 0 where
  pub repeat : (n : ℕ) → (m.repeat ≡ some n) ↔ Memᴰ (repeated n) ms
  pub cut_start : (c : Cut) → (m.cut_start ≡ some c) ↔ Memᴰ (cut_start c) ms
  pub cut_end : (c : Cut) → (m.cut_end ≡ some c) ↔ Memᴰ (cut_end c) ms
  pub before : (x : Side) → (m.before ≡ some x) ↔ Memᴰ (before x.line x.items) ms
  pub after : (x : Side) → (m.after ≡ some x) ↔ Memᴰ (after x.line x.items) ms

-- "a line starting with `@` is a key and one starting with `_` and an ASCII letter a modifier ...; any other is a pattern line"; `--` alone is none.
unfoldable pub PatternBytes : List Byte → Type 0
PatternBytes [] = Unit {0}
PatternBytes (b ∷ []) = is_byte (code "@") b ≡ false
PatternBytes (b ∷ c ∷ bs) = (is_byte (code "@") b ≡ false) × (is_byte (code "_") b ≡ true → is_letter c ≡ false)

pub record PatternLine (l : Line) : Type 0 where
  pub kind : PatternBytes l.text
  pub undashed : values l.text ≡ ascii "--" → ⊥

unfoldable pub PatternLines : List Line → Type 0
PatternLines [] = Unit {0}
PatternLines (l ∷ ls) = PatternLine l × PatternLines ls

-- "then, if wanted, `--` alone and one or more lyric lines, free text to the block's end"
pub data LyricLines : List Line → List LyricLine → Type 0 where
  no_lyrics : LyricLines [] []
  with_lyrics : {dashes l : Line} {ls : List Line} → values dashes.text ≡ ascii "--"
      → LyricLines (dashes ∷ l ∷ ls) (record { number = l.number; text = l.text } ∷ map (λ m. record { number = m.number; text = m.text }) ls)

-- No `!` stands in it; nothing, or a `!` first.
unfoldable pub Unmarked : List Byte → Type 0
Unmarked [] = Unit {0}
Unmarked (b ∷ bs) = (is_byte (code "!") b ≡ false) × Unmarked bs

unfoldable pub CommentMarked : List Byte → Type 0
CommentMarked [] = Unit {0}
CommentMarked (b ∷ bs) = is_byte (code "!") b ≡ true

-- "a header `Name` or `Name!Comment` (name of 1 to 50 characters up to the first `!`; the comment may be empty)"
pub record Header (bs : List Byte) : Type 0 where
  pub title : List Byte
  pub comment : List Byte
  pub written : bs ≡ title ++ comment
  pub plain_title : Unmarked title
  pub marked : CommentMarked comment
  pub long : 1 ≤ characters title
  pub short : characters title ≤ 50

-- A section, "in this order": header, keys, pattern lines, modifiers, lyrics.
pub record WrittenSection (b : Block) (s : Section) : Type 0 where
  pub key_lines : List Line
  pub first_pattern : Line
  pub more_pattern : List Line
  pub modifier_lines : List Line
  pub last_lines : List Line
  pub written : b.others ≡ key_lines ++ ((first_pattern ∷ more_pattern) ++ (modifier_lines ++ last_lines))
  pub header : Header b.first.text
  pub header_number : s.header ≡ b.first.number
  pub keys : Each SectionKey key_lines s.keys
  pub keys_once : Distinct (map key_number s.keys)
  pub pattern_lines : PatternLines (first_pattern ∷ more_pattern)
  pub pattern : WrittenPattern first_pattern more_pattern s.pattern
  pub said : List Modifier
  pub each_says : Each ModifierLine modifier_lines said
  pub modifiers_once : Distinct (map modifier_number said)
  pub modifiers : Together said s.modifiers
  pub lyrics : LyricLines last_lines s.lyrics
