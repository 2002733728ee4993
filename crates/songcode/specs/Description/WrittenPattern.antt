-- The description of pattern text: how numbers, chords and words are spelled, and how measures, loops and rows are written as tokens.
use Rattle.std.specs.Prelude.{ℕ, ◌≤◌, ◌≡◌, true, false, length, replicate}
use Prim.Native.Char.{code}
use mathlib.Core.List.{List, [], ◌∷◌, ◌++◌, Memᴰ}
use Rattle.std.proofs.Math.Option.{some}
use Rattle.std.proofs.Math.ListN.{get_elem?}
use Rattle.songcode.specs.Bytes.{Byte, values, ascii}
use Rattle.songcode.specs.Answer.Lines.{Line}
use Rattle.songcode.specs.Answer.Numbers.{is_decimal, value_from}
use Rattle.songcode.specs.Answer.Chords.{Chord, bases}
use Rattle.songcode.specs.Song.{chord, again, silence, Sounds, only, also, Measure, Beside, nothing, a_line_end, Separator, by_semicolon}
use Rattle.songcode.specs.Song.{by_line_end, by_colon, Item, measure, loop, refer, Items, one, next, Pattern, items, named}
use Rattle.songcode.specs.Answer.Tokens.{Token, sound, remover, reference, semicolon, colon, line_end, opens, closes, blank, semi, double, bracket}
use Rattle.songcode.specs.Answer.Tokens.{closing, plain, class}
use Rattle.songcode.specs.Answer.PatternText.{depth, loops_deep, references, barred}

-- "Numbers are decimals without leading zero": the digits of n, which lies in a range.
pub record Number (low high : ℕ) (bs : List Byte) (n : ℕ) : Type 0 where
  pub decimal : is_decimal bs ≡ true
  pub says : n ≡ value_from 0 bs
  pub at_least : low ≤ n
  pub at_most : n ≤ high

-- One text stands at the front of another.
pub record Begins (front text : List ℕ) : Type 0 where
  pub rest : List ℕ
  pub joined : text ≡ front ++ rest

-- Request 2: "A base ending in `m` isn't taken where `aj` follows the `m`": such a base, at the front of a text.
pub record PassedOver (spelling text : List ℕ) : Type 0 where
  pub front : List ℕ
  pub rest : List ℕ
  pub ends : spelling ≡ front ++ ascii "m"
  pub follows : text ≡ spelling ++ (ascii "aj" ++ rest)

-- "A chord is a base and an extension of 0 to 31 bytes ...; the base is the longest that fits" of those that aren't passed over ("the next
-- longest is"). Request 4: "An extension that holds `%`, `_`, `=` or `$` is to be refused."
pub record SpelledChord (w : List Byte) (c : Chord) : Type 0 where
  pub base : List Byte
  pub joined : w ≡ base ++ c.extension
  pub numbered : get_elem? bases c.base ≡ some (values base)
  pub taken : PassedOver (values base) (values w) → ⊥
  pub longest : (n : ℕ) (s : List ℕ) → get_elem? bases n ≡ some s → Begins s (values w) → (PassedOver s (values w) → ⊥) → length s ≤ length base
  pub short : length c.extension ≤ 31
  pub clean : (b : ℕ) → Memᴰ b (values c.extension) → Memᴰ b (ascii "%_=$") → ⊥

-- "a chord, `%`, `_` (silence), `=` (remover)", and `$n`: a word and the token that it spells.
pub data Word : List Byte → Token → Type 0 where
  spells_again : {w : List Byte} → values w ≡ ascii "%" → Word w (sound again)
  spells_silence : {w : List Byte} → values w ≡ ascii "_" → Word w (sound silence)
  spells_remover : {w : List Byte} → values w ≡ ascii "=" → Word w remover
  spells_reference : {ds : List Byte} {n : ℕ} (b : Byte) → b.value ≡ code "$" → Number 1 9999 ds n → Word (b ∷ ds) (reference n)
  spells_chord : {w : List Byte} {c : Chord} → SpelledChord w c → Word w (sound (chord c))

unfoldable pub Plain : List Byte → Type 0
Plain [] = Unit {0}
Plain (b ∷ bs) = (class b ≡ plain) × Plain bs

unfoldable pub NoPlain : List Byte → Type 0
NoPlain [] = Unit {0}
NoPlain (b ∷ bs) = class b ≡ plain → ⊥

-- A line of pattern text and its tokens. "Spaces may stand around separators and inside brackets, not between `]` and its count."
-- A word, and the count behind a bracket, is as long as it can be.
pub data Text : List Byte → List Token → Type 0 where
  t_end : Text [] []
  t_blank : {b : Byte} {bs : List Byte} {ts : List Token} → class b ≡ blank → Text bs ts → Text (b ∷ bs) ts
  t_semicolon : {b : Byte} {bs : List Byte} {ts : List Token} → class b ≡ semi → Text bs ts → Text (b ∷ bs) (semicolon ∷ ts)
  t_colon : {b : Byte} {bs : List Byte} {ts : List Token} → class b ≡ double → Text bs ts → Text (b ∷ bs) (colon ∷ ts)
  t_open : {b : Byte} {bs : List Byte} {ts : List Token} → class b ≡ bracket → Text bs ts → Text (b ∷ bs) (opens ∷ ts)
  t_close : {b : Byte} {w bs zs : List Byte} {ts : List Token} {n : ℕ} → class b ≡ closing → Plain w → NoPlain bs → zs ≡ w ++ bs
      → Number 2 9999 w n → Text bs ts → Text (b ∷ zs) (closes n ∷ ts)
  t_word : {b : Byte} {w bs zs : List Byte} {ts : List Token} {t : Token} → class b ≡ plain → Plain w → NoPlain bs → zs ≡ w ++ bs
      → Word (b ∷ w) t → Text bs ts → Text (b ∷ zs) (t ∷ ts)

-- Lines of pattern text: a line end stands between neighbours.
pub data TextLines : Line → List Line → List Token → Type 0 where
  one_line : {l : Line} {ts : List Token} → Text l.text ts → TextLines l [] ts
  more_lines : {l m : Line} {ms : List Line} {ts us vs : List Token} → Text l.text ts → TextLines m ms us → vs ≡ ts ++ (line_end ∷ us)
      → TextLines l (m ∷ ms) vs

-- The tokens of a pattern, each part joined to the next: positions, the measures that they make, separators, items.
unfoldable pub sounds_tokens : Sounds → List Token
sounds_tokens (only s) = sound s ∷ []
sounds_tokens (also ss s) = sounds_tokens ss ++ (sound s ∷ [])

-- "Removers stand only at the end, after some other position."
unfoldable pub measure_tokens : Measure → List Token
unfolding sounds_tokens
measure_tokens m = sounds_tokens m.sounds ++ replicate m.removers remover

unfoldable pub beside_tokens : Beside → List Token
beside_tokens nothing = []
beside_tokens a_line_end = line_end ∷ []

-- "Line ends beside a `:` count with it as one."
unfoldable pub separator_tokens : Separator → List Token
unfolding beside_tokens
separator_tokens by_semicolon = semicolon ∷ []
separator_tokens by_line_end = line_end ∷ []
separator_tokens (by_colon b a) = beside_tokens b ++ (colon ∷ beside_tokens a)

-- "a loop `[items]n`"; "Items stand in a row with exactly one separator between neighbours".
unfoldable mutual
  unfolding measure_tokens separator_tokens

  pub item_tokens : Item → List Token
  item_tokens (measure m) = measure_tokens m
  item_tokens (loop r n) = opens ∷ (items_tokens r ++ (closes n ∷ []))
  item_tokens (refer n) = reference n ∷ []

  pub items_tokens : Items → List Token
  items_tokens (one i) = item_tokens i
  items_tokens (next r s i) = items_tokens r ++ (separator_tokens s ++ item_tokens i)

-- A definition's text: items, with "no loop in a loop".
pub record WrittenDefinitionText (l : Line) (ls : List Line) (r : Items) : Type 0 where
  pub text : TextLines l ls (items_tokens r)
  pub shallow : depth r ≤ loops_deep

-- A section's pattern: items without `$n`, or "`$n` as its whole text".
unfoldable pub WrittenPattern : Line → List Line → Pattern → Type 0
WrittenPattern l ls (items r) = TextLines l ls (items_tokens r) × (depth r ≤ loops_deep) × (references r ≡ [])
WrittenPattern l ls (named n) = TextLines l ls (reference n ∷ [])

-- "p after `_before` or `_after` is one line, not empty, without `:` and `$`."
unfoldable pub Unbarred : List Byte → Type 0
Unbarred [] = Unit {0}
Unbarred (b ∷ bs) = (barred b ≡ false) × Unbarred bs

pub record WrittenSide (bs : List Byte) (r : Items) : Type 0 where
  pub text : Text bs (items_tokens r)
  pub shallow : depth r ≤ loops_deep
  pub unbarred : Unbarred bs
