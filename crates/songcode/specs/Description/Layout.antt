-- The table of tables as data: "Bit-packed fields, most significant first, bits not named are 0", said once for all five.
use Rattle.std.specs.Prelude.{ℕ, ◌+◌, ◌-◌, ◌*◌, ◌/◌, ◌%◌, ◌^◌, ◌<◌, ◌≡◌, List, [], ◌∷◌, Bool, true, false, length}
use Rattle.std.proofs.Math.Option.{Option, none, some}
use Rattle.songcode.specs.Lists.{sum}
use Rattle.songcode.specs.Bytes.{Byte}
use Rattle.songcode.specs.Answer.Chords.{Chord}
use Rattle.songcode.specs.Answer.Lyrics.{Prompt}
use Rattle.songcode.specs.Answer.Tables.{offset, key_word, section_word, measure_word, head_bit, beat_by, item_word}
use Rattle.songcode.specs.Description.Joined.{first_beat, beat_count, first_measure, measure_count, section_bpm}

-- A row of the table: how many bits its word has, and how many each of its fields.
pub record Row : Type 0 where
  pub bits : ℕ
  pub fields : List ℕ

abbrev pub row : ℕ → List ℕ → Row
row bits fields = record { bits = bits; fields = fields }

-- "keys ... u32: present 1, offset 16, length 9"
unfoldable pub keys_row : Row
keys_row = row 32 (1 ∷ 16 ∷ 9 ∷ [])

-- "sections, u64: header line 17, first measure 16, measures 16, N 6, bpm 9"
unfoldable pub sections_row : Row
sections_row = row 64 (17 ∷ 16 ∷ 16 ∷ 6 ∷ 9 ∷ [])

-- "measures, u32: first beat 21, beats 6"
unfoldable pub measures_row : Row
measures_row = row 32 (21 ∷ 6 ∷ [])

-- "beats, u32: base 6 (63 silence), extension offset 16 (0 if empty), length 5, head 1"
unfoldable pub beats_row : Row
beats_row = row 32 (6 ∷ 16 ∷ 5 ∷ 1 ∷ [])

-- "items, u64: text offset 16, length 16, first measure 16, measures 14, style 2"
unfoldable pub items_row : Row
items_row = row 64 (16 ∷ 16 ∷ 16 ∷ 14 ∷ 2 ∷ [])

-- The bits that a row does not name stand lowest.
unfoldable pub spare : Row → ℕ
unfolding sum
spare r = r.bits - sum r.fields

-- "most significant first": a field stands above the fields behind it and the bits that are not named.
unfoldable pub packed : ℕ → List ℕ → List ℕ → ℕ
unfolding sum
packed low [] vs = 0
packed low (w ∷ ws) [] = 0
packed low (w ∷ ws) (v ∷ vs) = v * 2 ^ (sum ws + low) + packed low ws vs

-- The word of a row's fields: "bits not named are 0".
unfoldable pub laid : Row → List ℕ → ℕ
unfolding packed spare
laid r vs = packed (spare r) r.fields vs

-- A field of a word: as many bits from that bit on; the word with that field 0.
unfoldable pub field : ℕ → ℕ → ℕ → ℕ
field low bits word = word / 2 ^ low % 2 ^ bits

unfoldable pub without : ℕ → ℕ → ℕ → ℕ
unfolding field
without low bits word = word - field low bits word * 2 ^ low

-- The fields of a word, read back one after another.
unfoldable pub unpacked : ℕ → List ℕ → ℕ → List ℕ
unfolding sum field
unpacked low [] word = []
unpacked low (w ∷ ws) word = field (sum ws + low) w word ∷ unpacked low ws word

unfoldable pub fields_of : Row → ℕ → List ℕ
unfolding unpacked spare
fields_of r word = unpacked (spare r) r.fields word

-- As many values as fields, each within its bits.
unfoldable pub Fit : List ℕ → List ℕ → Type 0
Fit [] [] = Unit {0}
Fit [] (v ∷ vs) = ⊥
Fit (w ∷ ws) [] = ⊥
Fit (w ∷ ws) (v ∷ vs) = (v < 2 ^ w) × Fit ws vs

-- What a key's fields are: "present 1, offset 16, length 9 (absent: all 0)".
unfoldable pub key_fields : Option (List Byte) → List ℕ
unfolding offset
key_fields none = 0 ∷ 0 ∷ 0 ∷ []
key_fields (some setting) = 1 ∷ offset setting ∷ length setting ∷ []

-- A beat's: "base 6 (63 silence), extension offset 16 (0 if empty), length 5, head 1".
unfoldable pub beat_fields : Option Chord → Bool → List ℕ
unfolding offset head_bit
beat_fields none head = 63 ∷ 0 ∷ 0 ∷ head_bit head ∷ []
beat_fields (some c) head = c.base ∷ offset c.extension ∷ length c.extension ∷ head_bit head ∷ []

-- A prompter item's: "text offset 16, length 16, first measure 16, measures 14, style 2".
unfoldable pub item_fields : Prompt → List ℕ
unfolding offset
item_fields p = offset p.words.text ∷ length p.words.text ∷ p.first ∷ p.measures ∷ p.words.style ∷ []

-- What is promised of the words of all tables.
pub record Laid : Type 0 where
  -- Fields are read back as they were packed, whatever the bits are that are not named; and every word is its fields and these bits.
  pub read_back : (r : Row) (vs : List ℕ) (low : ℕ) → Fit r.fields vs → low < 2 ^ spare r → fields_of r (laid r vs + low) ≡ vs
  pub laid_back : (r : Row) (word : ℕ) → word < 2 ^ (sum r.fields + spare r) → laid r (fields_of r word) + word % 2 ^ spare r ≡ word
  -- The words that the answer packs are these.
  pub key : (o : Option (List Byte)) → key_word o ≡ laid keys_row (key_fields o)
  pub section : (header first measures n bpm : ℕ) → section_word header first measures n bpm ≡ laid sections_row (header ∷ first ∷ measures ∷ n ∷ bpm ∷ [])
  pub measure : (first beats : ℕ) → measure_word first beats ≡ laid measures_row (first ∷ beats ∷ [])
  pub beat : (o : Option Chord) (head : Bool) → beat_by o head ≡ laid beats_row (beat_fields o head)
  pub item : (p : Prompt) → item_word p ≡ laid items_row (item_fields p)
  -- "Head is 1 on the first beat of a position as written"
  pub head : (head_bit true ≡ 1) × (head_bit false ≡ 0)
  -- "Offsets are into the file": the place of a text's first byte; "0 if empty".
  pub nowhere : offset [] ≡ 0
  pub somewhere : (b : Byte) (bs : List Byte) → offset (b ∷ bs) ≡ b.place
  -- The second call reads the two fields of a measure's word, "ignores spare bits".
  pub sought : (word : ℕ) → word < 2 ^ 32 → first_beat word ∷ beat_count word ∷ [] ≡ fields_of measures_row word
  -- What is read of a section's word to join the tables up is its second, third and fifth field.
  pub covered : (word : ℕ)
      → field 47 17 word ∷ first_measure word ∷ measure_count word ∷ field 9 6 word ∷ section_bpm word ∷ [] ≡ fields_of sections_row word
