-- "What stops a chart", rows 3 to 9, clause by clause: said of the file's blocks and lines, in the table's words, apart from the lists by which the
-- answer finds them.
use Rattle.std.specs.Prelude.{ℕ, ◌≤◌, ◌≡◌, ◌⊎◌, true, length}
use Prim.Native.Char.{code}
use mathlib.Core.List.{List, [], ◌∷◌, ◌++◌, Memᴰ}
use Rattle.songcode.specs.Bytes.{Byte, values, ascii, is_blank, not_blank, is_letter}
use Rattle.songcode.specs.Answer.Lines.{Line, Block}
use Rattle.songcode.specs.Complaints.{Complaint, complaint}
use Rattle.songcode.specs.Song.{KeyName, Cut, Items, Pattern}
use Rattle.songcode.specs.Answer.Modifiers.{ModifierName, of_repeat, of_cut_start, of_cut_end, of_before, of_after}
use Rattle.songcode.specs.Description.WrittenText.{All, Stops}
use Rattle.songcode.specs.Description.WrittenPattern.{Number, WrittenDefinitionText, WrittenPattern, WrittenSide}
use Rattle.songcode.specs.Description.WrittenSection.{key_spelling, Setting, OfSection, CutText, Header}
use Rattle.songcode.specs.Description.WrittenSong.{BeginsWith, BeginsWithout, lines_of, DefinitionHead}

-- "a line starting with `@` is a key and one starting with `_` and an ASCII letter a modifier, wherever it stands; any other is a pattern line"
unfoldable pub UnderLetter : List Byte → Type 0
UnderLetter [] = ⊥
UnderLetter (b ∷ []) = ⊥
UnderLetter (b ∷ c ∷ bs) = (b.value ≡ code "_") × (is_letter c ≡ true)

abbrev pub IsKey : Line → Type 0
IsKey l = BeginsWith (code "@") l.text

abbrev pub IsModifier : Line → Type 0
IsModifier l = UnderLetter l.text

abbrev pub IsPattern : Line → Type 0
IsPattern l = (IsKey l → ⊥) × (IsModifier l → ⊥)

-- "Key and modifier names run to the first space or the line's end"; the setting stands "after spaces".
pub record Worded (l : Line) (name setting : List Byte) : Type 0 where
  pub first : Byte
  pub gap : List Byte
  pub written : l.text ≡ first ∷ (name ++ (gap ++ setting))
  pub word : All not_blank name
  pub blanks : All is_blank gap
  pub ends : Stops not_blank (gap ++ setting)
  pub solid : Stops is_blank setting

-- A key line that has this key's name.
pub record CallsKey (l : Line) (k : KeyName) (setting : List Byte) : Type 0 where
  pub name : List Byte
  pub sign : IsKey l
  pub worded : Worded l name setting
  pub spelled : values name ≡ key_spelling k

-- "`_repeat n`, `_cutStart c`, `_cutEnd c`, `_before p`, `_after p`"
unfoldable pub modifier_word : ModifierName → List ℕ
unfolding ascii
modifier_word of_repeat = ascii "repeat"
modifier_word of_cut_start = ascii "cutStart"
modifier_word of_cut_end = ascii "cutEnd"
modifier_word of_before = ascii "before"
modifier_word of_after = ascii "after"

pub record CallsModifier (l : Line) (m : ModifierName) (setting : List Byte) : Type 0 where
  pub name : List Byte
  pub sign : IsModifier l
  pub worded : Worded l name setting
  pub spelled : values name ≡ modifier_word m

-- A key of a block where these keys are allowed.
-- 4: "key unknown", "or not allowed here"; 5: "setting of a key ... malformed or out of range"; its own line.
pub data KeyStops (allowed : KeyName → Type 0) (l : Line) : Complaint → Type 0 where
  key_unknown : IsKey l → ((k : KeyName) (setting : List Byte) → CallsKey l k setting → ⊥) → KeyStops allowed l (complaint 4 l.number)
  key_not_allowed : (k : KeyName) (setting : List Byte) → CallsKey l k setting → (allowed k → ⊥) → KeyStops allowed l (complaint 4 l.number)
  key_setting : (k : KeyName) (setting : List Byte) → CallsKey l k setting → (Setting k setting → ⊥) → KeyStops allowed l (complaint 5 l.number)

-- 4: "twice", over the lines before this one.
pub data KeyDoubled (before : List Line) (l : Line) : Complaint → Type 0 where
  key_twice : (k : KeyName) (other setting : List Byte) (e : Line) → Memᴰ e before → CallsKey e k other → CallsKey l k setting
      → KeyDoubled before l (complaint 4 l.number)

-- 5: "setting of a ... repeat or cut malformed or out of range"; 7: "pattern text against the rules", of a lead-in or tail on its own line;
-- 8: "unknown ... modifier".
pub data ModifierStops (l : Line) : Complaint → Type 0 where
  modifier_unknown : IsModifier l → ((m : ModifierName) (setting : List Byte) → CallsModifier l m setting → ⊥) → ModifierStops l (complaint 8 l.number)
  repeat_setting : (setting : List Byte) → CallsModifier l of_repeat setting → ((n : ℕ) → Number 2 9999 setting n → ⊥)
      → ModifierStops l (complaint 5 l.number)
  cut_start_setting : (setting : List Byte) → CallsModifier l of_cut_start setting → ((c : Cut) → CutText setting c → ⊥)
      → ModifierStops l (complaint 5 l.number)
  cut_end_setting : (setting : List Byte) → CallsModifier l of_cut_end setting → ((c : Cut) → CutText setting c → ⊥) → ModifierStops l (complaint 5 l.number)
  lead_in_text : (setting : List Byte) → CallsModifier l of_before setting → ((r : Items) → WrittenSide setting r → ⊥)
      → ModifierStops l (complaint 7 l.number)
  tail_text : (setting : List Byte) → CallsModifier l of_after setting → ((r : Items) → WrittenSide setting r → ⊥) → ModifierStops l (complaint 7 l.number)

-- 8: "doubled modifier".
pub data ModifierDoubled (before : List Line) (l : Line) : Complaint → Type 0 where
  modifier_twice : (m : ModifierName) (other setting : List Byte) (e : Line) → Memᴰ e before → CallsModifier e m other → CallsModifier l m setting
      → ModifierDoubled before l (complaint 8 l.number)

-- A pattern line, and behind it a line that is none: the first run has ended.
unfoldable pub Past : List Line → Type 0
Past [] = ⊥
Past (p ∷ ls) = (IsPattern p × ((q : Line) × Memᴰ q ls × (IsPattern q → ⊥))) ⊎ Past ls

-- "Out of place are a key after a pattern or modifier line, a modifier before the pattern, a pattern line past that run": 4 for the key, 8 for the others.
pub data PlaceStops (before : List Line) (l : Line) : Complaint → Type 0 where
  key_after : (e : Line) → IsKey l → Memᴰ e before → (IsKey e → ⊥) → PlaceStops before l (complaint 4 l.number)
  modifier_before : IsModifier l → ((e : Line) → Memᴰ e before → IsPattern e → ⊥) → PlaceStops before l (complaint 8 l.number)
  pattern_past : IsPattern l → Past before → PlaceStops before l (complaint 8 l.number)

-- A section's lines "After the header and before the `--`", and the lines from the `--` on.
unfoldable pub Undashed : List Line → Type 0
Undashed [] = Unit {0}
Undashed (l ∷ ls) = (values l.text ≡ ascii "--" → ⊥) × Undashed ls

unfoldable pub Dashed : List Line → Type 0
Dashed [] = Unit {0}
Dashed (l ∷ ls) = values l.text ≡ ascii "--"

pub record Split (b : Block) (body ending : List Line) : Type 0 where
  pub written : b.others ≡ body ++ ending
  pub undashed : Undashed body
  pub dashed : Dashed ending

-- "the pattern is their first run"
unfoldable pub NoPattern : List Line → Type 0
NoPattern [] = Unit {0}
NoPattern (l ∷ ls) = (IsPattern l → ⊥) × NoPattern ls

unfoldable pub AllPattern : List Line → Type 0
AllPattern [] = Unit {0}
AllPattern (l ∷ ls) = IsPattern l × AllPattern ls

unfoldable pub RunEnds : List Line → Type 0
RunEnds [] = Unit {0}
RunEnds (l ∷ ls) = IsPattern l → ⊥

pub record FirstRun (body run : List Line) : Type 0 where
  pub front : List Line
  pub rest : List Line
  pub written : body ≡ front ++ (run ++ rest)
  pub none_before : NoPattern front
  pub of_pattern : AllPattern run
  pub ends : RunEnds rest

-- What stops a section's block, row by row.
pub data SectionStops (b : Block) : Complaint → Type 0 where
  -- 4 and 5: a key by itself; 4: "twice"
  key_stops : {c : Complaint} (body ending : List Line) (l : Line) → Split b body ending → Memᴰ l body → KeyStops OfSection l c → SectionStops b c
  key_doubled : {c : Complaint} (body ending before behind : List Line) (l : Line) → Split b body ending → body ≡ before ++ (l ∷ behind)
      → KeyDoubled before l c → SectionStops b c
  -- 4 and 8: "out of place"
  out_of_place : {c : Complaint} (body ending before behind : List Line) (l : Line) → Split b body ending → body ≡ before ++ (l ∷ behind)
      → PlaceStops before l c → SectionStops b c
  -- 5, 7 and 8: a modifier by itself
  modifier_stops : {c : Complaint} (body ending : List Line) (l : Line) → Split b body ending → Memᴰ l body → ModifierStops l c → SectionStops b c
  -- 7: "pattern text against the rules", on its first line
  pattern_text_lem : (body ending run : List Line) (l : Line) → Split b body ending → FirstRun body (l ∷ run) → ((p : Pattern) → WrittenPattern l run p → ⊥)
      → SectionStops b (complaint 7 l.number)
  -- 8: "doubled modifier"
  modifier_doubled : {c : Complaint} (body ending before behind : List Line) (l : Line) → Split b body ending → body ≡ before ++ (l ∷ behind)
      → ModifierDoubled before l c → SectionStops b c
  -- 8: "name empty or long", on the header
  name_wrong : (Header b.first.text → ⊥) → SectionStops b (complaint 8 b.first.number)
  -- 8: "no pattern line", on the header; "`--` without lyrics", on the `--`
  no_pattern : (body ending : List Line) → Split b body ending → NoPattern body → SectionStops b (complaint 8 b.first.number)
  no_lyrics : (body : List Line) (dashes : Line) → Split b body (dashes ∷ []) → SectionStops b (complaint 8 dashes.number)

-- What stops a line of metadata, behind the lines of metadata before it: a key, or 8: "other line out of place".
pub data MetadataStops (before : List Line) (l : Line) : Complaint → Type 0 where
  of_key : {c : Complaint} → KeyStops (λ k. Unit {0}) l c → MetadataStops before l c
  of_keys_lem : {c : Complaint} → KeyDoubled before l c → MetadataStops before l c
  no_key : (IsKey l → ⊥) → MetadataStops before l (complaint 8 l.number)

-- What stops a definition, behind the definitions before it. 6: "definition head malformed, twice, or the 27th"; 7: "pattern text against the rules", on its
-- first line.
pub data DefinitionStops (before : List Block) (b : Block) : Complaint → Type 0 where
  head_malformed : ((n : ℕ) → DefinitionHead b.first.text n → ⊥) → DefinitionStops before b (complaint 6 b.first.number)
  head_twice : (n : ℕ) (e : Block) → Memᴰ e before → DefinitionHead e.first.text n → DefinitionHead b.first.text n
      → DefinitionStops before b (complaint 6 b.first.number)
  head_27th : 26 ≤ length before → DefinitionStops before b (complaint 6 b.first.number)
  definition_text_lem : (l : Line) (ls : List Line) → b.others ≡ l ∷ ls → ((r : Items) → WrittenDefinitionText l ls r → ⊥)
      → DefinitionStops before b (complaint 7 l.number)

-- "Its first byte gives its kind: `@` metadata, `$` definition, else section."
abbrev pub IsMetadata : Block → Type 0
IsMetadata b = BeginsWith (code "@") b.first.text

abbrev pub IsDefinition : Block → Type 0
IsDefinition b = BeginsWith (code "$") b.first.text

abbrev pub IsSection : Block → Type 0
IsSection b = BeginsWithout (code "@") b.first.text × BeginsWithout (code "$") b.first.text

-- The blocks of one kind, in their order.
pub data OfKind (kind : Block → Type 0) : List Block → List Block → Type 0 where
  no_more : OfKind kind [] []
  this_one : {b : Block} {bs cs : List Block} → kind b → OfKind kind bs cs → OfKind kind (b ∷ bs) (b ∷ cs)
  another : {b : Block} {bs cs : List Block} → (kind b → ⊥) → OfKind kind bs cs → OfKind kind (b ∷ bs) cs

-- "Metadata blocks come first, then definitions, then one or more sections."
unfoldable pub LaterKind : Block → Block → Type 0
LaterKind a b = (IsSection a × (IsSection b → ⊥)) ⊎ (IsDefinition a × IsMetadata b)

-- What stops a file in stage 2, but for row 9.
pub data TextStops (bs : List Block) : Complaint → Type 0 where
  -- 3: "block kind after a later kind", on the block's first line
  kind_late : (before behind : List Block) (a b : Block) → bs ≡ before ++ (b ∷ behind) → Memᴰ a before → LaterKind a b
      → TextStops bs (complaint 3 b.first.number)
  in_metadata_lem : {c : Complaint} (ms : List Block) (before behind : List Line) (l : Line) → OfKind IsMetadata bs ms → lines_of ms ≡ before ++ (l ∷ behind)
      → MetadataStops before l c → TextStops bs c
  in_definition_lem : {c : Complaint} (ds before behind : List Block) (b : Block) → OfKind IsDefinition bs ds → ds ≡ before ++ (b ∷ behind)
      → DefinitionStops before b c → TextStops bs c
  in_section : {c : Complaint} (ss : List Block) (b : Block) → OfKind IsSection bs ss → Memᴰ b ss → SectionStops b c → TextStops bs c

-- 9: "no section, nothing else in stage 2", on line 0.
pub data Stops2 (bs : List Block) : Complaint → Type 0 where
  stated : {c : Complaint} → TextStops bs c → Stops2 bs c
  no_section_lem : OfKind IsSection bs [] → ((c : Complaint) → TextStops bs c → ⊥) → Stops2 bs (complaint 9 0)
