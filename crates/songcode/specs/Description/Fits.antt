-- The description of a song that fits its stages: references that can be put in, sections that can be played, a length that fits, counts that sum.
use Rattle.std.specs.Prelude.{ℕ, ◌+◌, ◌≤◌, ◌≡◌, List, [], ◌∷◌, ◌⊎◌, length}
use Rattle.std.proofs.Math.Option.{Option, none, some}
use Rattle.songcode.specs.Bytes.{Byte}
use Rattle.songcode.specs.Song.{Items, Pattern, items, named, LyricLine, Definition, Section, Song}
use Rattle.songcode.specs.Answer.PatternText.{depth, loops_deep, references}
use Rattle.songcode.specs.Answer.References.{definition_of, items_of, put_in, pattern_items}
use Rattle.songcode.specs.Description.WrittenSection.{Each}
use Rattle.songcode.specs.Description.WrittenLyrics.{CountedLine}
use Rattle.songcode.specs.Description.Performance.{as_often, Parts, PlaysSection, joined, uncut}

-- A reference that a definition may hold: to an earlier definition that is not empty and holds no reference itself.
pub record Refers (earlier : List Definition) (n : ℕ) : Type 0 where
  pub definition : Definition
  pub items : Items
  pub found : definition_of n earlier ≡ some definition
  pub filled : definition.items ≡ some items
  pub plain : references items ≡ []

unfoldable pub ReferAll : List Definition → List ℕ → Type 0
ReferAll earlier [] = Unit {0}
ReferAll earlier (n ∷ ns) = Refers earlier n × ReferAll earlier ns

-- With its references put in, a text still has no loop in a loop.
unfoldable pub DefinitionRefers : List Definition → Option Items → Type 0
unfolding ReferAll
DefinitionRefers earlier none = Unit {0}
DefinitionRefers earlier (some r) = ReferAll earlier (references r) × (depth (put_in (items_of earlier) r) ≤ loops_deep)

unfoldable pub DefinitionsRefer : List Definition → List Definition → Type 0
unfolding DefinitionRefers
DefinitionsRefer earlier [] = Unit {0}
DefinitionsRefer earlier (d ∷ ds) = DefinitionRefers earlier d.items × DefinitionsRefer (d ∷ earlier) ds

-- A section may name any definition.
unfoldable pub PatternRefers : List Definition → Pattern → Type 0
PatternRefers ds (items r) = Unit {0}
PatternRefers ds (named n) = (d : Definition) × (definition_of n ds ≡ some d)

unfoldable pub SectionsRefer : List Definition → List Section → Type 0
unfolding PatternRefers
SectionsRefer ds [] = Unit {0}
SectionsRefer ds (x ∷ xs) = PatternRefers ds x.pattern × SectionsRefer ds xs

-- The song's measures, "lead-ins and tails in, before cuts".
unfoldable pub uncut_length : List Section → List Parts → ℕ
unfolding uncut
uncut_length [] ps = 0
uncut_length (x ∷ xs) [] = 0
uncut_length (x ∷ xs) (p ∷ ps) = length (uncut (as_often x.modifiers) p) + uncut_length xs ps

-- Lyric lines that all have a count, with their sum; lyric lines of which none has one.
pub data Counted : List LyricLine → ℕ → Type 0 where
  none_counted : Counted [] 0
  and_counted : {l : LyricLine} {ls : List LyricLine} {words : List Byte} {n k sum : ℕ} → CountedLine l.text words n → Counted ls k
      → sum ≡ n + k → Counted (l ∷ ls) sum

unfoldable pub Uncounted : List LyricLine → Type 0
Uncounted [] = Unit {0}
Uncounted (l ∷ ls) = ((words : List Byte) (n : ℕ) → CountedLine l.text words n → ⊥) × Uncounted ls

-- "Take the lyric lines of all sections whose pattern isn't empty: if one has a count, all have, and each such section with lyrics sums to its measures.
-- Counts in other sections bind nothing."
unfoldable pub SumsBy : Option Items → List LyricLine → ℕ → Type 0
SumsBy none ls measures = Unit {0}
SumsBy (some r) [] measures = Unit {0}
SumsBy (some r) (l ∷ ls) measures = Counted (l ∷ ls) measures

unfoldable pub AllSum : Song → List Section → List Parts → Type 0
unfolding SumsBy joined
AllSum s [] ps = Unit {0}
AllSum s (x ∷ xs) [] = ⊥
AllSum s (x ∷ xs) (p ∷ ps) = SumsBy (pattern_items s.definitions x.pattern) x.lyrics (length (joined p)) × AllSum s xs ps

unfoldable pub UncountedBy : Option Items → List LyricLine → Type 0
unfolding Uncounted
UncountedBy none ls = Unit {0}
UncountedBy (some r) ls = Uncounted ls

unfoldable pub NoneCounted : Song → List Section → Type 0
unfolding UncountedBy
NoneCounted s [] = Unit {0}
NoneCounted s (x ∷ xs) = UncountedBy (pattern_items s.definitions x.pattern) x.lyrics × NoneCounted s xs

-- A song that fits: what each section plays, and what holds of it.
pub record Fits (s : Song) (ps : List Parts) : Type 0 where
  pub definitions_refer : DefinitionsRefer [] s.definitions
  pub sections_refer : SectionsRefer s.definitions s.sections
  pub plays : Each (PlaysSection s) s.sections ps
  pub short : uncut_length s.sections ps ≤ 65535
  pub counts : AllSum s s.sections ps ⊎ NoneCounted s s.sections
