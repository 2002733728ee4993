-- What is found for the line that a verdict names: refusals 7, 12, 13, 16 and 17.
use Rattle.std.specs.Prelude.{ℕ, ◌<◌, ◌≤◌, ◌≡◌, get_or}
use mathlib.Core.List.{List, [], ◌∷◌, Memᴰ}
use Rattle.songcode.specs.Answer.Lines.{Block}
use Rattle.songcode.specs.Answer.Lines as songcode
use Rattle.songcode.specs.Answer.Sections.{kind_of_line, modifier_line, pattern_line, setting_of, pattern_run, body}
use Rattle.songcode.specs.Answer.SongText.{definition, section, block_kind}
use Rattle.songcode.specs.Answer.Answer.{blocks_of}
use Rattle.text.specs.declared.lines.Line.{Line}
use Rattle.text.specs.Spans.{spans}
use Rattle.slips.specs.declared.slip.Slip.{Slip}
use Rattle.slips.specs.MeterTold.{MeterTold, MisfitsTold}
use Rattle.slips.specs.declared.patterns.Whose.{Whose}
use Rattle.slips.specs.declared.patterns.Whose.TheVariants.{Definition, Section, Side}
use Rattle.slips.specs.Rules.{Ruled}

-- The line of a text that has this number, with its places.
pub record LineOf (s : List ℕ) (n : ℕ) (l : Line) : Type 0 where
  pub listed : Memᴰ l (spans s)
  pub number : l.number ≡ n

-- A block of a text holds a line with this number.
pub record InBlock (s : List ℕ) (n : ℕ) (b : Block) (m : songcode.Line) : Type 0 where
  pub listed : Memᴰ b (blocks_of s)
  pub held : Memᴰ m b.others
  pub number : m.number ≡ n

-- From one place up to another no byte is this one.
abbrev pub Without : ℕ → List ℕ → ℕ → ℕ → Type 0
Without b s from to = (k : ℕ) → from ≤ k → k < to → get_or s k 0 ≡ b → ⊥

-- "The name in the section's header, up to its `!`."
pub record NameOn (s : List ℕ) (l : Line) (from to : ℕ) : Type 0 where
  pub begins : from ≡ l.start
  pub onward : from ≤ to
  pub inside : to ≤ l.stop
  pub plain : Without 33 s from to
  pub ends : to < l.stop → get_or s to 0 ≡ 33

-- Where a lyric line has no count: always up to its end. Nothing is there (1), else a `_`: the last word is no count (2), one stands tight behind
-- other bytes (3), the line is a count alone (4).
pub record BareOn (s : List ℕ) (l : Line) (clause from to : ℕ) : Type 0 where
  pub named : (1 ≤ clause) × (clause ≤ 4)
  pub begins : l.start ≤ from
  pub onward : from ≤ to
  pub ends : to ≡ l.stop
  pub missing : clause ≡ 1 → from ≡ to
  pub sign : 2 ≤ clause → (from < to) × (get_or s from 0 ≡ 95)
  pub behind : clause ≡ 3 → l.start < from
  pub alone : clause ≡ 4 → from ≡ l.start

-- The pattern text that a verdict of 7 names by its first line: a definition's, a section's, a lead-in's or tail's.
pub data TextOf (s : List ℕ) (n : ℕ) : Whose → List songcode.Line → Type 0 where
  of_definition : {b : Block} {m : songcode.Line} {ms : List songcode.Line} → InBlock s n b m → block_kind b ≡ definition → b.others ≡ m ∷ ms
      → TextOf s n Definition (m ∷ ms)
  of_pattern_lem : {b : Block} {m : songcode.Line} {ms : List songcode.Line} → InBlock s n b m → block_kind b ≡ section → kind_of_line m ≡ pattern_line
      → pattern_run (body b) ≡ m ∷ ms → TextOf s n Section (m ∷ ms)
  of_side : {b : Block} {m : songcode.Line} → InBlock s n b m → block_kind b ≡ section → kind_of_line m ≡ modifier_line
      → TextOf s n Side (record { number = m.number; text = setting_of m } ∷ [])

-- What is promised of a slip, by its refusal, if the text has a line of that number; the time is the N of its section.
pub record Finds (s : List ℕ) (refusal line time : ℕ) (x : Slip) : Type 0 where
  pub ruled : refusal ≡ 7 → (w : Whose) (ls : List songcode.Line) → TextOf s line w ls → Ruled s w ls x.clause x.from
  pub misfit : refusal ≡ 12 → (l : Line) → LineOf s line l → MisfitsTold s line l time x
  pub stray : refusal ≡ 13 → (l : Line) → LineOf s line l → MeterTold s line l x.clause x.from x.to
  pub uncounted : refusal ≡ 16 → (l : Line) → LineOf s line l → BareOn s l x.clause x.from x.to
  pub summed : refusal ≡ 17 → (l : Line) → LineOf s line l → (x.clause ≡ 1) × NameOn s l x.from x.to
