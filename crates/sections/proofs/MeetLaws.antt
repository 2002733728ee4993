-- From section to section: the blocks behind a section's are those from the next place on, and their lines stand behind it.
use Prim.Native.Nat.{ℕ, zero, suc, ◌+◌, ◌-◌, ◌<◌, ◌≤◌}
use mathlib.Core.Path.{◌≡◌, refl, sym, ap, ◌∙◌, subst}
use mathlib.Core.List.{List, [], ◌∷◌, map, flat_map}
use mathlib.Core.Bool.{false, not}
use mathlib.Core.Option.{Option, none, some, get_or}
use native.Mathlib.Omega.{arith}
use lib.ListN.{length, drop}
use Rattle.songcode.specs.Lists.{is_empty, is_some}
use Rattle.songcode.specs.Answer.Lines.{Line, Block, shut, join, runs, blocks}
use Rattle.songcode.specs.Song.{Pattern, named}
use Rattle.songcode.specs.Answer.PatternText.{section_text}
use Rattle.songcode.specs.Answer.Sections.{section_faults, section_in, pattern_in, pattern_faults, pattern_run, body}
use Rattle.songcode.proofs.ListLaws.{Each, each_map, append_is_nil, nil_is_not_cons, complain_if_nil, true_is_not_false, by_cases}
use Rattle.text.specs.Spans.{line_of, line_at, line_text, spans_from}
use Rattle.sections.specs.declared.blocks.Place.{Place}
use Rattle.sections.specs.declared.blocks.Parts.{Parts}
use Rattle.sections.specs.declared.blocks.SectionRead.{SectionRead}
use Rattle.sections.specs.declared.walking.Passed.{Passed}
use Rattle.sections.specs.declared.runs.Run.{Run}
use Rattle.sections.specs.declared.runs.Test.TheVariants.{Full}
use Rattle.sections.specs.Runs.{text_lines, passing, lines_of, lines_behind}
use Rattle.sections.specs.BlockParts.{block_at, lines_past, PartsAt, PartsRead, NextAt}
use Rattle.sections.specs.Onward.{sections_from, Onward, section_at, Later, Passes, Meets}
use Rattle.sections.proofs.ListLaws.{each_left}
use Rattle.sections.proofs.NextLaws.{blocks_over}
use Rattle.sections.proofs.SectionLaws.{clean_order, parts_say, parts_read, section_says}

-- Lines, and the first lines of blocks, numbered from n on.
abbrev pub From : ℕ → Line → Type 0
From n l = n ≤ l.number

unfoldable pub Firsts : ℕ → List Block → Type 0
Firsts n [] = Unit {0}
Firsts n (b ∷ bs) = (n ≤ b.first.number) × Firsts n bs

from_spans : (s : List ℕ) (n at k : ℕ) (bs : List ℕ) → Each (From n) (map (line_text s) (spans_from n at k bs))
unfolding Each spans_from line_of
from_spans s n at k [] = tt
from_spans s n at (suc k) (b ∷ bs) = from_spans s n (suc at) k bs
from_spans s n at zero (b ∷ bs) = (
  omega arith,
  each_map (λ l h. omega arith) (map (line_text s) (spans_from (suc n) (suc at) ((line_of n at (b ∷ bs)).next - suc at) bs))
      (from_spans s (suc n) (suc at) ((line_of n at (b ∷ bs)).next - suc at) bs),
)

pub from_lines : (s : List ℕ) (n at : ℕ) → Each (From n) (text_lines s n at)
unfolding text_lines
from_lines s n at = from_spans s n at 0 (drop at s)

record RunsFrom (n : ℕ) (ls : List Line) : Type 0 where
  front : Each (From n) (runs ls).front
  rest : Firsts n (runs ls).rest

shut_firsts : (n : ℕ) (ls : List Line) (bs : List Block) → Each (From n) ls → Firsts n bs → Firsts n (shut ls bs)
unfolding Each Firsts shut
shut_firsts n [] bs w v = v
shut_firsts n (l ∷ ls) bs w v = (w.0, v)

runs_from : (n : ℕ) (ls : List Line) → Each (From n) ls → RunsFrom n ls
unfolding Each Firsts runs join
runs_from n [] w = record { front = tt; rest = tt }
runs_from n (l ∷ ls) w =
    let r = runs_from n ls w.1 in
    by_cases (is_empty l.text)
    (λ e. record { front = rw e tt; rest = rw e (shut_firsts n (runs ls).front (runs ls).rest r.front r.rest) })
    (λ e. record { front = rw e (w.0, r.front); rest = rw e r.rest })

pub blocks_from_lem : (n : ℕ) (ls : List Line) → Each (From n) ls → Firsts n (blocks ls)
unfolding blocks
blocks_from_lem n ls w = let r = runs_from n ls w in shut_firsts n (runs ls).front (runs ls).rest r.front r.rest

pub firsts_later : (n : ℕ) (bs : List Block) → Firsts (n + 1) bs → Later n (map section_in bs)
unfolding Firsts Later section_in
firsts_later n [] w = tt
firsts_later n (b ∷ bs) w = let q = w.0 in (omega arith, firsts_later n bs w.1)

-- No section stands from the end of the text on.
pub sections_over : (s : List ℕ) (p : Place) → length s ≤ p.at → sections_from s p ≡ []
unfolding sections_from
sections_over s p h = ap (map section_in) (blocks_over s p.number p.at h)

-- A section without fault has a pattern.
pattern_there : (header : ℕ) (ls : List Line) → pattern_faults header ls ≡ [] → pattern_in ls ≡ some (get_or (pattern_in ls) (named 0))
unfolding pattern_faults pattern_in is_some
pattern_there header [] h = nil_is_not_cons (sym h)
pattern_there header (l ∷ ls) h = some_there (section_text l ls) (complain_if_nil (not (is_some (section_text l ls))) 7 l.number h)
  where
    some_there : (o : Option Pattern) → not (is_some o) ≡ false → o ≡ some (get_or o (named 0))
    some_there none e = true_is_not_false refl e
    some_there (some q) e = refl

-- The block at a place, whose lines end before another one, and the next block behind it.
module _ (s : List ℕ) (p q : Place) (n at : ℕ) (o : Onward s p) (inside : p.at < length s) (past : text_lines s n at ≡ lines_past s p.number p.at)
    (e : NextAt s n at q) where
  block_behind : blocks (lines_past s p.number p.at) ≡ blocks (text_lines s q.number q.at)
  block_behind = ap blocks (sym past) ∙ e.same

  pub block_opened : blocks (text_lines s p.number p.at) ≡ block_at s p.number p.at ∷ blocks (text_lines s q.number q.at)
  block_opened = o.opens inside ∙ ap (λ bs. block_at s p.number p.at ∷ bs) block_behind

  fair_next : (section_faults (block_at s p.number p.at) ≡ []) × (flat_map section_faults (blocks (text_lines s q.number q.at)) ≡ [])
  unfolding flat_map
  fair_next = append_is_nil (section_faults (block_at s p.number p.at)) (flat_map section_faults (blocks (text_lines s q.number q.at)))
      (ap (flat_map section_faults) (sym block_opened) ∙ o.fair)

  pub onward_next : Onward s q
  onward_next = record { number = e.number; counted = e.counted; inside = e.inside; opens = λ h. sym e.same ∙ e.there h; fair = fair_next.1 }

module _ (s : List ℕ) (p : Place) (x : Parts) (q : Place) (o : Onward s p) (inside : p.at < length s) (w : PartsAt s p.number p.at x)
    (e : NextAt s (x.lyrics.number + x.lyrics.lines) x.lyrics.next q) where
  block : Block
  block = block_at s p.number p.at

  past : text_lines s (x.lyrics.number + x.lyrics.lines) x.lyrics.next ≡ lines_past s p.number p.at
  unfolding lines_behind
  past = w.past

  header_is : (section_at s p).header ≡ p.number
  unfolding section_at section_in block_at line_of
  header_is = refl

  later : Later (section_at s p).header (sections_from s q)
  unfolding sections_from lines_past
  later =
      let n = p.number in
      let f = blocks_from_lem (n + 1) (lines_past s n p.at) (each_left (From (n + 1)) (passing Full) (text_lines s (n + 1) (line_at s n p.at).next)
      (from_lines s (n + 1) (line_at s n p.at).next)) in
      rw header_is (firsts_later n (blocks (text_lines s q.number q.at)) (subst (Firsts (n + 1)) (block_behind s p q _ _ o inside past e) f))

  has_pattern : pattern_in (lines_of s x.pattern) ≡ some (section_at s p).pattern
  unfolding section_at section_in block
  has_pattern =
      let b = block in
      let ls = pattern_run (body b) in
      ap pattern_in w.pattern ∙ pattern_there b.first.number ls (clean_order b (fair_next s p q _ _ o inside past e).0).2

  pub section_passes : Passes s p (record { section = x; next = q })
  unfolding sections_from section_at block
  section_passes =
      let a = w.onward in
      let b = e.onward in
      record {
        read = w;
        says = parts_say s p.number p.at x w;
        written = has_pattern;
        opened = block_opened s p q _ _ o inside past e;
        first = ap (map section_in) (block_opened s p q _ _ o inside past e);
        onward = onward_next s p q _ _ o inside past e;
        further = omega arith;
        later = later;
      }

-- A section that is passed and read.
pub section_meets : (s : List ℕ) (p : Place) (x : Passed) (r : SectionRead) → Onward s p → p.at < length s → Passes s p x
    → PartsRead s x.section r → Meets s p (record { section = r; next = x.next })
unfolding flat_map section_at
section_meets s p x r o inside w e =
    let b = block_at s p.number p.at in
    let clean = (append_is_nil (section_faults b) (flat_map section_faults (blocks (lines_past s p.number p.at)))
    (ap (flat_map section_faults) (sym (o.opens inside)) ∙ o.fair)).0 in
    let at = parts_read s p.number p.at x.section r w.read e in
    record {
      read = at;
      says = section_says s p.number p.at r at clean;
      written = ap (λ (k : Run). pattern_in (lines_of s k)) e.pattern ∙ w.written;
      opened = w.opened;
      first = w.first;
      onward = w.onward;
      further = w.further;
      later = w.later;
    }
