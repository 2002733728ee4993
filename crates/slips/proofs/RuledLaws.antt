-- What is found from a line and its block is found of the text that the verdict names.
use Prim.Native.Nat.{ℕ, ◌-◌, ◌<◌}
use native.Mathlib.Omega.{arith}
use borrow.Author.Tests.{ltb-true, ltb-false}
use lib.Dec.{ltb}
use mathlib.Core.Path.{◌≡◌, sym, ap, subst, ◌∙◌}
use mathlib.Core.List.{List, [], ◌∷◌}
use lib.ListN.{length}
use Rattle.songcode.specs.Answer.Lines.{Line, Block}
use Rattle.songcode.specs.Answer.Sections.{kind_of_line, setting_of, pattern_run, body}
use Rattle.songcode.specs.Answer.SongText.{definition, block_kind}
use Rattle.songcode.specs.Answer.SongText as songtext
use Rattle.songcode.specs.Answer.Sections as sections
use Rattle.songcode.specs.Answer.Sections.{modifier_line, pattern_line}
use Rattle.songcode.specs.Bytes.{placed}
use Rattle.songcode.proofs.ListLaws.{by_cases}
use Rattle.settings.specs.declared.kinds.Kind.{Kind}
use Rattle.settings.specs.declared.kinds.Kind.TheVariants.{Key, Modifier, Pattern}
use Rattle.settings.specs.declared.kinds.BlockKind.{BlockKind}
use Rattle.settings.specs.declared.kinds.BlockKind.TheVariants.{Metadata, Definition, Section}
use Rattle.settings.specs.Kinds.{kind_is, block_kind_is}
use Rattle.settings.proofs.ValueLaws.{kind_of_placeless}
use Rattle.text.specs.declared.lines.Line as text
use Rattle.text.specs.Spans.{part, line_text}
use Rattle.sections.specs.declared.runs.Run.{Run}
use Rattle.sections.specs.Runs.{lines_of}
use Rattle.sections.specs.BlockParts.{block_at}
use Rattle.slips.specs.declared.spots.Spot.{Spot}
use Rattle.slips.specs.declared.slip.Slip.{Slip}
use Rattle.slips.specs.declared.patterns.Whose.{Whose}
use Rattle.slips.specs.declared.patterns.Whose.TheVariants.{Side}
use Rattle.slips.specs.Rules.{Ruled}
use Rattle.slips.specs.RulesRead.{RuledAt}
use Rattle.slips.specs.Finds.{LineOf, InBlock, TextOf, of_definition, of_pattern_lem, of_side}
use Rattle.slips.proofs.BlockLaws.{line_in_block}

module _ (s : List ℕ) (n : ℕ) (p : Spot) (line : (l : text.Line) → LineOf s n l → p.line ≡ l)
    (block : (b : Block) (m : Line) → InBlock s n b m → (p.block.at < length s) × (block_at s p.block.number p.block.at ≡ b))
    (x : Slip) (r : RuledAt s p.line p.block x) where
  -- The line that was found is the line of the block.
  same_line : (b : Block) (m : Line) → InBlock s n b m → line_text s p.line ≡ m
  same_line b m i = let v = line_in_block s n b m i in ap (line_text s) (line v.0 v.1) ∙ sym v.2

  pub ruled_found : (w : Whose) (ls : List Line) → TextOf s n w ls → Ruled s w ls x.clause x.from
  ruled_found w ls (of_definition {b} {m} {ms} i k o) =
      let y = block b m i in
      r.definition y.0 (ap block_kind y.1 ∙ k) m ms (ap (λ (c : Block). c.others) y.1 ∙ o)
  ruled_found w ls (of_pattern_lem {b} {m} {ms} i k q o) =
      let y = block b m i in
      r.pattern y.0 (ap block_kind y.1 ∙ k) (ap kind_of_line (same_line b m i) ∙ q) m ms (ap (λ (c : Block). pattern_run (body c)) y.1 ∙ o)
  ruled_found w ls (of_side {b} {m} i k q) =
      let y = block b m i in
      let e = same_line b m i in
      subst (λ (l : Line). Ruled s Side (record { number = l.number; text = setting_of l } ∷ []) x.clause x.from) e
      (r.side y.0 (ap block_kind y.1 ∙ k) (ap kind_of_line e ∙ q))

-- The kinds that the code tells apart, as numbers.
abbrev kind_number : BlockKind → ℕ
kind_number Metadata = 0
kind_number Definition = 1
kind_number Section = 2

abbrev line_number : Kind → ℕ
line_number Key = 0
line_number Modifier = 1
line_number Pattern = 2

pub block_clash : {k l : BlockKind} {a b : songtext.BlockKind} → k ≡ block_kind_is a → k ≡ l → a ≡ b → (kind_number l ≡ kind_number (block_kind_is b) → ⊥)
    → {X : Type 0} → X
block_clash e f g n = absurd (n (ap kind_number (sym f ∙ e ∙ ap block_kind_is g)))

pub line_clash : (s : List ℕ) (l : text.Line) {k j : Kind} {b : sections.Kind} → k ≡ kind_is (sections.kind_of (placed 0 (part l.start l.stop s))) → k ≡ j
    → kind_of_line (line_text s l) ≡ b → (line_number j ≡ line_number (kind_is b) → ⊥) → {X : Type 0} → X
unfolding kind_of_line
line_clash s l e f g n =
    absurd (n (ap line_number (sym f ∙ e ∙ ap kind_is (sym (kind_of_placeless l.start (part l.start l.stop s)) ∙ g))))

pub modifier_long : (s : List ℕ) (l : text.Line) → kind_of_line (line_text s l) ≡ modifier_line → l.start < l.stop
unfolding kind_of_line sections.kind_of placed kind_is
modifier_long s l e =
    by_cases (ltb l.start l.stop)
    (λ t. ltb-true l.start l.stop t)
    (λ t.
    let d : l.stop - l.start ≡ 0 = let g = ltb-false l.start l.stop t in omega arith in
    let f : pattern_line ≡ modifier_line = rw d at e in
    let z : line_number (kind_is pattern_line) ≡ line_number (kind_is modifier_line) = ap (λ k. line_number (kind_is k)) f in
    apart z)
  where
    apart : {X : Type 0} → line_number (kind_is pattern_line) ≡ line_number (kind_is modifier_line) → X
    apart z = absurd (omega arith)

-- What is found on the lines of a run is found of the text that they are.
pub ruled_lines : (s : List ℕ) (w : Whose) (run : Run) (x : Slip) {ls : List Line} → lines_of s run ≡ ls
    → ((m : Line) (ms : List Line) → lines_of s run ≡ m ∷ ms → Ruled s w (lines_of s run) x.clause x.from)
    → (m : Line) (ms : List Line) → ls ≡ m ∷ ms → Ruled s w (m ∷ ms) x.clause x.from
ruled_lines s w run x e h m ms o = subst (λ (ls : List Line). Ruled s w ls x.clause x.from) (e ∙ o) (h m ms (e ∙ o))
