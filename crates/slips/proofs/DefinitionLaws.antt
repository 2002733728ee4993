-- The lines of a definition, found block by block.
use Prim.Native.Nat.{ℕ, ◌<◌, ◌≤◌}
use mathlib.Core.Path.{◌≡◌, refl, sym, ap, ◌∙◌}
use mathlib.Core.List.{List, []}
use mathlib.Core.Bool.{Bool, true, false, true≢false}
use mathlib.Core.Option.{get_or}
use native.Mathlib.Omega.{arith}
use denote.Enum.Bare.{sameb}
use lib.Dec.{eqb}
use lib.ListN.{length}
use Rattle.songcode.specs.Lists.{provided◌then◌else◌}
use Rattle.songcode.specs.Answer.Lines.{Line, Block, blocks}
use Rattle.songcode.specs.Answer.SongText as songtext
use Rattle.songcode.specs.Answer.SongText.{block_kind, head_in}
use Rattle.settings.specs.declared.kinds.BlockKind.{BlockKind}
use Rattle.settings.specs.declared.kinds.BlockKind.TheVariants.{Definition}
use Rattle.settings.specs.contracts.kinds.BlockKind.{the_type}
use Rattle.settings.specs.Kinds.{block_kind_is}
use Rattle.sections.specs.declared.blocks.Place.{Place}
use Rattle.sections.specs.declared.runs.Run.{Run}
use Rattle.sections.specs.Runs.{text_lines, lines_of}
use Rattle.sections.specs.BlockParts.{block_at}
use Rattle.sections.proofs.NextLaws.{blocks_over}
use Rattle.slips.specs.PatternText.{defines_by, defines, definition_lines}
use Rattle.slips.specs.BlocksMet.{OpensAt, Behind}

-- Whether a kind is that of definitions, as `==` tells it.
abbrev defining : BlockKind → Bool
defining k = sameb the_type k Definition

-- By the kind that is found: no other than a definition defines, and that by the number of its head.
by_kind : (k : songtext.BlockKind) (n : ℕ) (b : Block) → defining (block_kind_is k) ≡ false → false ≡ defines_by k n b
unfolding defines_by block_kind_is
by_kind songtext.metadata n b o = refl
by_kind songtext.definition n b o = absurd (true≢false o)
by_kind songtext.section n b o = refl

by_head : (k : songtext.BlockKind) (n : ℕ) (b : Block) → defining (block_kind_is k) ≡ true → eqb (get_or (head_in b.first) 0) n ≡ defines_by k n b
unfolding defines_by block_kind_is
by_head songtext.metadata n b o = absurd (true≢false (sym o))
by_head songtext.definition n b o = refl
by_head songtext.section n b o = absurd (true≢false (sym o))

module _ (n : ℕ) (b : Block) {m : BlockKind} {r : Bool} (e : m ≡ block_kind_is (block_kind b)) (f : r ≡ defining m) where
  same_kind : r ≡ defining (block_kind_is (block_kind b))
  same_kind = f ∙ ap defining e

  pub of_another : r ≡ false → r ≡ defines n b
  unfolding defines
  of_another o = o ∙ by_kind (block_kind b) n b (sym same_kind ∙ o)

  pub of_definition : r ≡ true → {id : ℕ} → id ≡ get_or (head_in b.first) 0 → eqb id n ≡ defines n b
  unfolding defines
  of_definition o i = ap (λ (k : ℕ). eqb k n) i ∙ by_head (block_kind b) n b (sym same_kind ∙ o)

-- Of the blocks from a place on.
module _ (s : List ℕ) (n : ℕ) (p : Place) where
  abbrev pub lines_from : List Line
  lines_from = definition_lines n (blocks (text_lines s p.number p.at))

  pub lines_here : OpensAt s p → p.at < length s → defines n (block_at s p.number p.at) ≡ true → lines_from ≡ (block_at s p.number p.at).others
  unfolding definition_lines provided◌then◌else◌
  lines_here o h d = ap (definition_lines n) (o h) ∙ rw d

  pub lines_later : OpensAt s p → p.at < length s → defines n (block_at s p.number p.at) ≡ false → (q : Place) → Behind s p q
      → lines_from ≡ definition_lines n (blocks (text_lines s q.number q.at))
  unfolding definition_lines provided◌then◌else◌
  lines_later o h d q b = ap (definition_lines n) (o h) ∙ rw d (ap (definition_lines n) b.same)

  pub lines_nowhere : length s ≤ p.at → lines_from ≡ []
  unfolding definition_lines
  lines_nowhere h = ap (definition_lines n) (blocks_over s p.number p.at h)

-- A run without lines.
pub no_lines : (s : List ℕ) (r : Run) → r.lines ≤ 0 → lines_of s r ≡ []
unfolding lines_of
no_lines s r h = let e : r.lines ≡ 0 = omega arith in rw e refl
