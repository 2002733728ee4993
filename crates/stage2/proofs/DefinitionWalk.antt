-- The walk over a definition.
use Prim.Native.Nat.{ℕ, suc, min, max}
use mathlib.Core.Path.{◌≡◌, refl, sym, ap, ◌∙◌}
use mathlib.Core.List.{List, [], ◌∷◌}
use mathlib.Core.Bool.{Bool, true, false, not}
use native.Mathlib.Omega.{arith}
use Rattle.songcode.specs.Lists.{provided◌then◌else◌, is_some, prepend}
use Rattle.songcode.specs.Answer.Lines.{Line, Block}
use Rattle.songcode.specs.Answer.PatternText.{definition_text}
use Rattle.songcode.specs.Answer.SongText.{definition, block_kind, head_in, definition_faults}
use Rattle.grammar.specs.Checks.{first, check_step, check_text}
use Rattle.grammar.specs.Verdicts.{definition_fine}
use Rattle.grammar.specs.declared.checks.Check.{Check}
use Rattle.grammar.specs.declared.kinds.Kind.TheVariants.{LineEnd}
use Rattle.grammar.proofs.VerdictLaws.{definition_fine_lem}
use Rattle.refusals.specs.Ranks.{ranked, none, least, only_if}
use Rattle.stage2.specs.Walk.{Known, known, Walk, behind_head, in_definition, block_at, pending, nothing_pending, closed, fine_at, late, head_note, unless}
use Rattle.stage2.specs.Walk.{opens, step_at}
use Rattle.refusals.proofs.RankLaws.{least_if, min_assoc}
use Rattle.stage2.proofs.BlockWalk.{in_block, after_block, block_note, block_after, unless_none}
use Rattle.stage2.proofs.SeenLaws.{check_on, check_lines_on}

pub only_unless : (t : Bool) (r : ℕ) → only_if (not t) r ≡ unless t r
unfolding only_if unless provided◌then◌else◌
only_unless true r = refl
only_unless false r = refl

module _ (k : Known) where
  abbrev text_walk : ℕ → Check → Walk
  text_walk bad c = block_at in_definition k (pending none none bad c)

  text_lines_lem : (bad : ℕ) (c : Check) (ls : List Line) → in_block (text_walk bad c) ls ≡ min none (unless (definition_fine (check_on c ls)) bad)
  unfolding in_block closed fine_at step_at check_on
  text_lines_lem bad c [] = omega arith
  text_lines_lem bad c (l ∷ ls) = let h = text_lines_lem bad (check_text (check_step c LineEnd) l.text) ls in omega arith

  text_after : (bad : ℕ) (c : Check) (ls : List Line) → after_block (text_walk bad c) ls ≡ k
  unfolding after_block step_at
  text_after bad c [] = refl
  text_after bad c (l ∷ ls) = text_after bad (check_text (check_step c LineEnd) l.text) ls

  abbrev head_walk : Walk
  head_walk = block_at behind_head k nothing_pending

  definition_lines_lem : (ls : List Line) → in_block head_walk ls ≡ least (definition_faults ls)
  unfolding in_block closed fine_at step_at definition_faults least
  definition_lines_lem [] = let h = unless_none (definition_fine first) in omega arith
  definition_lines_lem (l ∷ ls) =
      let bad = ranked 7 l.number in
      let fine : definition_fine (check_on (check_text first l.text) ls) ≡ is_some (definition_text l ls) = ap definition_fine
      (sym (check_lines_on l ls)) ∙ definition_fine_lem l ls in
      let walk = text_lines_lem bad (check_text first l.text) ls in
      let said = least_if (not (is_some (definition_text l ls))) 7 l.number in
      let same : unless (definition_fine (check_on (check_text first l.text) ls)) bad ≡ only_if (not (is_some (definition_text l ls))) bad = rw fine
      (sym (only_unless (is_some (definition_text l ls)) bad)) in
      omega arith

  definition_after : (ls : List Line) → after_block head_walk ls ≡ k
  unfolding after_block step_at
  definition_after [] = refl
  definition_after (l ∷ ls) = text_after (ranked 7 l.number) (check_text first l.text) ls

module _ (k : Known) (b : Block) (e : block_kind b ≡ definition) where
  abbrev opened : Known
  opened = known (max k.turn 1) k.keys (suc k.sofar) (prepend (head_in b.first) k.heads)

  pub definition_block : block_note k b ≡ min (late 1 k.turn b.first) (min (head_note k b.first) (least (definition_faults b.others)))
  unfolding in_block step_at opens block_kind
  definition_block =
      rw (e, definition_lines_lem opened b.others)
      (min_assoc (late 1 k.turn b.first) (head_note k b.first) (least (definition_faults b.others)))

  pub definition_block_after : block_after k b ≡ opened
  unfolding after_block step_at opens block_kind
  definition_block_after = rw e (definition_after opened b.others)
