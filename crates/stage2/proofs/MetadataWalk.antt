-- The walk over a metadata block.
use Prim.Native.Nat.{ℕ, min, max}
use mathlib.Core.Path.{◌≡◌, refl, sym, ap, ◌∙◌}
use mathlib.Core.List.{List, [], ◌∷◌, flat_map}
use native.Mathlib.Omega.{arith}
use Rattle.songcode.specs.Lists.{prepend}
use Rattle.songcode.specs.Answer.Lines.{Line, Block}
use Rattle.songcode.specs.Answer.Sections.{twice, twice_by, key_said}
use Rattle.songcode.specs.Answer.SongText.{metadata, block_kind, metadata_fault}
use Rattle.grammar.specs.Checks.{first}
use Rattle.grammar.specs.Verdicts.{section_fine}
use Rattle.refusals.specs.Ranks.{least}
use Rattle.stage2.specs.Walk.{Known, known, Walk, in_metadata, block_at, nothing_pending, closed, fine_at, late, metadata_note, opens, step_at}
use Rattle.refusals.proofs.RankLaws.{least_both, min_assoc}
use Rattle.stage2.proofs.BlockWalk.{in_block, after_block, block_note, block_after, unless_none}
use Rattle.stage2.proofs.SeenLaws.{seen_after}

-- What metadata lines are complained of, where these keys were seen.
abbrev pub metadata_least : List ℕ → List Line → ℕ
metadata_least seen ls = min (least (twice 4 key_said seen ls)) (least (flat_map metadata_fault ls))

pub metadata_next : (seen : List ℕ) (l : Line) (ls : List Line) → metadata_least seen (l ∷ ls) ≡ min (metadata_note seen l)
    (metadata_least (prepend (key_said l) seen) ls)
unfolding twice flat_map metadata_note
metadata_next seen l ls =
    least_both (twice_by 4 (key_said l) seen l) (twice 4 key_said (prepend (key_said l) seen) ls) (metadata_fault l) (flat_map metadata_fault ls)

abbrev metadata_walk : Known → Walk
metadata_walk k = block_at in_metadata k nothing_pending

metadata_lines_lem : (k : Known) (ls : List Line) → in_block (metadata_walk k) ls ≡ metadata_least k.keys ls
unfolding in_block closed fine_at step_at twice flat_map least
metadata_lines_lem k [] = let h = unless_none (section_fine first) in omega arith
metadata_lines_lem k (l ∷ ls) =
    ap (min (metadata_note k.keys l)) (metadata_lines_lem (known k.turn (prepend (key_said l) k.keys) k.sofar k.heads) ls)
    ∙ sym (metadata_next k.keys l ls)

metadata_after_lem : (k : Known) (ls : List Line) → after_block (metadata_walk k) ls ≡ known k.turn (seen_after 4 key_said k.keys ls) k.sofar k.heads
unfolding after_block seen_after step_at
metadata_after_lem k [] = refl
metadata_after_lem k (l ∷ ls) = metadata_after_lem (known k.turn (prepend (key_said l) k.keys) k.sofar k.heads) ls

module _ (k : Known) (b : Block) (e : block_kind b ≡ metadata) where
  abbrev opened : Known
  opened = known (max k.turn 0) (prepend (key_said b.first) k.keys) k.sofar k.heads

  pub metadata_block : block_note k b ≡ min (late 0 k.turn b.first) (metadata_least k.keys (b.first ∷ b.others))
  unfolding in_block step_at opens block_kind
  metadata_block =
      rw (e, metadata_lines_lem opened b.others, metadata_next k.keys b.first b.others)
      (min_assoc (late 0 k.turn b.first) (metadata_note k.keys b.first) (metadata_least opened.keys b.others))

  pub metadata_block_after : block_after k b ≡ known (max k.turn 0) (seen_after 4 key_said k.keys (b.first ∷ b.others)) k.sofar k.heads
  unfolding after_block step_at opens block_kind seen_after
  metadata_block_after = rw e (metadata_after_lem opened b.others)
