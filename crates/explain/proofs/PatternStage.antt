-- The stage of the verdict 7: the first states no more than 2, those behind the second no less than 10.
use Prim.Native.Nat.{ℕ}
use mathlib.Core.Path.{◌≡◌, ap, ◌∙◌}
use mathlib.Core.List.{List}
use Rattle.songcode.specs.Bytes.{placed}
use Rattle.songcode.specs.Complaints.{complaint}
use Rattle.songcode.specs.Answer.Lines.{blocks}
use Rattle.songcode.specs.Answer.Answer.{blocks_of, refused, song_answer}
use Rattle.songcode.specs.Description.StoppedText.{Stops2}
use Rattle.songcode.specs.Description.Refusals.{stage2, Stated}
use Rattle.songcode.proofs.LinesAgree.{lines_complete}
use Rattle.songcode.proofs.BlocksAgree.{blocks_complete}
use Rattle.explain.proofs.StageLaws.{only_2, stated_at}

module _ (bs : List ℕ) (line : ℕ) where
  pub pattern_refused : song_answer bs ≡ refused 7 line → Stops2 (blocks_of bs) (complaint 7 line)
  unfolding Stated blocks_of
  pattern_refused e =
      let h = (stated_at bs line stage2 7 only_2 e).0 in
      let same : blocks_of bs ≡ h.1 = ap blocks (lines_complete (placed 0 bs) h.0 h.2) ∙ blocks_complete h.3 in
      rw same h.4
