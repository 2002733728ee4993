-- "Stages run one after another, each over the whole file. In a stage the earliest line wins, on one line the lowest number. ... Each is given
-- exactly when stated and earlier ones aren't."
use Rattle.std.specs.Prelude.{ℕ, List, [], ◌∷◌}
use Rattle.songcode.specs.Bytes.{placed}
use Rattle.songcode.specs.Answer.Lines.{Line, Block}
use Rattle.songcode.specs.Complaints.{Complaint}
use Rattle.songcode.specs.Song.{Song}
use Rattle.songcode.specs.Answer.Answer.{Room}
use Rattle.songcode.specs.Description.WrittenText.{WrittenLines, WrittenBlocks}
use Rattle.songcode.specs.Description.WrittenSong.{WrittenChart}
use Rattle.songcode.specs.Description.Performance.{Parts}
use Rattle.songcode.specs.Description.Fits.{Fits}
use Rattle.songcode.specs.Description.Given.{Before}
use Rattle.songcode.specs.Description.StoppedText.{Stops2}
use Rattle.songcode.specs.Description.StoppedSong.{Stops1, Stops3, Stops4, Stops5, Stops6, Stops7, Stops8}

pub data Stage : Type 0 where
  stage1 stage2 stage3 stage4 stage5 stage6 stage7 stage8 : Stage

-- What is stated in a stage: of the bytes, of their blocks, of the song that they are.
unfoldable pub Stated : Room → List ℕ → Stage → Complaint → Type 0
Stated room bs stage1 c = Stops1 bs c
Stated room bs stage2 c = (lines : List Line) × (blocks : List Block) × WrittenLines (placed 0 bs) lines × WrittenBlocks lines blocks × Stops2 blocks c
Stated room bs stage3 c = (s : Song) × WrittenChart bs s × Stops3 s c
Stated room bs stage4 c = (s : Song) × WrittenChart bs s × Stops4 s c
Stated room bs stage5 c = (s : Song) × WrittenChart bs s × Stops5 s c
Stated room bs stage6 c = (s : Song) × WrittenChart bs s × Stops6 s c
Stated room bs stage7 c = (s : Song) × WrittenChart bs s × Stops7 s c
Stated room bs stage8 c = (s : Song) × (ps : List Parts) × WrittenChart bs s × Fits s ps × Stops8 room s ps c

-- Nothing is stated in a stage; nor in any stage before one.
unfoldable pub Nothing : Room → List ℕ → Stage → Type 0
unfolding Stated
Nothing room bs k = (c : Complaint) → Stated room bs k c → ⊥

unfoldable pub stages_before : Stage → List Stage
stages_before stage1 = []
stages_before stage2 = stage1 ∷ []
stages_before stage3 = stage1 ∷ stage2 ∷ []
stages_before stage4 = stage1 ∷ stage2 ∷ stage3 ∷ []
stages_before stage5 = stage1 ∷ stage2 ∷ stage3 ∷ stage4 ∷ []
stages_before stage6 = stage1 ∷ stage2 ∷ stage3 ∷ stage4 ∷ stage5 ∷ []
stages_before stage7 = stage1 ∷ stage2 ∷ stage3 ∷ stage4 ∷ stage5 ∷ stage6 ∷ []
stages_before stage8 = stage1 ∷ stage2 ∷ stage3 ∷ stage4 ∷ stage5 ∷ stage6 ∷ stage7 ∷ []

unfoldable pub NothingIn : Room → List ℕ → List Stage → Type 0
unfolding Nothing
NothingIn room bs [] = Unit {0}
NothingIn room bs (k ∷ ks) = Nothing room bs k × NothingIn room bs ks

-- The refusal that is given.
pub record Refused (room : Room) (bs : List ℕ) (c : Complaint) : Type 0 where
  pub stage : Stage
  pub stated : Stated room bs stage c
  pub first : (d : Complaint) → Stated room bs stage d → Before c d
  pub none_earlier : NothingIn room bs (stages_before stage)
