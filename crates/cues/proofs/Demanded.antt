-- What is promised of light cues, proved.
use Prim.Native.Nat.{ℕ, zero, suc, ◌+◌, ◌<◌}
use mathlib.Core.Path.{◌≡◌, refl, ◌∙◌}
use mathlib.Core.List.{List, [], ◌∷◌}
use native.Mathlib.Omega.{arith}
use lib.ListN.{length, take, get_or}
use Rattle.songcode.specs.Lists.{sum}
use Rattle.cues.specs.Cues.{beat_length, lengths, starts, refusal_of}
use Rattle.cues.specs.Demands.{trials, Demands}
use Rattle.cues.proofs.SongJoins.{song_joins}
use Rattle.cues.proofs.BeatLaws.{as_many, start_by_beats, end_by_beats}

start_at : (time : ℕ) (xs : List ℕ) (k : ℕ) → k < length xs → get_or (starts time xs) k 0 ≡ time + sum (take k xs)
unfolding starts sum
start_at time [] k l = absurd (omega arith)
start_at time (x ∷ xs) zero l = omega arith
start_at time (x ∷ xs) (suc k) l = let h = start_at (time + x) xs k (omega arith) in h ∙ omega arith

pub demanded : Demands
unfolding trials refusal_of lengths starts sum beat_length
demanded =
    record {
      start_is_sum = λ sections measures k l. let h = start_at 0 (lengths sections measures) k l in omega (arith, h);
      start_by_beats = λ sections measures j k l.
          let h = start_at 0 (lengths sections measures) k (let m = as_many sections measures j in omega arith) in
          let b = start_by_beats sections measures j k l in
          omega (arith, h, b);
      end_by_beats = end_by_beats;
      song_joins = song_joins;
      tried = refl;
      tried_starts = refl;
      tried_ends = refl;
      entries = refl;
    }
