-- The counts of lyric lines and their prompter items.
use Prim.Native.Nat.{ℕ, zero, suc, ◌+◌}
use mathlib.Core.Path.{◌≡◌, refl, ap}
use mathlib.Core.List.{List, [], ◌∷◌, map}
use mathlib.Core.Option.{Option, none, some, get_or}
use native.Mathlib.Omega.{arith}
use lib.ListN.{length}
use Rattle.songcode.specs.Song.{LyricLine}
use Rattle.songcode.specs.Answer.Lyrics.{count_of, prompts_from}
use Rattle.songcode.specs.Answer.Tables.{item_word}
use Rattle.songcode.proofs.LyricLineAgree.{count_exact}
use Rattle.settings.specs.LyricParts.{count_from}

-- A count is never 0.
pub count_said : (l : LyricLine) → count_of l ≡ count_from (get_or (count_of l) 0)
unfolding count_of count_from
count_said l = by (count_of l) refl
  where
    by : (o : Option ℕ) → count_of l ≡ o → o ≡ count_from (get_or o 0)
    by none e = refl
    by (some zero) e =
        let low = ((count_exact l.text 0).0 e).1.number.at_least in
        let z : ⊥ = omega arith in
        absurd z
    by (some (suc k)) e = refl

pub prompts_length : (m : ℕ) (ls : List LyricLine) → length (map item_word (prompts_from m ls)) ≡ length ls
unfolding prompts_from
prompts_length m [] = refl
prompts_length m (l ∷ ls) = ap suc (prompts_length (m + get_or (count_of l) 0) ls)
