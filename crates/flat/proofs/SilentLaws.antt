-- A section plays nothing exactly where its pattern is empty.
use Prim.Native.Nat.{ℕ, ◌+◌}
use mathlib.Core.Path.{◌≡◌, refl}
use mathlib.Core.List.{List, [], ◌∷◌, ◌++◌}
use mathlib.Core.Bool.{true, false, not, ◌&&◌}
use mathlib.Core.Option.{Option, none, some}
use lib.Dec.{leb, ltb}
use Rattle.songcode.specs.Lists.{is_empty, is_some}
use Rattle.songcode.specs.Complaints.{complain_if}
use Rattle.songcode.specs.Song.{Items, Section, Song, Modifiers, unmodified}
use Rattle.songcode.specs.Answer.References.{pattern_items}
use Rattle.songcode.specs.Answer.Playing.{side_measures, kept_measures, time_of, played}
use Rattle.songcode.specs.Answer.Meter.{section_count, most_measures, cut_faults, length_faults}
use Rattle.songcode.specs.Answer.Flat.{plays_nothing}
use Rattle.songcode.proofs.ListLaws.{Each, append_is_nil, complain_if_nil, true_is_not_false}
use Rattle.songcode.proofs.SectionPlays.{none_said}

-- A list with something in its middle is not empty.
some_between : {A : Type 0} (a b c : List A) → is_empty b ≡ false → is_empty (a ++ b ++ c) ≡ false
unfolding is_empty
some_between [] [] c e = true_is_not_false refl e
some_between [] (y ∷ b) c e = refl
some_between (x ∷ a) b c e = refl

nothing_said : (n : ℕ) (ms : Modifiers) → ms ≡ unmodified
    → is_empty (side_measures n ms.before ++ kept_measures n ms none ++ side_measures n ms.after) ≡ true
unfolding unmodified side_measures kept_measures is_empty
nothing_said n ms e = rw e

module _ (n header : ℕ) (ms : Modifiers) where
  silent : (o : Option Items) → cut_faults n header ms o ≡ []
      → is_empty (side_measures n ms.before ++ kept_measures n ms o ++ side_measures n ms.after) ≡ not (is_some o)
  unfolding cut_faults is_some
  silent none e = nothing_said n ms ((none_said ms).0 (complain_if_nil _ 15 header e))
  silent (some r) e = some_between (side_measures n ms.before) (kept_measures n ms (some r)) (side_measures n ms.after)
      (complain_if_nil _ 15 header e)

-- It plays nothing exactly where its pattern is empty.
abbrev pub Silent : Song → Section → Type 0
Silent s x = plays_nothing s x ≡ not (is_some (pattern_items s.definitions x.pattern))

plays_nothing_lem : (s : Song) (x : Section) → cut_faults (time_of s x) x.header x.modifiers (pattern_items s.definitions x.pattern) ≡ []
    → Silent s x
unfolding plays_nothing played
plays_nothing_lem s x e = silent (time_of s x) x.header x.modifiers (pattern_items s.definitions x.pattern) e

-- Where stage 5 refuses nothing.
pub silent_all : (s : Song) (sofar : ℕ) (xs : List Section) → length_faults s sofar xs ≡ []
    → Each (Silent s) xs
unfolding Each length_faults
silent_all s sofar [] e = tt
silent_all s sofar (x ∷ xs) e =
    let over = complain_if (leb sofar most_measures && ltb most_measures (sofar + section_count s x)) 14 x.header in
    let cuts = cut_faults (time_of s x) x.header x.modifiers (pattern_items s.definitions x.pattern) in
    let split = append_is_nil (over ++ cuts) (length_faults s (sofar + section_count s x) xs) e in
    (plays_nothing_lem s x (append_is_nil over cuts split.0).1, silent_all s (sofar + section_count s x) xs split.1)
