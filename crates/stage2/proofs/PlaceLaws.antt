-- The lines out of place, found from line to line by the part of the section, are those that songcode finds by the lines before each.
use mathlib.Core.Path.{◌≡◌, refl, ap, ◌∙◌}
use mathlib.Core.List.{List, [], ◌∷◌, ◌++◌}
use mathlib.Core.Bool.{not}
use Rattle.songcode.specs.Answer.Lines.{Line}
use Rattle.songcode.specs.Complaints.{complain_if}
use Rattle.songcode.specs.Answer.Sections.{Kind, key_line, modifier_line, pattern_line, kind_of_line, misplaced, order}
use Rattle.songcode.proofs.StandLaws as songcode
use Rattle.songcode.proofs.StandLaws.{stands_first, stands_key, stands_modifier, stands_pattern}
use Rattle.stage2.specs.declared.states.Part.{Part}
use Rattle.stage2.specs.declared.states.Part.TheVariants.{Keys, Early, Pattern, Behind}
use Rattle.stage2.specs.Places.{past_keys, before_pattern, past_pattern, part_after, misplaced_at, order_at}

-- The lines before one, and its part.
abbrev StandsIn : Part → List Line → Type 0
StandsIn p before = songcode.Stands before (past_keys p) (not (before_pattern p)) (past_pattern p)

next_in : {before : List Line} (l : Line) (k : Kind) (p : Part) → kind_of_line l ≡ k → StandsIn p before → StandsIn (part_after k p) (before ++ (l ∷ []))
unfolding part_after
next_in l key_line Keys e s = stands_key l s e
next_in l key_line Early e s = stands_key l s e
next_in l key_line Pattern e s = stands_key l s e
next_in l key_line Behind e s = stands_key l s e
next_in l modifier_line Keys e s = stands_modifier l s e
next_in l modifier_line Early e s = stands_modifier l s e
next_in l modifier_line Pattern e s = stands_modifier l s e
next_in l modifier_line Behind e s = stands_modifier l s e
next_in l pattern_line Keys e s = stands_pattern l s e
next_in l pattern_line Early e s = stands_pattern l s e
next_in l pattern_line Pattern e s = stands_pattern l s e
next_in l pattern_line Behind e s = stands_pattern l s e

not_begun : (p : Part) → not (not (before_pattern p)) ≡ before_pattern p
not_begun Keys = refl
not_begun Early = refl
not_begun Pattern = refl
not_begun Behind = refl

misplaced_in : {before : List Line} (l : Line) (k : Kind) (p : Part) → StandsIn p before → misplaced k before l ≡ misplaced_at k p l
unfolding misplaced misplaced_at
misplaced_in l key_line p s = ap (λ b. complain_if b 4 l.number) s.behind_others
misplaced_in l modifier_line p s = ap (λ b. complain_if b 8 l.number) (ap not s.behind_pattern ∙ not_begun p)
misplaced_in l pattern_line p s = ap (λ b. complain_if b 8 l.number) s.past_it

order_in : {before : List Line} (ls : List Line) (p : Part) → StandsIn p before → order before ls ≡ order_at p ls
unfolding order order_at
order_in [] p s = refl
order_in (l ∷ ls) p s =
    rw (misplaced_in l (kind_of_line l) p s, order_in ls (part_after (kind_of_line l) p) (next_in l (kind_of_line l) p refl s))

pub order_at_lem : (ls : List Line) → order [] ls ≡ order_at Keys ls
order_at_lem ls = order_in ls Keys stands_first
