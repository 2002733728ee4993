-- What the check keeps of a reading of pattern text.
use Rattle.std.specs.Prelude.{ℕ, zero, suc, ◌+◌, max, List, [], ◌∷◌, ◌++◌, not, leb, length}
use Rattle.songcode.specs.Lists.{provided◌then◌else◌, is_empty}
use Rattle.songcode.specs.Song.{nothing, a_line_end, by_semicolon, by_line_end, by_colon, Item, measure, loop, refer}
use Rattle.songcode.specs.Answer.PatternText.{Begun, start, more, State, wants, has, ended, bad, depth_i, depth, loops_deep, references_i, references}
use Rattle.grammar.specs.declared.checks.Place.{Place}
use Rattle.grammar.specs.declared.checks.Place.TheVariants.{Fresh, Wants, Joins, Sounds, Removed, Alone, Full, Ended}
use Rattle.grammar.specs.declared.checks.Check.{Check}
use Rattle.grammar.specs.Checks.{check, spoiled}

-- Where an item is to come, by the row and the rows around it.
unfoldable pub place_before : Begun → List Begun → Place
place_before start [] = Fresh
place_before start (o ∷ os) = Wants
place_before (more r by_semicolon) os = Wants
place_before (more r by_line_end) os = Wants
place_before (more r (by_colon b nothing)) os = Joins
place_before (more r (by_colon b a_line_end)) os = Wants

unfoldable pub place_in_measure : ℕ → Place
place_in_measure zero = Sounds
place_in_measure (suc n) = Removed

-- Where an item is there.
unfoldable pub place_behind : Begun → List Begun → Item → Place
unfolding place_in_measure
place_behind r os (measure m) = place_in_measure m.removers
place_behind r os (loop q n) = Full
place_behind start [] (refer n) = Alone
place_behind start (o ∷ os) (refer n) = Full
place_behind (more q s) os (refer n) = Full

-- How deep loops stand in loops, in a row and in the rows around it, innermost first: each stands in as many loops as there are rows around it.
unfoldable pub depth_begun : Begun → ℕ
unfolding depth
depth_begun start = 0
depth_begun (more r s) = depth r

unfoldable pub depth_rows : List Begun → ℕ
unfolding depth_begun
depth_rows [] = 0
depth_rows (r ∷ os) = max (length os + depth_begun r) (depth_rows os)

-- The references in them.
unfoldable pub references_begun : Begun → List ℕ
unfolding references
references_begun start = []
references_begun (more r s) = references r

unfoldable pub references_rows : List Begun → List ℕ
unfolding references_begun
references_rows [] = []
references_rows (r ∷ os) = references_rows os ++ references_begun r

-- A check, if loops do not stand too deep in loops.
unfoldable pub within : ℕ → Check → Check
unfolding provided◌then◌else◌
within d c = provided leb d loops_deep then c else spoiled

-- What the check is at a place in rows, in front of an item or with one.
unfoldable pub check_rows : Place → Begun → List Begun → Check
unfolding within depth_rows references_rows is_empty
check_rows p r os = within (depth_rows (r ∷ os)) (check p (length os) (not (is_empty (references_rows (r ∷ os)))))

unfoldable pub check_item : Place → Begun → List Begun → Item → Check
unfolding within depth_rows references_rows is_empty depth_i references_i
check_item p r os i =
    within (max (depth_rows (r ∷ os)) (length os + depth_i i)) (check p (length os) (not (is_empty (references_rows (r ∷ os) ++ references_i i))))

unfoldable pub check_of : State → Check
unfolding check_rows check_item place_before place_behind
check_of (wants r os) = check_rows (place_before r os) r os
check_of (has r os i) = check_item (place_behind r os i) r os i
check_of (ended r os i) = check_item Ended r os i
check_of bad = spoiled
