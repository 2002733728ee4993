-- Pattern text read: one pass from the left over its tokens.
use Rattle.std.specs.Prelude.{ℕ, zero, suc, max, List, [], ◌∷◌, ◌++◌, Bool, true, false, ◌||◌, ◌&&◌, leb}
use Prim.Native.Char.{code}
use Rattle.std.proofs.Math.Option.{Option, none, some, bind}
use Rattle.songcode.specs.Lists.{provided◌then◌else◌, any}
use Rattle.songcode.specs.Bytes.{Byte, is_byte}
use Rattle.songcode.specs.Answer.Chords.{Reading, chord_in}
use Rattle.songcode.specs.Answer.Lines.{Line}
use Rattle.songcode.specs.Song.{Sound, Sounds, only, also, nothing, a_line_end, Separator, by_semicolon, by_line_end, by_colon, Item, measure, loop}
use Rattle.songcode.specs.Song.{refer, Items, one, next, Pattern, items, named}
use Rattle.songcode.specs.Answer.Tokens.{Token, sound, remover, reference, semicolon, colon, line_end, opens, closes, wrong, tokens_as, tokens_of_as}

-- A row that has begun: nothing yet, or items and the separator behind them.
pub data Begun : Type 0 where
  start : Begun
  more : Items → Separator → Begun

-- Where the reading stands: an item is to come; an item is there; a line end stands behind it. The rows around this one stand innermost first.
pub data State : Type 0 where
  wants : Begun → List Begun → State
  has : Begun → List Begun → Item → State
  ended : Begun → List Begun → Item → State
  bad : State

unfoldable pub add : Begun → Item → Items
add start i = one i
add (more r s) i = next r s i

-- "Line ends beside a `:` count with it as one. No separator stands first or last."
unfoldable pub line_behind : Begun → List Begun → State
line_behind start os = bad
line_behind (more r by_semicolon) os = bad
line_behind (more r by_line_end) os = bad
line_behind (more r (by_colon b nothing)) os = wants (more r (by_colon b a_line_end)) os
line_behind (more r (by_colon b a_line_end)) os = bad

-- Where an item is to come.
unfoldable pub begin : Begun → List Begun → Token → State
unfolding line_behind
begin r os (sound s) = has r os (measure (record { sounds = only s; removers = 0 }))
begin r os (reference n) = has r os (refer n)
begin r os opens = wants start (r ∷ os)
begin r os line_end = line_behind r os
begin r os remover = bad
begin r os semicolon = bad
begin r os colon = bad
begin r os (closes n) = bad
begin r os wrong = bad

-- "A measure is one or more positions"; "Removers stand only at the end".
unfoldable pub grown : Begun → List Begun → Sounds → ℕ → Sound → State
grown r os ss zero s = has r os (measure (record { sounds = also ss s; removers = 0 }))
grown r os ss (suc n) s = bad

unfoldable pub with_sound : Begun → List Begun → Item → Sound → State
unfolding grown
with_sound r os (measure m) s = grown r os m.sounds m.removers s
with_sound r os (loop q n) s = bad
with_sound r os (refer n) s = bad

unfoldable pub with_remover : Begun → List Begun → Item → State
with_remover r os (measure m) = has r os (measure (record { sounds = m.sounds; removers = suc m.removers }))
with_remover r os (loop q n) = bad
with_remover r os (refer n) = bad

unfoldable pub close_loop : Items → List Begun → ℕ → State
close_loop q [] n = bad
close_loop q (r ∷ os) n = has r os (loop q n)

unfoldable pub step : State → Token → State
unfolding add begin with_sound with_remover close_loop
step (wants r os) t = begin r os t
step (has r os i) (sound s) = with_sound r os i s
step (has r os i) remover = with_remover r os i
step (has r os i) (reference n) = bad
step (has r os i) semicolon = wants (more (add r i) by_semicolon) os
step (has r os i) colon = wants (more (add r i) (by_colon nothing nothing)) os
step (has r os i) line_end = ended r os i
step (has r os i) opens = bad
step (has r os i) (closes n) = close_loop (add r i) os n
step (has r os i) wrong = bad
step (ended r os i) (sound s) = begin (more (add r i) by_line_end) os (sound s)
step (ended r os i) (reference n) = begin (more (add r i) by_line_end) os (reference n)
step (ended r os i) opens = begin (more (add r i) by_line_end) os opens
step (ended r os i) colon = wants (more (add r i) (by_colon a_line_end nothing)) os
step (ended r os i) remover = bad
step (ended r os i) semicolon = bad
step (ended r os i) line_end = bad
step (ended r os i) (closes n) = bad
step (ended r os i) wrong = bad
step bad t = bad

unfoldable pub run : State → List Token → State
unfolding step
run s [] = s
run s (t ∷ ts) = run (step s t) ts

unfoldable pub done : State → Option Items
unfolding add
done (wants r os) = none
done (has r [] i) = some (add r i)
done (has r (o ∷ os) i) = none
done (ended r os i) = none
done bad = none

-- The items of a text, loops in loops and references among them.
unfoldable pub items_in : List Token → Option Items
unfolding run done
items_in ts = done (run (wants start []) ts)

-- How deep loops stand in loops.
unfoldable mutual
  pub depth_i : Item → ℕ
  depth_i (measure m) = 0
  depth_i (loop r n) = suc (depth r)
  depth_i (refer n) = 0

  pub depth : Items → ℕ
  depth (one i) = depth_i i
  depth (next r s i) = max (depth r) (depth_i i)

-- "No loop in a loop."
unfoldable pub loops_deep : ℕ
loops_deep = 1

-- The references of a text, in order.
unfoldable mutual
  pub references_i : Item → List ℕ
  references_i (measure m) = []
  references_i (loop r n) = references r
  references_i (refer n) = n ∷ []

  pub references : Items → List ℕ
  references (one i) = references_i i
  references (next r s i) = references r ++ references_i i

unfoldable pub no_reference : Items → Bool
unfolding references
no_reference r = elim (references r) [ [] ↦ true | n ∷ ns ↦ false ]

unfoldable pub kept : (Items → Bool) → Items → Option Items
unfolding provided◌then◌else◌ depth loops_deep
kept test r = provided leb (depth r) loops_deep && test r then some r else none

-- A definition's text, of one line or more.
unfoldable pub definition_text_as : Reading → Line → List Line → Option Items
unfolding items_in tokens_of_as kept bind
definition_text_as read l ls = bind (items_in (tokens_of_as read l ls)) (kept (λ r. true))

-- "A section's pattern may instead be `$n` as its whole text"; in any other a `$n` does not stand.
unfoldable pub whole_reference : List Token → Option ℕ
whole_reference [] = none
whole_reference (reference n ∷ []) = some n
whole_reference (reference n ∷ t ∷ ts) = none
whole_reference (sound s ∷ ts) = none
whole_reference (remover ∷ ts) = none
whole_reference (semicolon ∷ ts) = none
whole_reference (colon ∷ ts) = none
whole_reference (line_end ∷ ts) = none
whole_reference (opens ∷ ts) = none
whole_reference (closes n ∷ ts) = none
whole_reference (wrong ∷ ts) = none

unfoldable pub pattern_by : Option ℕ → List Token → Option Pattern
unfolding items_in kept bind no_reference
pattern_by none ts = bind (bind (items_in ts) (kept no_reference)) (λ r. some (items r))
pattern_by (some n) ts = some (named n)

unfoldable pub section_text_as : Reading → Line → List Line → Option Pattern
unfolding pattern_by whole_reference tokens_of_as
section_text_as read l ls = pattern_by (whole_reference (tokens_of_as read l ls)) (tokens_of_as read l ls)

-- "p after `_before` or `_after` is one line, not empty, without `:` and `$`."
unfoldable pub barred : Byte → Bool
unfolding is_byte
barred b = is_byte (code ":") b || is_byte (code "$") b

unfoldable pub side_text_as : Reading → List Byte → Option Items
unfolding provided◌then◌else◌ any barred items_in tokens_as kept bind no_reference
side_text_as read bs = provided any barred bs then none else bind (items_in (tokens_as read bs)) (kept no_reference)

-- The same with chords as they are read today.
unfoldable abbrev pub definition_text : Line → List Line → Option Items
unfolding definition_text_as chord_in
definition_text = definition_text_as chord_in

unfoldable abbrev pub section_text : Line → List Line → Option Pattern
unfolding section_text_as chord_in
section_text = section_text_as chord_in

unfoldable abbrev pub side_text : List Byte → Option Items
unfolding side_text_as chord_in
side_text = side_text_as chord_in
