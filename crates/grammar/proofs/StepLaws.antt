-- The check follows the reading: the check of the state behind a token is the step of the check before it.
use Prim.Native.Nat.{ℕ, zero, suc}
use mathlib.Core.Path.{◌≡◌, refl, ap, ◌∙◌}
use mathlib.Core.List.{List, [], ◌∷◌}
use mathlib.Core.Bool.{Bool}
use Rattle.songcode.specs.Song as song
use Rattle.songcode.specs.Song.{nothing, a_line_end, Separator, by_semicolon, by_line_end, by_colon, Item, measure, loop, refer}
use Rattle.songcode.specs.Answer.Tokens.{Token, sound, remover, reference, semicolon, colon, line_end, opens, closes, wrong}
use Rattle.songcode.specs.Answer.PatternText.{depth_i, references_i, Begun, start, more, State, wants, has, ended, bad, add, line_behind, begin, grown}
use Rattle.songcode.specs.Answer.PatternText.{with_sound, with_remover, close_loop, step, run}
use Rattle.grammar.specs.declared.kinds.Kind.{Kind}
use Rattle.grammar.specs.declared.kinds.Kind.TheVariants.{Sound, Remover, Reference, Semicolon, Colon, LineEnd, Opens, Closes, Wrong}
use Rattle.grammar.specs.declared.checks.Place.{Place}
use Rattle.grammar.specs.declared.checks.Place.TheVariants.{Fresh, Wants, Joins, Sounds, Removed, Alone, Full, Ended}
use Rattle.grammar.specs.declared.checks.Check.{Check}
use Rattle.grammar.specs.Kinds.{kind_of, kinds_of}
use Rattle.grammar.specs.Checks.{check, spoiled, opened, closed, check_step, check_run}
use Rattle.grammar.specs.States.{place_before, place_behind, place_in_measure, check_rows, check_item, check_of}
use Rattle.grammar.proofs.RowLaws.{step_within, spoiled_within, alike_within, separated, with_measure, with_reference, row_opened, row_closed}
use Rattle.grammar.proofs.RowLaws.{none_closed}
use Rattle.grammar.proofs.ArmLaws.{stays_spoiled}

-- What holds of the places before an item, and of those behind one.
pub before : (P : Place → Type 0) (r : Begun) (os : List Begun) → P Fresh → P Wants → P Joins → P (place_before r os)
unfolding place_before
before P start [] f w j = f
before P start (o ∷ os) f w j = w
before P (more r by_semicolon) os f w j = w
before P (more r by_line_end) os f w j = w
before P (more r (by_colon b nothing)) os f w j = j
before P (more r (by_colon b a_line_end)) os f w j = w

in_measure : (P : Place → Type 0) (n : ℕ) → P Sounds → P Removed → P (place_in_measure n)
unfolding place_in_measure
in_measure P zero s r = s
in_measure P (suc n) s r = r

pub behind : (P : Place → Type 0) (r : Begun) (os : List Begun) (i : Item) → P Sounds → P Removed → P Alone → P Full → P (place_behind r os i)
unfolding place_behind
behind P r os (measure m) s d a f = in_measure P m.removers s d
behind P r os (loop q n) s d a f = f
behind P start [] (refer n) s d a f = a
behind P start (o ∷ os) (refer n) s d a f = f
behind P (more q b) os (refer n) s d a f = f

behind_reference : (P : Place → Type 0) (r : Begun) (os : List Begun) (n : ℕ) → P Alone → P Full → P (place_behind r os (refer n))
unfolding place_behind
behind_reference P start [] n a f = a
behind_reference P start (o ∷ os) n a f = f
behind_reference P (more q b) os n a f = f

-- A kind of token leads from a place to another; it is against the rules there.
abbrev Leads : Kind → Place → Place → Type 0
Leads k q p = (n : ℕ) (b : Bool) → check q n b ≡ check_step (check p n b) k

abbrev Ruins : Kind → Place → Type 0
Ruins k p = (n : ℕ) (b : Bool) → spoiled ≡ check_step (check p n b) k

abbrev Opening : Place → Type 0
Opening p = (n : ℕ) (b : Bool) → opened (check p n b) ≡ check_step (check p n b) Opens

abbrev Closing : Place → Type 0
Closing p = (n : ℕ) (b : Bool) → closed (check p n b) ≡ check_step (check p n b) Closes

module _ (k : Kind) (r : Begun) (os : List Begun) where
  rows_lead : (q p : Place) → Leads k q p → check_rows q r os ≡ check_step (check_rows p r os) k
  unfolding check_rows
  rows_lead q p h = step_within _ _ k _ (h _ _)

  rows_ruin : (p : Place) → Ruins k p → spoiled ≡ check_step (check_rows p r os) k
  unfolding check_rows
  rows_ruin p h = spoiled_within _ _ k (h _ _)

  item_leads : (i : Item) (q p : Place) → Leads k q p → check_item q r os i ≡ check_step (check_item p r os i) k
  unfolding check_item
  item_leads i q p h = step_within _ _ k _ (h _ _)

  item_ruins : (i : Item) (p : Place) → Ruins k p → spoiled ≡ check_step (check_item p r os i) k
  unfolding check_item
  item_ruins i p h = spoiled_within _ _ k (h _ _)

-- Where an item is to come.
ruined_before : (k : Kind) (r : Begun) (os : List Begun) → Ruins k Fresh → Ruins k Wants → Ruins k Joins
    → spoiled ≡ check_step (check_rows (place_before r os) r os) k
ruined_before k r os f w j = rows_ruin k r os (place_before r os) (before (Ruins k) r os f w j)

line_before : (r : Begun) (os : List Begun) → check_of (line_behind r os) ≡ check_step (check_rows (place_before r os) r os) LineEnd
unfolding line_behind check_of place_before check_step
line_before start [] = rows_ruin LineEnd start [] Fresh (λ n b. refl)
line_before start (o ∷ os) = rows_ruin LineEnd start (o ∷ os) Wants (λ n b. refl)
line_before (more r by_semicolon) os = rows_ruin LineEnd (more r by_semicolon) os Wants (λ n b. refl)
line_before (more r by_line_end) os = rows_ruin LineEnd (more r by_line_end) os Wants (λ n b. refl)
line_before (more r (by_colon b nothing)) os = rows_lead LineEnd (more r (by_colon b nothing)) os Wants Joins (λ n c. refl)
line_before (more r (by_colon b a_line_end)) os = rows_ruin LineEnd (more r (by_colon b a_line_end)) os Wants (λ n c. refl)

reference_before : (r : Begun) (os : List Begun) (n : ℕ) → check_item (place_behind r os (refer n)) r os (refer n) ≡ check_step
    (check_rows (place_before r os) r os) Reference
unfolding place_behind place_before check_step check_rows
reference_before start [] n = with_reference Alone start [] n ∙ step_within _ _ Reference _ refl
reference_before start (o ∷ os) n = with_reference Full start (o ∷ os) n ∙ step_within _ _ Reference _ refl
reference_before (more r by_semicolon) os n = with_reference Full (more r by_semicolon) os n ∙ step_within _ _ Reference _ refl
reference_before (more r by_line_end) os n = with_reference Full (more r by_line_end) os n ∙ step_within _ _ Reference _ refl
reference_before (more r (by_colon b nothing)) os n = with_reference Full (more r (by_colon b nothing)) os n ∙ step_within _ _ Reference _ refl
reference_before (more r (by_colon b a_line_end)) os n = with_reference Full (more r (by_colon b a_line_end)) os n ∙ step_within _ _ Reference _ refl

begin_step : (r : Begun) (os : List Begun) (t : Token) → check_of (begin r os t) ≡ check_step (check_of (wants r os)) (kind_of t)
unfolding begin check_of kind_of check_step place_behind place_in_measure
begin_step r os (sound s) = with_measure Sounds r os (record { sounds = song.only s; removers = 0 })
    ∙ rows_lead Sound r os Sounds (place_before r os) (before (Leads Sound Sounds) r os (λ n b. refl) (λ n b. refl) (λ n b. refl))
begin_step r os (reference n) = reference_before r os n
begin_step r os opens = row_opened (place_before r os) r os (before Opening r os (λ n b. refl) (λ n b. refl) (λ n b. refl))
begin_step r os line_end = line_before r os
begin_step r os remover = ruined_before Remover r os (λ n b. refl) (λ n b. refl) (λ n b. refl)
begin_step r os semicolon = ruined_before Semicolon r os (λ n b. refl) (λ n b. refl) (λ n b. refl)
begin_step r os colon = ruined_before Colon r os (λ n b. refl) (λ n b. refl) (λ n b. refl)
begin_step r os (closes n) = ruined_before Closes r os (λ n b. refl) (λ n b. refl) (λ n b. refl)
begin_step r os wrong = ruined_before Wrong r os (λ n b. refl) (λ n b. refl) (λ n b. refl)

-- Where an item is there: a sound and a remover go on with a measure alone.
sound_in_measure : (r : Begun) (os : List Begun) (ss : song.Sounds) (n : ℕ) (s : song.Sound)
    → check_of (grown r os ss n s) ≡ check_step (check_item (place_in_measure n) r os (measure (record { sounds = ss; removers = n }))) Sound
unfolding grown check_of place_behind place_in_measure check_item depth_i references_i check_step
sound_in_measure r os ss zero s = item_leads Sound r os (measure (record { sounds = ss; removers = 0 })) Sounds Sounds (λ n b. refl)
sound_in_measure r os ss (suc n) s = item_ruins Sound r os (measure (record { sounds = ss; removers = suc n })) Removed (λ n b. refl)

sound_behind : (r : Begun) (os : List Begun) (i : Item) (s : song.Sound)
    → check_of (with_sound r os i s) ≡ check_step (check_item (place_behind r os i) r os i) Sound
unfolding with_sound place_behind check_of check_step
sound_behind r os (measure m) s = sound_in_measure r os m.sounds m.removers s
sound_behind r os (loop q n) s = item_ruins Sound r os (loop q n) Full (λ n b. refl)
sound_behind r os (refer n) s = item_ruins Sound r os (refer n) _ (behind_reference (Ruins Sound) r os n (λ n b. refl) (λ n b. refl))

remover_behind : (r : Begun) (os : List Begun) (i : Item) → check_of (with_remover r os i) ≡ check_step (check_item (place_behind r os i) r os i) Remover
unfolding with_remover place_behind place_in_measure check_of check_item depth_i references_i check_step
remover_behind r os (measure m) = item_leads Remover r os (measure m) Removed (place_in_measure m.removers)
    (in_measure (Leads Remover Removed) m.removers (λ n b. refl) (λ n b. refl))
remover_behind r os (loop q n) = item_ruins Remover r os (loop q n) Full (λ n b. refl)
remover_behind r os (refer n) = item_ruins Remover r os (refer n) _ (behind_reference (Ruins Remover) r os n (λ n b. refl) (λ n b. refl))

closed_behind : (r : Begun) (os : List Begun) (i : Item) (n : ℕ)
    → check_of (close_loop (add r i) os n) ≡ check_step (check_item (place_behind r os i) r os i) Closes
unfolding close_loop check_of check_step place_behind
closed_behind r [] i n = none_closed _ r i (behind Closing r [] i (λ n b. refl) (λ n b. refl) (λ n b. refl) (λ n b. refl))
closed_behind r (o ∷ os) i n = row_closed _ r i (behind Closing r (o ∷ os) i (λ n b. refl) (λ n b. refl) (λ n b. refl) (λ n b. refl)) o os n

-- A separator; what may not stand behind an item.
separated_behind : (k : Kind) (q : Place) (s : Separator) (r : Begun) (os : List Begun) (i : Item) → Leads k q Sounds → Leads k q Removed
    → Leads k q Alone → Leads k q Full → check_rows q (more (add r i) s) os ≡ check_step (check_item (place_behind r os i) r os i) k
separated_behind k q s r os i a b c d = separated q r os i s ∙ item_leads k r os i q (place_behind r os i) (behind (Leads k q) r os i a b c d)

ruined_behind : (k : Kind) (r : Begun) (os : List Begun) (i : Item) → Ruins k Sounds → Ruins k Removed → Ruins k Alone → Ruins k Full
    → spoiled ≡ check_step (check_item (place_behind r os i) r os i) k
ruined_behind k r os i a b c d = item_ruins k r os i (place_behind r os i) (behind (Ruins k) r os i a b c d)

has_step : (r : Begun) (os : List Begun) (i : Item) (t : Token) → check_of (step (has r os i) t) ≡ check_step (check_of (has r os i)) (kind_of t)
unfolding step check_of kind_of check_step place_before
has_step r os i (sound s) = sound_behind r os i s
has_step r os i remover = remover_behind r os i
has_step r os i semicolon = separated_behind Semicolon Wants by_semicolon r os i (λ n b. refl) (λ n b. refl) (λ n b. refl) (λ n b. refl)
has_step r os i colon = separated_behind Colon Joins (by_colon nothing nothing) r os i (λ n b. refl) (λ n b. refl) (λ n b. refl) (λ n b. refl)
has_step r os i line_end = item_leads LineEnd r os i Ended (place_behind r os i)
    (behind (Leads LineEnd Ended) r os i (λ n b. refl) (λ n b. refl) (λ n b. refl) (λ n b. refl))
has_step r os i (closes n) = closed_behind r os i n
has_step r os i (reference n) = ruined_behind Reference r os i (λ n b. refl) (λ n b. refl) (λ n b. refl) (λ n b. refl)
has_step r os i opens = ruined_behind Opens r os i (λ n b. refl) (λ n b. refl) (λ n b. refl) (λ n b. refl)
has_step r os i wrong = ruined_behind Wrong r os i (λ n b. refl) (λ n b. refl) (λ n b. refl) (λ n b. refl)

-- Where a line end stands behind an item: where the next one begins, the row has it already.
begun_behind : (r : Begun) (os : List Begun) (i : Item) (t : Token) →
    ((n : ℕ) (b : Bool) → check_step (check Wants n b) (kind_of t) ≡ check_step (check Ended n b) (kind_of t))
    → check_of (begin (more (add r i) by_line_end) os t) ≡ check_step (check_item Ended r os i) (kind_of t)
unfolding check_of place_before check_item
begun_behind r os i t h =
    begin_step (more (add r i) by_line_end) os t ∙ (ap (λ (c : Check). check_step c (kind_of t)) (separated Wants r os i by_line_end)
    ∙ alike_within _ _ _ (kind_of t) (h _ _))

ended_step : (r : Begun) (os : List Begun) (i : Item) (t : Token) → check_of (step (ended r os i) t) ≡ check_step (check_of (ended r os i)) (kind_of t)
unfolding step check_of kind_of check_step place_before
ended_step r os i (sound s) = begun_behind r os i (sound s) (λ n b. refl)
ended_step r os i (reference m) = begun_behind r os i (reference m) (λ n b. refl)
ended_step r os i opens = begun_behind r os i opens (λ n b. refl)
ended_step r os i colon = separated Joins r os i (by_colon a_line_end nothing) ∙ item_leads Colon r os i Joins Ended (λ n b. refl)
ended_step r os i remover = item_ruins Remover r os i Ended (λ n b. refl)
ended_step r os i semicolon = item_ruins Semicolon r os i Ended (λ n b. refl)
ended_step r os i line_end = item_ruins LineEnd r os i Ended (λ n b. refl)
ended_step r os i (closes m) = item_ruins Closes r os i Ended (λ n b. refl)
ended_step r os i wrong = item_ruins Wrong r os i Ended (λ n b. refl)

pub check_step_lem : (s : State) (t : Token) → check_of (step s t) ≡ check_step (check_of s) (kind_of t)
unfolding step check_of check_step
check_step_lem (wants r os) t = begin_step r os t
check_step_lem (has r os i) t = has_step r os i t
check_step_lem (ended r os i) t = ended_step r os i t
check_step_lem bad t = stays_spoiled (kind_of t)

pub check_run_lem : (s : State) (ts : List Token) → check_of (run s ts) ≡ check_run (check_of s) (kinds_of ts)
unfolding run check_run kinds_of
check_run_lem s [] = refl
check_run_lem s (t ∷ ts) = check_run_lem (step s t) ts ∙ ap (λ (c : Check). check_run c (kinds_of ts)) (check_step_lem s t)
