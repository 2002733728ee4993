-- Beginnings of right texts: where the check is not against the rules some tokens end the text rightly, and where it is none do.
use Prim.Native.Nat.{ℕ, zero, suc, ◌-◌}
use mathlib.Core.Path.{◌≡◌, refl, sym, ap, subst, ◌∙◌}
use mathlib.Core.List.{List, [], ◌∷◌, ◌++◌}
use mathlib.Core.Bool.{Bool, true, false, ◌||◌}
use native.Mathlib.Omega.{arith}
use borrow.Author.Tests.{ne_eqb}
use lib.Dec.{eqb, leb}
use Rattle.songcode.specs.Lists.{provided◌then◌else◌, any}
use Rattle.songcode.specs.Song.{silence}
use Rattle.songcode.specs.Answer.Tokens.{Token, sound, closes}
use Rattle.songcode.specs.Answer.PatternText.{loops_deep}
use Rattle.songcode.proofs.ListLaws.{by_cases, true_is_not_false, any_append}
use Rattle.grammar.specs.declared.kinds.Kind.{Kind}
use Rattle.grammar.specs.declared.kinds.Kind.TheVariants.{Closes}
use Rattle.grammar.specs.declared.checks.Place.{Place}
use Rattle.grammar.specs.declared.checks.Place.TheVariants.{Fresh, Wants, Joins, Sounds, Removed, Alone, Full, Ended, Bad}
use Rattle.grammar.specs.declared.checks.Check.{Check}
use Rattle.grammar.specs.Kinds.{kind_of, kinds_of}
use Rattle.grammar.specs.Places.{next_place}
use Rattle.grammar.specs.Checks.{check, first, opened, closed, is_bad, arrived, check_step, check_run}
use Rattle.grammar.specs.Verdicts.{is_behind, is_alone, definition_fine, unnamed_fine, section_fine}
use Rattle.grammar.proofs.ArmLaws.{of_kind}
use Rattle.grammar.proofs.TextLaws.{kinds_append, run_append}
use Rattle.grammar.proofs.VerdictLaws.{and_false}
use Rattle.grammar.proofs.LateLaws.{is_late, late_opened, late_closed, late_is_not_alone}

-- The check behind more tokens is theirs, from the check before them.
pub run_on : (ts more : List Token) → check_run first (kinds_of (ts ++ more)) ≡ check_run (check_run first (kinds_of ts)) (kinds_of more)
run_on ts more = ap (check_run first) (kinds_append ts more) ∙ run_append first (kinds_of ts) (kinds_of more)

-- What ends a text: a position where an item is to come, and the end of every loop.
unfoldable loop_ends : ℕ → List Token
loop_ends zero = []
loop_ends (suc n) = closes 2 ∷ loop_ends n

unfoldable item_for : Place → List Token
item_for Fresh = sound silence ∷ []
item_for Wants = sound silence ∷ []
item_for Joins = sound silence ∷ []
item_for Ended = sound silence ∷ []
item_for Sounds = []
item_for Removed = []
item_for Alone = []
item_for Full = []
item_for Bad = []

unfoldable pub ending_tokens : Check → List Token
unfolding item_for loop_ends
ending_tokens c = item_for c.place ++ loop_ends c.loops

-- It has no other tokens.
pub ending_plain : (p : Token → Bool) (c : Check) → p (sound silence) ≡ false → ((n : ℕ) → p (closes n) ≡ false) → any p (ending_tokens c) ≡ false
unfolding ending_tokens item_for loop_ends any
ending_plain p c s k = any_append p (item_for c.place) (loop_ends c.loops) ∙ rw (item c.place, ends c.loops) refl
  where
    item : (q : Place) → any p (item_for q) ≡ false
    item Fresh = rw s refl
    item Wants = rw s refl
    item Joins = rw s refl
    item Ended = rw s refl
    item Sounds = refl
    item Removed = refl
    item Alone = refl
    item Full = refl
    item Bad = refl

    ends : (n : ℕ) → any p (loop_ends n) ≡ false
    ends zero = refl
    ends (suc n) = rw (k 2) (ends n)

-- Behind it an item stands last, no loop is open, and no `$n` is new.
abbrev Ends : Bool → Check → Type 0
Ends b c = (definition_fine c ≡ true) × (c.named ≡ b)

closes_one : (p : Place) (n : ℕ) (b : Bool) → is_behind p ≡ true → check_step (check p (suc n) b) Closes ≡ check Full n b
unfolding check_step arrived closed provided◌then◌else◌
closes_one Sounds n b h = let e : suc n - 1 ≡ n = omega arith in rw (ne_eqb (suc n) 0 (λ z. omega arith), e) refl
closes_one Removed n b h = let e : suc n - 1 ≡ n = omega arith in rw (ne_eqb (suc n) 0 (λ z. omega arith), e) refl
closes_one Alone n b h = let e : suc n - 1 ≡ n = omega arith in rw (ne_eqb (suc n) 0 (λ z. omega arith), e) refl
closes_one Full n b h = let e : suc n - 1 ≡ n = omega arith in rw (ne_eqb (suc n) 0 (λ z. omega arith), e) refl
closes_one Fresh n b h = true_is_not_false h refl
closes_one Wants n b h = true_is_not_false h refl
closes_one Joins n b h = true_is_not_false h refl
closes_one Ended n b h = true_is_not_false h refl
closes_one Bad n b h = true_is_not_false h refl

closes_all : (n : ℕ) (p : Place) (b : Bool) → is_behind p ≡ true → Ends b (check_run (check p n b) (kinds_of (loop_ends n)))
unfolding check_run kinds_of kind_of loop_ends definition_fine
closes_all zero p b h = (rw h refl, refl)
closes_all (suc n) p b h = subst (λ (d : Check). Ends b (check_run d (kinds_of (loop_ends n)))) (sym (closes_one p n b h)) (closes_all n Full b refl)

pub ended_rightly : (c : Check) → is_bad c.place ≡ false → Ends c.named (check_run c (kinds_of (ending_tokens c)))
unfolding ending_tokens item_for check_run kinds_of kind_of check_step arrived provided◌then◌else◌
ended_rightly c h = go c.place c.loops c.named h
  where
    go : (p : Place) (n : ℕ) (b : Bool) → is_bad p ≡ false → Ends b (check_run (check p n b) (kinds_of (ending_tokens (check p n b))))
    go Fresh n b h = closes_all n Sounds b refl
    go Wants n b h = closes_all n Sounds b refl
    go Joins n b h = closes_all n Sounds b refl
    go Ended n b h = closes_all n Sounds b refl
    go Sounds n b h = closes_all n Sounds b refl
    go Removed n b h = closes_all n Removed b refl
    go Alone n b h = closes_all n Alone b refl
    go Full n b h = closes_all n Full b refl
    go Bad n b h = true_is_not_false refl h

-- A text against the rules stays so; one with a `$n` keeps it.
unfoldable pub is_ruined : Check → Bool
is_ruined c = is_bad c.place || c.named

bad_step : (c : Check) (k : Kind) → is_bad c.place ≡ true → is_bad (check_step c k).place ≡ true
unfolding check_step provided◌then◌else◌
bad_step c k h = go c.place c.loops c.named h
  where
    at_bad : (n : ℕ) (b : Bool) (j : Kind) → is_bad (check_step (check Bad n b) j).place ≡ true
    at_bad n b = of_kind (λ j. is_bad (check_step (check Bad n b) j).place ≡ true) refl refl refl refl refl refl refl refl refl

    go : (p : Place) (n : ℕ) (b : Bool) → is_bad p ≡ true → is_bad (check_step (check p n b) k).place ≡ true
    go Bad n b e = at_bad n b k
    go Fresh n b e = true_is_not_false e refl
    go Wants n b e = true_is_not_false e refl
    go Joins n b e = true_is_not_false e refl
    go Sounds n b e = true_is_not_false e refl
    go Removed n b e = true_is_not_false e refl
    go Alone n b e = true_is_not_false e refl
    go Full n b e = true_is_not_false e refl
    go Ended n b e = true_is_not_false e refl

bad_run : (c : Check) (ks : List Kind) → is_bad c.place ≡ true → is_bad (check_run c ks).place ≡ true
unfolding check_run
bad_run c [] h = h
bad_run c (k ∷ ks) h = bad_run (check_step c k) ks (bad_step c k h)

bad_unfinished : (c : Check) → is_bad c.place ≡ true → definition_fine c ≡ false
unfolding definition_fine
bad_unfinished c h = go c.place c.loops c.named h
  where
    go : (p : Place) (n : ℕ) (b : Bool) → is_bad p ≡ true → definition_fine (check p n b) ≡ false
    go Bad n b e = refl
    go Fresh n b e = true_is_not_false e refl
    go Wants n b e = true_is_not_false e refl
    go Joins n b e = true_is_not_false e refl
    go Sounds n b e = true_is_not_false e refl
    go Removed n b e = true_is_not_false e refl
    go Alone n b e = true_is_not_false e refl
    go Full n b e = true_is_not_false e refl
    go Ended n b e = true_is_not_false e refl

pub never_right : (c : Check) (ks : List Kind) → is_bad c.place ≡ true → definition_fine (check_run c ks) ≡ false
never_right c ks h = bad_unfinished (check_run c ks) (bad_run c ks h)

pub or_true : (a : Bool) → (a || true) ≡ true
or_true true = refl
or_true false = refl

named_opened : (c : Check) → c.named ≡ true → is_ruined (opened c) ≡ true
unfolding opened provided◌then◌else◌ is_ruined
named_opened c h = by_cases (leb loops_deep c.loops) (λ t. simp t) (λ t. simp (t, h))

named_closed : (c : Check) → c.named ≡ true → is_ruined (closed c) ≡ true
unfolding closed provided◌then◌else◌ is_ruined
named_closed c h = by_cases (eqb c.loops 0) (λ t. simp t) (λ t. simp (t, h))

named_arrived : (c : Check) (p : Place) → c.named ≡ true → (k : Kind) → is_ruined (arrived c p k) ≡ true
unfolding arrived is_ruined
named_arrived c p h =
    let m : (is_bad p || c.named) ≡ true = rw h (or_true (is_bad p)) in
    of_kind (λ k. is_ruined (arrived c p k) ≡ true) m m (or_true (is_bad p)) m m m (named_opened c h) (named_closed c h) m

named_step : (c : Check) (k : Kind) → c.named ≡ true → is_ruined (check_step c k) ≡ true
unfolding check_step provided◌then◌else◌ is_ruined
named_step c k h = by_cases (is_bad (next_place c.place k)) (λ t. simp t) (λ t. simp t (named_arrived c (next_place c.place k) h k))

ruined_by : (c : Check) {P : Type 0} → is_ruined c ≡ true → (is_bad c.place ≡ true → P) → (c.named ≡ true → P) → P
unfolding is_ruined
ruined_by c h f g = by_cases (is_bad c.place) f (λ t. g (rw t at h))

bad_ruined : (c : Check) → is_bad c.place ≡ true → is_ruined c ≡ true
unfolding is_ruined
bad_ruined c h = rw h refl

ruined_run : (c : Check) (ks : List Kind) → is_ruined c ≡ true → is_ruined (check_run c ks) ≡ true
unfolding check_run
ruined_run c [] h = h
ruined_run c (k ∷ ks) h =
    ruined_run (check_step c k) ks (ruined_by c h (λ t. bad_ruined (check_step c k) (bad_step c k t)) (λ t. named_step c k t))

pub never_unnamed : (c : Check) (ks : List Kind) → is_ruined c ≡ true → unnamed_fine (check_run c ks) ≡ false
unfolding unnamed_fine
never_unnamed c ks h =
    let d = check_run c ks in
    ruined_by d (ruined_run c ks h) (λ t. rw (bad_unfinished d t) refl) (λ t. rw t (and_false (definition_fine d)))

-- Of a section: a `$n` that is not all there is.
pub never_of_section : (c : Check) (ks : List Kind) → is_ruined c ≡ true → is_late c.place ≡ true → section_fine (check_run c ks) ≡ false
unfolding section_fine
never_of_section c ks h l =
    let d = check_run c ks in
    ruined_by d (ruined_run c ks h) (λ t. rw (bad_unfinished d t) refl) (λ t. rw (t, late_is_not_alone c ks l) (and_false (definition_fine d)))

-- Behind a token nothing is fresh: a place there is late, or `Alone`.
abbrev Passed : Place → Type 0
Passed p = (is_late p || is_alone p) ≡ true

passed_place : (p : Place) (k : Kind) → Passed (next_place p k)
unfolding is_late
passed_place Fresh = of_kind (λ k. Passed (next_place Fresh k)) refl refl refl refl refl refl refl refl refl
passed_place Alone = of_kind (λ k. Passed (next_place Alone k)) refl refl refl refl refl refl refl refl refl
passed_place Wants = of_kind (λ k. Passed (next_place Wants k)) refl refl refl refl refl refl refl refl refl
passed_place Joins = of_kind (λ k. Passed (next_place Joins k)) refl refl refl refl refl refl refl refl refl
passed_place Sounds = of_kind (λ k. Passed (next_place Sounds k)) refl refl refl refl refl refl refl refl refl
passed_place Removed = of_kind (λ k. Passed (next_place Removed k)) refl refl refl refl refl refl refl refl refl
passed_place Full = of_kind (λ k. Passed (next_place Full k)) refl refl refl refl refl refl refl refl refl
passed_place Ended = of_kind (λ k. Passed (next_place Ended k)) refl refl refl refl refl refl refl refl refl
passed_place Bad = of_kind (λ k. Passed (next_place Bad k)) refl refl refl refl refl refl refl refl refl

passed_late : (p : Place) → is_late p ≡ true → Passed p
passed_late p h = rw h refl

passed_arrived : (c : Check) (p : Place) → Passed p → (k : Kind) → Passed (arrived c p k).place
unfolding arrived
passed_arrived c p h =
    of_kind (λ k. Passed (arrived c p k).place) h h h h h h (passed_late _ (late_opened c)) (passed_late _ (late_closed c)) h

passed_step : (c : Check) (k : Kind) → Passed (check_step c k).place
unfolding check_step provided◌then◌else◌ is_late
passed_step c k =
    by_cases (is_bad (next_place c.place k)) (λ t. simp t) (λ t. simp t (passed_arrived c (next_place c.place k) (passed_place c.place k) k))

pub step_late : (c : Check) (k : Kind) → is_alone (check_step c k).place ≡ false → is_late (check_step c k).place ≡ true
step_late c k h = go (is_late (check_step c k).place) (passed_step c k)
  where
    go : (b : Bool) → (b || is_alone (check_step c k).place) ≡ true → b ≡ true
    go true e = refl
    go false e = true_is_not_false e h
