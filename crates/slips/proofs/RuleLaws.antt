-- Where the check goes on the text is a beginning of a right one; where it is stuck no right text begins so.
use Prim.Native.Nat.{ℕ}
use mathlib.Core.Path.{◌≡◌, refl, sym, ap, ◌∙◌}
use mathlib.Core.List.{List, [], ◌∷◌, ◌++◌, append-nil}
use mathlib.Core.Bool.{Bool, true, false, ◌||◌, ◌&&◌, not}
use mathlib.Core.Option.{Option, none, some}
use Rattle.songcode.specs.Lists.{is_some, any}
use Rattle.songcode.specs.Answer.Tokens.{Token}
use Rattle.songcode.specs.Answer.PatternText.{whole_reference, pattern_by}
use Rattle.songcode.proofs.ListLaws.{by_cases, true_is_not_false, any_append, none_passes}
use Rattle.grammar.specs.declared.checks.Check.{Check}
use Rattle.grammar.specs.Kinds.{kind_of, kinds_of}
use Rattle.grammar.specs.Checks.{first, is_bad, check_step, check_run}
use Rattle.grammar.specs.Verdicts.{is_alone, definition_fine, unnamed_fine, section_fine}
use Rattle.grammar.proofs.VerdictLaws.{items_fine, unnamed_fine_lem, pattern_fine}
use Rattle.grammar.proofs.LateLaws.{alone_is_whole}
use Rattle.grammar.proofs.BeginningLaws.{or_true, run_on, ending_tokens, ending_plain, ended_rightly}
use Rattle.grammar.proofs.BeginningLaws.{is_ruined, never_right, never_unnamed, never_of_section, step_late}
use Rattle.slips.specs.declared.patterns.Whose.{Whose}
use Rattle.slips.specs.declared.patterns.Whose.TheVariants.{Definition, Section, Side}
use Rattle.slips.specs.Rules.{is_colon, Right}
use Rattle.slips.specs.RulesRead.{misnamed, is_stuck, barred_token}

-- The check of the tokens, and what ends them rightly.
module _ (ts : List Token) where
  abbrev behind : Check
  behind = check_run first (kinds_of ts)

  ended_items : is_bad behind.place ≡ false → (definition_fine (check_run first (kinds_of (ts ++ ending_tokens behind))) ≡ true)
      × ((check_run first (kinds_of (ts ++ ending_tokens behind))).named ≡ behind.named)
  ended_items h = rw (run_on ts (ending_tokens behind)) (ended_rightly behind h)

  alone_right : is_alone behind.place ≡ true → is_some (pattern_by (whole_reference ts) ts) ≡ true
  unfolding is_some pattern_by
  alone_right h = go (whole_reference ts) (sym (alone_is_whole ts) ∙ h)
    where
      go : (o : Option ℕ) → is_some o ≡ true → is_some (pattern_by o ts) ≡ true
      go none e = true_is_not_false e refl
      go (some n) e = refl

  ended_section : is_bad behind.place ≡ false → behind.named ≡ false
      → is_some (pattern_by (whole_reference (ts ++ ending_tokens behind)) (ts ++ ending_tokens behind)) ≡ true
  unfolding section_fine
  ended_section h n =
      let e = ended_items h in
      let d = check_run first (kinds_of (ts ++ ending_tokens behind)) in
      sym (pattern_fine (ts ++ ending_tokens behind)) ∙ rw (e.0, e.1 ∙ n) (or_true (is_alone d.place))

  ended_side : is_bad behind.place ≡ false → behind.named ≡ false → unnamed_fine (check_run first (kinds_of (ts ++ ending_tokens behind))) ≡ true
  unfolding unnamed_fine
  ended_side h n = let e = ended_items h in rw (e.0, e.1 ∙ n) refl

  and_named : (c : Check) → (c.named && not (is_alone c.place)) ≡ false → is_alone c.place ≡ false → c.named ≡ false
  and_named c h a = go c.named h
    where
      go : (b : Bool) → (b && not (is_alone c.place)) ≡ false → b ≡ false
      go false e = refl
      go true e = true_is_not_false (ap not a) e

  and_true : (b : Bool) → (b && true) ≡ false → b ≡ false
  and_true false e = refl
  and_true true e = e

  pub free_begins : (w : Whose) → is_stuck w behind ≡ false → any (barred_token w) ts ≡ false → (more : List Token) × Right w (ts ++ more)
  unfolding Right is_stuck misnamed barred_token
  free_begins Definition h u =
      let n = none_passes (is_bad behind.place) (behind.named && false) h in
      (ending_tokens behind, sym (items_fine (ts ++ ending_tokens behind)) ∙ (ended_items n.0).0)
  free_begins Section h u =
      let n = none_passes (is_bad behind.place) (behind.named && not (is_alone behind.place)) h in
      by_cases (is_alone behind.place)
      (λ a. ([], rw (append-nil ts) (alone_right a)))
      (λ a. (ending_tokens behind, ended_section n.0 (and_named behind n.1 a)))
  free_begins Side h u =
      let n = none_passes (is_bad behind.place) (behind.named && true) h in (
        ending_tokens behind,
        (
          any_append is_colon ts (ending_tokens behind) ∙ rw (u, ending_plain is_colon behind refl (λ k. refl)) refl,
          sym (unnamed_fine_lem (ts ++ ending_tokens behind)) ∙ ended_side n.0 (and_true behind.named n.1),
        ),
      )

  -- One more token.
  module _ (t : Token) (more : List Token) where
    abbrev next : Check
    next = check_step behind (kind_of t)

    run_next : check_run first (kinds_of (ts ++ (t ∷ more))) ≡ check_run next (kinds_of more)
    unfolding check_run kinds_of
    run_next = run_on ts (t ∷ more)

    or_by : (a b : Bool) {X : Type 0} → (a || b) ≡ true → (a ≡ true → X) → (b ≡ true → X) → X
    or_by true b h f g = f refl
    or_by false b h f g = g h

    and_by : (a b : Bool) → (a && b) ≡ true → (a ≡ true) × (b ≡ true)
    and_by true true h = (refl, refl)
    and_by true false h = true_is_not_false h refl
    and_by false b h = true_is_not_false h refl

    not_true : (a : Bool) → not a ≡ true → a ≡ false
    not_true false h = refl
    not_true true h = true_is_not_false h refl

    named_ruined : (c : Check) → c.named ≡ true → is_ruined c ≡ true
    unfolding is_ruined
    named_ruined c h = rw h (or_true (is_bad c.place))

    bad_ruined : (c : Check) → is_bad c.place ≡ true → is_ruined c ≡ true
    unfolding is_ruined
    bad_ruined c h = rw h refl

    unfinished : is_bad next.place ≡ true → section_fine (check_run next (kinds_of more)) ≡ false
    unfolding section_fine
    unfinished h = rw (never_right next (kinds_of more) h) refl

    pub stuck_never : (w : Whose) → is_stuck w next ≡ true → Right w (ts ++ (t ∷ more)) → ⊥
    unfolding Right is_stuck misnamed
    stuck_never Definition h r =
        or_by (is_bad next.place) (next.named && false) h
        (λ b. true_is_not_false (items_fine (ts ++ (t ∷ more)) ∙ r)
        (ap definition_fine run_next ∙ never_right next (kinds_of more) b))
        (λ b. true_is_not_false (and_by next.named false b).1 refl)
    stuck_never Section h r =
        or_by (is_bad next.place) (next.named && not (is_alone next.place)) h
        (λ b. true_is_not_false (pattern_fine (ts ++ (t ∷ more)) ∙ r) (ap section_fine run_next ∙ unfinished b))
        (λ b.
        let m = and_by next.named (not (is_alone next.place)) b in
        let a = not_true (is_alone next.place) m.1 in
        true_is_not_false (pattern_fine (ts ++ (t ∷ more)) ∙ r)
        (ap section_fine run_next ∙ never_of_section next (kinds_of more) (named_ruined next m.0) (step_late behind (kind_of t) a)))
    stuck_never Side h r =
        let ruined : is_ruined next ≡ true =
        or_by (is_bad next.place) (next.named && true) h
        (λ b. bad_ruined next b)
        (λ b. named_ruined next (and_by next.named true b).0) in
        true_is_not_false (unnamed_fine_lem (ts ++ (t ∷ more)) ∙ r.1) (ap unnamed_fine run_next ∙ never_unnamed next (kinds_of more) ruined)

    pub barred_never : (w : Whose) → barred_token w t ≡ true → Right w (ts ++ (t ∷ more)) → ⊥
    unfolding Right barred_token any
    barred_never Definition h r = true_is_not_false h refl
    barred_never Section h r = true_is_not_false h refl
    barred_never Side h r = true_is_not_false (any_append is_colon ts (t ∷ more) ∙ rw h (or_true (any is_colon ts))) r.0
