-- A reading of pattern text: a token that it passes, and one that it stops in front of.
use Prim.Native.Nat.{ℕ, ◌+◌, ◌/◌, ◌^◌, ◌≤◌}
use mathlib.Core.Path.{◌≡◌, refl, sym, ap, subst, ◌∙◌}
use mathlib.Core.Logic.{◌⊎◌, inl, inr}
use mathlib.Core.List.{List, [], ◌∷◌, ◌++◌}
use mathlib.Core.Bool.{true, false}
use native.Mathlib.Omega.{arith}
use borrow.Author.Tests.{eqb-true, eqb-false}
use lib.Dec.{eqb}
use Rattle.songcode.specs.Lists.{any}
use Rattle.songcode.specs.Song.{chord, again, silence}
use Rattle.songcode.specs.Answer.Tokens.{Token, sound, remover, reference, semicolon, colon, line_end, opens, closes, wrong}
use Rattle.songcode.proofs.ListLaws.{by_cases, true_is_not_false, any_append}
use Rattle.tokens.specs.TokenWords.{token_word}
use Rattle.tokens.specs.Fitting.{Fit, kind}
use Rattle.tokens.proofs.KindLaws as words
use Rattle.grammar.specs.declared.checks.Check.{Check}
use Rattle.grammar.specs.Kinds.{kind_of, kinds_of, word_kind}
use Rattle.grammar.specs.Checks.{first, check_step, check_run}
use Rattle.grammar.proofs.WordLaws.{word_kind_lem}
use Rattle.grammar.proofs.BeginningLaws.{or_true, run_on}
use Rattle.std.specs.Prelude.{Ok, Err}
use Rattle.slips.specs.declared.patterns.Whose.{Whose}
use Rattle.slips.specs.declared.patterns.Whose.TheVariants.{Definition, Section, Side}
use Rattle.slips.specs.declared.patterns.Reading.{Reading}
use Rattle.slips.specs.declared.patterns.Stop.{Stop}
use Rattle.slips.specs.declared.faults.Clause.{Clause}
use Rattle.slips.specs.declared.faults.Clause.TheVariants.{NoChord, ExtensionLong, ReferenceMalformed, SeparatorFirst, SeparatorDoubled}
use Rattle.slips.specs.declared.faults.Clause.TheVariants.{SeparatorLast, SeparatorLineEnd, SeparatorLineStart, RemoverFirst, RemoverInside}
use Rattle.slips.specs.declared.faults.Clause.TheVariants.{LoopEmpty, LoopCountMissing, LoopCountWrong, LoopInLoop, LoopOpen}
use Rattle.slips.specs.declared.faults.Clause.TheVariants.{LoopNotOpen, LoopLineEnd, NotParted, ReferenceNotHere, ColonNotHere}
use Rattle.slips.specs.declared.faults.Clause.TheVariants.{SideEmpty, ExtensionSign}
use Rattle.slips.specs.Clauses.{number_of}
use Rattle.slips.specs.Rules.{is_colon, Right, is_count, is_earlier, Earlier, Back, Told}
use Rattle.slips.specs.RulesRead.{is_stuck, is_side, barred_token, back_of, Opened, Going, Refuses, Steps}
use Rattle.slips.proofs.RuleLaws.{free_begins, stuck_never, barred_never}

-- Every clause has a number from 1 to 22.
numbered : (c : Clause) → (1 ≤ number_of c) × (number_of c ≤ 22)
numbered NoChord = (omega arith, omega arith)
numbered ExtensionLong = (omega arith, omega arith)
numbered ReferenceMalformed = (omega arith, omega arith)
numbered SeparatorFirst = (omega arith, omega arith)
numbered SeparatorDoubled = (omega arith, omega arith)
numbered SeparatorLast = (omega arith, omega arith)
numbered SeparatorLineEnd = (omega arith, omega arith)
numbered SeparatorLineStart = (omega arith, omega arith)
numbered RemoverFirst = (omega arith, omega arith)
numbered RemoverInside = (omega arith, omega arith)
numbered LoopEmpty = (omega arith, omega arith)
numbered LoopCountMissing = (omega arith, omega arith)
numbered LoopCountWrong = (omega arith, omega arith)
numbered LoopInLoop = (omega arith, omega arith)
numbered LoopOpen = (omega arith, omega arith)
numbered LoopNotOpen = (omega arith, omega arith)
numbered LoopLineEnd = (omega arith, omega arith)
numbered NotParted = (omega arith, omega arith)
numbered ReferenceNotHere = (omega arith, omega arith)
numbered ColonNotHere = (omega arith, omega arith)
numbered SideEmpty = (omega arith, omega arith)
numbered ExtensionSign = (omega arith, omega arith)

-- A clause that may name the token before.
pub told_earlier : (at : ℕ) (b : Back) (x : Stop) {clause : Clause} {from : ℕ} → (x.clause ≡ clause) × (x.from ≡ from)
    → is_earlier (number_of clause) ≡ true → from ≤ at → Earlier (number_of clause) at b from → Told at b (number_of x.clause) x.from
told_earlier at b x {clause} {from} e y l o =
    let t : Told at b (number_of clause) from =
    record {
      named = numbered clause;
      placed =
          record {
            here = λ h. true_is_not_false (rw y (or_true (is_count (number_of clause)))) h;
            count = λ d. let k = eqb-true (number_of clause) 13 d in
                let z : is_earlier 13 ≡ true = rw k at y in true_is_not_false z refl;
            earlier = λ _. (l, o);
          };
    } in
    rw (e.0, e.1) t

-- At most one byte behind.
pub told_near : {at : ℕ} {b : Back} {clause from : ℕ} → Told at b clause from → from ≤ at + 1
told_near {at} {b} {clause} {from} t =
    by_cases (is_earlier clause)
    (λ e. let h = (t.placed.earlier e).0 in omega arith)
    (λ e.
    by_cases (is_count clause)
    (λ c. let h = t.placed.count c in omega arith)
    (λ c. let h = t.placed.here (rw (c, e) refl) in omega arith))

-- The sign of a word tells a `:`.
sign_colon : (t : Token) → Fit t → kind t ≡ 59 → is_colon t ≡ true
unfolding kind is_colon Fit
sign_colon (sound (chord c)) f h = let b = f.0 in absurd (omega arith)
sign_colon (sound again) f h = absurd (omega arith)
sign_colon (sound silence) f h = absurd (omega arith)
sign_colon remover f h = absurd (omega arith)
sign_colon (reference n) f h = absurd (omega arith)
sign_colon semicolon f h = absurd (omega arith)
sign_colon colon f h = refl
sign_colon line_end f h = absurd (omega arith)
sign_colon opens f h = absurd (omega arith)
sign_colon (closes n) f h = absurd (omega arith)
sign_colon wrong f h = absurd (omega arith)

-- And a `[`.
sign_opens : (t : Token) → Fit t → kind t ≡ 57 → t ≡ opens
unfolding kind Fit
sign_opens (sound (chord c)) f h = let b = f.0 in absurd (omega arith)
sign_opens (sound again) f h = absurd (omega arith)
sign_opens (sound silence) f h = absurd (omega arith)
sign_opens remover f h = absurd (omega arith)
sign_opens (reference n) f h = absurd (omega arith)
sign_opens semicolon f h = absurd (omega arith)
sign_opens colon f h = absurd (omega arith)
sign_opens line_end f h = absurd (omega arith)
sign_opens opens f h = refl
sign_opens (closes n) f h = absurd (omega arith)
sign_opens wrong f h = absurd (omega arith)

pub no_opens : opens ≡ line_end → ⊥
no_opens e = let z : ◌≡◌ {A = ℕ} 0 1 = cc in omega arith

opens_sign : (t : Token) → t ≡ opens → kind t ≡ 57
unfolding kind
opens_sign t e = ap kind e

no_colon : (t : Token) → (kind t ≡ 59 → ⊥) → is_colon t ≡ false
unfolding kind is_colon
no_colon (sound s) h = refl
no_colon remover h = refl
no_colon (reference n) h = refl
no_colon semicolon h = refl
no_colon colon h = absurd (h refl)
no_colon line_end h = refl
no_colon opens h = refl
no_colon (closes n) h = refl
no_colon wrong h = refl

side_barred : (w : Whose) (t : Token) → is_side w ≡ true → is_colon t ≡ true → barred_token w t ≡ true
unfolding barred_token
side_barred Definition t s h = true_is_not_false s refl
side_barred Section t s h = true_is_not_false s refl
side_barred Side t s h = h

pub not_barred : (w : Whose) (t : Token) → is_colon t ≡ false → barred_token w t ≡ false
unfolding barred_token
not_barred Definition t h = refl
not_barred Section t h = refl
not_barred Side t h = h

no_side : (w : Whose) (t : Token) → is_side w ≡ false → barred_token w t ≡ false
unfolding barred_token
no_side Definition t h = refl
no_side Section t h = refl
no_side Side t h = true_is_not_false refl h

module _ (w : Whose) (ts : List Token) (at : ℕ) (r : Reading) (g : Going w ts at r) (t : Token) (d : Check) (e : d ≡ check_step r.check (kind_of t)) where
  same_step : d ≡ check_step (check_run first (kinds_of ts)) (kind_of t)
  same_step = e ∙ ap (λ (c : Check). check_step c (kind_of t)) g.check

  begins : (more : List Token) × Right w (ts ++ more)
  begins = free_begins ts w (subst (λ (c : Check). is_stuck w c ≡ false) g.check g.free) g.unbarred

  pub stops_before : (x : Stop) (from : ℕ) → is_stuck w d ≡ true → Told from (back_of r) (number_of x.clause) x.from → Refuses w ts t from (back_of r) x
  stops_before x from h k =
      record { begun = begins; never = λ more. stuck_never ts t more w (subst (λ (c : Check). is_stuck w c ≡ true) same_step h); told = k }

  pub barred_before : (x : Stop) (from : ℕ) → barred_token w t ≡ true → Told from (back_of r) (number_of x.clause) x.from → Refuses w ts t from (back_of r) x
  barred_before x from h k = record { begun = begins; never = λ more. barred_never ts t more w h; told = k }

  run_one : check_run first (kinds_of (ts ++ (t ∷ []))) ≡ check_step (check_run first (kinds_of ts)) (kind_of t)
  unfolding check_run kinds_of
  run_one = run_on ts (t ∷ [])

  pub goes_on : (x : Reading) (to : ℕ) → is_stuck w d ≡ false → barred_token w t ≡ false → x.check ≡ d → x.from ≤ to → x.open ≤ to
      → Going w (ts ++ (t ∷ [])) to x
  unfolding any
  goes_on x to h b c f o =
      record {
        check = c ∙ same_step ∙ sym run_one;
        free = subst (λ (q : Check). is_stuck w q ≡ false) (sym c) h;
        unbarred = any_append (barred_token w) ts (t ∷ []) ∙ rw (g.unbarred, b) refl;
        behind = f;
        opened = o;
      }

-- The sign that is tested is that of the word.
pub barred_or_not : (w : Whose) (sign : ℕ) {n : ℕ} → sign ≡ n → (is_side w ≡ false) ⊎ (sign ≡ 59 → ⊥) → (is_side w ≡ false) ⊎ (n ≡ 59 → ⊥)
barred_or_not w sign e h = rw (← e) h

-- A token, by its word.
module _ (w : Whose) (ts : List Token) (at : ℕ) (r : Reading) (g : Going w ts at r) (t : Token) (fit : Fit t) (word : ℕ) (v : word ≡ token_word t)
    (d : Check) (e : d ≡ check_step r.check (word_kind word)) (from to : ℕ) where
  by_kind : d ≡ check_step r.check (kind_of t)
  by_kind = e ∙ ap (check_step r.check) (ap word_kind v ∙ word_kind_lem t fit)

  sign_is : word / 2 ^ 26 ≡ kind t
  sign_is = rw v (words.word_kind_lem t fit)

  pub token_stuck : (x : Stop) → is_stuck w d ≡ true → Told from (back_of r) (number_of x.clause) x.from → Steps w ts t from to (back_of r) from (Err x)
  token_stuck x h k = stops_before w ts at r g t d by_kind x from h k

  pub token_colon : (x : Stop) → is_side w ≡ true → word / 2 ^ 26 ≡ 59 → Told from (back_of r) (number_of x.clause) x.from
      → Steps w ts t from to (back_of r) from (Err x)
  token_colon x s h k = barred_before w ts at r g t d by_kind x from (side_barred w t s (sign_colon t fit (sym sign_is ∙ h))) k

  pub token_passed : (x : Reading) → is_stuck w d ≡ false → (is_side w ≡ false) ⊎ (word / 2 ^ 26 ≡ 59 → ⊥) → x.check ≡ d → x.from ≡ from → x.from ≤ to
      → x.open ≤ to → (word / 2 ^ 26 ≡ 57 → x.open ≡ from) → ((word / 2 ^ 26 ≡ 57 → ⊥) → x.open ≡ r.open) → Steps w ts t from to (back_of r) from (Ok x)
  token_passed x h b c k f o p q = (goes_on w ts at r g t d by_kind x to h (unbarred b) c f o, k, opened)
    where
      unbarred : (is_side w ≡ false) ⊎ (word / 2 ^ 26 ≡ 59 → ⊥) → barred_token w t ≡ false
      unbarred (inl s) = no_side w t s
      unbarred (inr n) = not_barred w t (no_colon t (λ y. n (sign_is ∙ y)))

      opened : Opened t from r.open x.open
      opened =
          by_cases (eqb (kind t) 57)
          (λ e. let y = eqb-true (kind t) 57 e in inl (sign_opens t fit y, p (sign_is ∙ y)))
          (λ e. let n = eqb-false (kind t) 57 e in inr (λ y. n (opens_sign t y), q (λ y. n (sym sign_is ∙ y))))
