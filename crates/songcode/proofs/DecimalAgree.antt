-- Decimals built digit by digit are those that are read.
use Prim.Native.Nat.{ℕ, zero, suc, ◌+◌, ◌-◌, ◌*◌, ◌≤◌, ◌<◌}
use mathlib.Core.Path.{◌≡◌, refl, ap, sym, subst, ◌∙◌}
use mathlib.Core.Logic.{◌↔◌}
use mathlib.Core.List.{List, [], ◌∷◌, ◌++◌, append-nil, append_assoc}
use mathlib.Core.Bool.{true, false, not}
use native.Mathlib.Omega.{arith}
use lib.Dec.{eqb, leb}
use borrow.Author.Tests.{leb-true, le-leb, eq-eqb, ne_eqb, not-true}
use Rattle.songcode.specs.Bytes.{Byte}
use Rattle.songcode.specs.Answer.Numbers.{is_digit, digits, is_decimal, value_from}
use Rattle.songcode.specs.Apart.{Decimal, digit, more_digits}
use Rattle.songcode.proofs.ListLaws.{true_is_not_false, both_pass, pass_both}

positive : (k : ℕ) → (k ≡ 0 → ⊥) → 1 ≤ k
positive zero h = absurd (h refl)
positive (suc k) h = omega arith

-- One digit.
is_digit_lem : (b : Byte) → is_digit b ≡ true → (b.value - 48 < 10) × (b.value ≡ 48 + (b.value - 48))
unfolding is_digit
is_digit_lem b e =
    let h = both_pass (leb 48 b.value) (leb b.value 57) e in
    let l = leb-true 48 b.value h.0 in
    let k = leb-true b.value 57 h.1 in (omega arith, omega arith)

digit_is : (b : Byte) (d : ℕ) → d < 10 → b.value ≡ 48 + d → is_digit b ≡ true
unfolding is_digit
digit_is b d h e = pass_both (le-leb 48 b.value (omega arith)) (le-leb b.value 57 (omega arith))

-- Digits behind a number that is not 0.
behind : (xs : List Byte) (n : ℕ) (ys : List Byte) → Decimal xs n → 1 ≤ n → digits ys ≡ true → Decimal (xs ++ ys) (value_from n ys)
unfolding digits value_from
behind xs n [] w h e = subst (λ z. Decimal z n) (sym (append-nil xs)) w
behind xs n (y ∷ ys) w h e =
    let g = both_pass (is_digit y) (digits ys) e in
    let d = is_digit_lem y g.0 in
    let longer : Decimal (xs ++ (y ∷ [])) (n * 10 + (y.value - 48)) = more_digits y (y.value - 48) w h d.0 d.1 refl in
    subst (λ z. Decimal z (value_from (n * 10 + (y.value - 48)) ys)) (append_assoc xs (y ∷ []) ys)
    (behind (xs ++ (y ∷ [])) (n * 10 + (y.value - 48)) ys longer (omega arith) g.1)

decimal_built : (bs : List Byte) → is_decimal bs ≡ true → Decimal bs (value_from 0 bs)
unfolding is_decimal value_from
decimal_built [] e = true_is_not_false e refl
decimal_built (b ∷ []) e = let d = is_digit_lem b e in subst (λ z. Decimal (b ∷ []) z) (omega arith) (digit b (b.value - 48) d.0 d.1)
decimal_built (b ∷ c ∷ bs) e =
    let h = both_pass (not (eqb b.value 48)) (digits (b ∷ c ∷ bs)) e in
    go h.0 h.1
  where
    go : not (eqb b.value 48) ≡ true → digits (b ∷ c ∷ bs) ≡ true → Decimal (b ∷ c ∷ bs) (value_from 0 (b ∷ c ∷ bs))
    go nonzero ds =
        let g = both_pass (is_digit b) (digits (c ∷ bs)) ds in
        let d = is_digit_lem b g.0 in
        let far : b.value ≡ 48 → ⊥ = λ q. true_is_not_false (eq-eqb b.value 48 q) (not-true _ nonzero) in
        let some_value : 1 ≤ b.value - 48 = positive (b.value - 48) (λ z. far (d.1 ∙ ap (λ k. 48 + k) z)) in
        subst (λ z. Decimal (b ∷ c ∷ bs) (value_from z (c ∷ bs))) (omega arith)
        (behind (b ∷ []) (b.value - 48) (c ∷ bs) (digit b (b.value - 48) d.0 d.1) some_value g.1)

-- Back.
value_snoc : (v : ℕ) (ds : List Byte) (b : Byte) → value_from v (ds ++ (b ∷ [])) ≡ value_from v ds * 10 + (b.value - 48)
unfolding value_from
value_snoc v [] b = refl
value_snoc v (d ∷ ds) b = value_snoc (v * 10 + (d.value - 48)) ds b

digits_snoc : (ds : List Byte) (b : Byte) → digits ds ≡ true → is_digit b ≡ true → digits (ds ++ (b ∷ [])) ≡ true
unfolding digits
digits_snoc [] b e h = pass_both h refl
digits_snoc (d ∷ ds) b e h = let g = both_pass (is_digit d) (digits ds) e in pass_both g.0 (digits_snoc ds b g.1 h)

decimal_snoc : (ds : List Byte) (b : Byte) → is_decimal ds ≡ true → 1 ≤ value_from 0 ds → is_digit b ≡ true → is_decimal (ds ++ (b ∷ [])) ≡ true
unfolding is_decimal digits value_from
decimal_snoc [] b e h k = true_is_not_false e refl
decimal_snoc (d ∷ []) b e h k =
    let far : eqb d.value 48 ≡ false = ne_eqb d.value 48 (λ q. let z : ⊥ = omega arith in z) in
    let nonzero : not (eqb d.value 48) ≡ true = rw far in
    pass_both nonzero (pass_both e (pass_both k refl))
decimal_snoc (d ∷ c ∷ ds) b e h k =
    let g = both_pass (not (eqb d.value 48)) (digits (d ∷ c ∷ ds)) e in pass_both g.0 (digits_snoc (d ∷ c ∷ ds) b g.1 k)

built_decimal : {bs : List Byte} {n : ℕ} → Decimal bs n → (is_decimal bs ≡ true) × (value_from 0 bs ≡ n)
unfolding is_decimal value_from
built_decimal (digit b d h e) = (digit_is b d h e, omega arith)
built_decimal (more_digits {ds = ds} {n = n} b d w k h e z) =
    let r = built_decimal w in
    let v = r.1 in
    (rw z (decimal_snoc ds b r.0 (omega arith) (digit_is b d h e)), rw z (value_snoc 0 ds b ∙ rw v (omega arith)))

pub decimal_exact : (bs : List Byte) (n : ℕ) → ((is_decimal bs ≡ true) × (value_from 0 bs ≡ n)) ↔ Decimal bs n
decimal_exact bs n = ((λ h. subst (λ z. Decimal bs z) h.1 (decimal_built bs h.0)), built_decimal)
