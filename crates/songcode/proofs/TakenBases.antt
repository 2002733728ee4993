-- Requests 2 and 4: the tests for a base that is taken and for an extension without slips say what the description says.
use Prim.Native.Nat.{ℕ}
use Prim.Native.Char.{code}
use mathlib.Core.Path.{◌≡◌, refl, ap, sym, ◌∙◌}
use mathlib.Core.List.{List, [], ◌∷◌, ◌++◌, append_assoc, Memᴰ}
use mathlib.Core.Bool.{true, false, not}
use borrow.Author.Tests.{eqb-true, eq-eqb, not-true}
use Rattle.songcode.specs.Lists.{provided◌then◌else◌, is_empty, any}
use Rattle.songcode.specs.Bytes.{Byte, values, ascii, begins, is_byte}
use Rattle.songcode.specs.Answer.Chords.{ends_in_m, is_passed_over, is_taken, is_slip}
use Rattle.songcode.specs.Description.WrittenPattern.{PassedOver}
use Rattle.songcode.proofs.ListLaws.{by_cases, true_is_not_false, both_pass, none_passes}
use Rattle.songcode.proofs.Spellings.{begins_true, begins_append}

-- A spelling that ends in `m`.
ends_in_m_lem : (s : List ℕ) → ends_in_m s ≡ true → (front : List ℕ) × (s ≡ front ++ ascii "m")
unfolding ends_in_m provided◌then◌else◌ is_empty ascii
ends_in_m_lem [] h = true_is_not_false h refl
ends_in_m_lem (b ∷ []) h = ([], ap (λ x. x ∷ []) (eqb-true b (code "m") h))
ends_in_m_lem (b ∷ c ∷ bs) h = let r = ends_in_m_lem (c ∷ bs) h in (b ∷ r.0, ap (λ xs. b ∷ xs) r.1)

m_ends : (front : List ℕ) → ends_in_m (front ++ ascii "m") ≡ true
unfolding ends_in_m provided◌then◌else◌ is_empty ascii
m_ends [] = refl
m_ends (b ∷ []) = refl
m_ends (b ∷ c ∷ bs) = m_ends (c ∷ bs)

module _ (s word : List ℕ) where
  pub passed_sound : is_passed_over s word ≡ true → PassedOver s word
  unfolding is_passed_over
  passed_sound h =
      let b = both_pass (ends_in_m s) (begins (s ++ ascii "aj") word) h in
      let e = ends_in_m_lem s b.0 in
      let f = begins_true (s ++ ascii "aj") word b.1 in
      record { front = e.0; rest = f.rest; ends = e.1; follows = f.joined ∙ append_assoc s (ascii "aj") f.rest }

  pub passed_complete : PassedOver s word → is_passed_over s word ≡ true
  unfolding is_passed_over
  passed_complete p =
      let e : ends_in_m s ≡ true = ap ends_in_m p.ends ∙ m_ends p.front in
      let f : begins (s ++ ascii "aj") word ≡ true =
      ap (begins (s ++ ascii "aj")) (p.follows ∙ sym (append_assoc s (ascii "aj") p.rest)) ∙ begins_append (s ++ ascii "aj") p.rest in
      rw (e, f)

  pub taken_sound : is_taken s word ≡ true → (begins s word ≡ true) × (PassedOver s word → ⊥)
  unfolding is_taken
  taken_sound h =
      let b = both_pass (begins s word) (not (is_passed_over s word)) h in
      (b.0, λ p. true_is_not_false (passed_complete p) (not-true (is_passed_over s word) b.1))

  pub taken_complete : begins s word ≡ true → (PassedOver s word → ⊥) → is_taken s word ≡ true
  unfolding is_taken
  taken_complete h p = rw h (by_cases (is_passed_over s word) (λ e. absurd (p (passed_sound e))) (λ e. rw e))

-- The four signs: a byte is one of them, by its value.
slip_listed : (b : Byte) {signs : List ℕ} → Memᴰ b.value signs → any (λ sign. is_byte sign b) signs ≡ true
unfolding any is_byte
slip_listed b {signs = []} m = elim m [ ]
slip_listed b {signs = x ∷ xs} (Memᴰ.head e) = rw (eq-eqb b.value x e)
slip_listed b {signs = x ∷ xs} (Memᴰ.tail m) = by_cases (is_byte x b) (λ h. rw h) (λ h. rw h (slip_listed b m))

listed_slip : (b : Byte) (signs : List ℕ) → any (λ sign. is_byte sign b) signs ≡ true → Memᴰ b.value signs
unfolding any is_byte
listed_slip b [] h = true_is_not_false h refl
listed_slip b (x ∷ xs) h =
    by_cases (is_byte x b) (λ e. Memᴰ.head (eqb-true b.value x e)) (λ e. Memᴰ.tail (listed_slip b xs (rw e at h)))

pub clean_sound : (bs : List Byte) → any is_slip bs ≡ false → (v : ℕ) → Memᴰ v (values bs) → Memᴰ v (ascii "%_=$") → ⊥
unfolding any values is_slip
clean_sound [] h v i m = elim i [ ]
clean_sound (b ∷ bs) h v (Memᴰ.head e) m =
    true_is_not_false (slip_listed b (rw e at m)) (none_passes (is_slip b) (any is_slip bs) h).0
clean_sound (b ∷ bs) h v (Memᴰ.tail i) m = clean_sound bs (none_passes (is_slip b) (any is_slip bs) h).1 v i m

pub clean_complete : (bs : List Byte) → ((v : ℕ) → Memᴰ v (values bs) → Memᴰ v (ascii "%_=$") → ⊥) → any is_slip bs ≡ false
unfolding any values is_slip
clean_complete [] h = refl
clean_complete (b ∷ bs) h =
    by_cases
    (is_slip b)
    (λ e. absurd (h b.value (Memᴰ.head refl) (listed_slip b (ascii "%_=$") e)))
    (λ e. rw e (clean_complete bs (λ v i. h v (Memᴰ.tail i))))
