-- Definitions that count up to the first byte that passes a test, as what `position` finds, or else the length.
use Prim.Native.Nat.{ℕ, ◌+◌}
use mathlib.Core.Path.{◌≡◌, refl, sym, ◌∙◌}
use mathlib.Core.List.{List, [], ◌∷◌}
use mathlib.Core.Bool.{Bool, cond, not}
use native.Mathlib.Omega.{arith}
use borrow.Author.Tests.{ltb-false}
use lib.Dec.{ltb}
use lib.ListN.{length}
use Rattle.std.proofs.Common.{Option}
use Rattle.std.specs.List.{position, position_or_len}
use Rattle.std.specs.Option.{unwrap_or}
use Rattle.std.proofs.lemmas.List.Recursion.{is_position_or_len}
use Rattle.std.proofs.lemmas.List.Sums.{prefix_len-le-length}
use Rattle.songcode.specs.Lists.{provided◌then◌else◌}
use Rattle.songcode.proofs.ListLaws.{by_cases}
use Rattle.songcode.specs.Answer.Characters.{within}
use Rattle.text.specs.Leads.{ascii_length}
use Rattle.text.specs.Spans.{blank, end, ends, longer, line_length, front_blanks}
use Rattle.text.proofs.SpanLaws.{by_ending}

-- The first place, or else the length.
or_length : (p : ℕ → Bool) (bs : List ℕ) → unwrap_or (position p bs) (length bs) ≡ position_or_len p bs
or_length p bs =
    by_cases
    (ltb (position_or_len p bs) (length bs))
    (λ e. rw e)
    (λ e. let l = ltb-false _ _ e in rw e (omega (arith, prefix_len-le-length (λ b. not (p b)) bs)))

-- A definition that is 0 at a byte that passes, and one more at any other.
module _ (count : List ℕ → ℕ) (p : ℕ → Bool) (none : count [] ≡ 0) (step : (b : ℕ) (bs : List ℕ) → count (b ∷ bs) ≡ cond (p b) 0 (1 + count bs)) where
  pub counted : (bs : List ℕ) {r : Option ℕ} → r ≡ position p bs → unwrap_or r (length bs) ≡ count bs
  counted bs e = rw e (or_length p bs ∙ sym (is_position_or_len count p none step bs))

-- A byte that is no blank.
abbrev pub full : ℕ → Bool
full b = not (blank b)

-- A byte that is no character by itself.
abbrev pub joined : ℕ → Bool
joined b = not (within 0x01 0x7F b)

module _ (bs : List ℕ) {r : Option ℕ} where
  pub front_found : r ≡ position full bs → unwrap_or r (length bs) ≡ front_blanks bs
  unfolding front_blanks provided◌then◌else◌
  front_found = counted front_blanks full refl (λ b bs. by_cases (blank b) (λ e. rw e (omega arith)) (λ e. rw e)) bs

  pub line_found : r ≡ position (λ b. ends (end b)) bs → unwrap_or r (length bs) ≡ line_length bs
  unfolding line_length longer ends
  line_found = counted line_length (λ b. ends (end b)) refl (λ b bs. by_ending b (λ e. rw e (omega arith)) (λ e. rw e) (λ e. rw e)) bs

  pub ascii_found : r ≡ position joined bs → unwrap_or r (length bs) ≡ ascii_length bs
  unfolding ascii_length provided◌then◌else◌
  ascii_found = counted ascii_length joined refl (λ b bs. by_cases (within 0x01 0x7F b) (λ e. rw e (omega arith)) (λ e. rw e)) bs
