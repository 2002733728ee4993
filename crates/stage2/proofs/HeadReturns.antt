-- The returns of the functions on definitions' heads.
use Prim.Native.Nat.{ℕ, ◌<◌, ◌≤◌, min}
use mathlib.Core.Path.{◌≡◌, refl, sym, ap, ◌∙◌}
use mathlib.Core.List.{List, [], ◌∷◌}
use mathlib.Core.Bool.{Bool, true, ◌||◌}
use native.Mathlib.Omega.{arith}
use borrow.Author.Tests.{le-leb, lt-leb}
use lib.Dec.{eqb, leb}
use lib.ListN.{set}
use Rattle.songcode.specs.Lists.{provided◌then◌else◌, any}
use Rattle.songcode.specs.Bytes.{placed}
use Rattle.songcode.specs.Complaints.{complain_if}
use Rattle.songcode.specs.Answer.Numbers.{count_in}
use Rattle.songcode.specs.Answer.Sections.{behind_first}
use Rattle.songcode.specs.Answer.SongText.{head_in}
use Rattle.tokens.specs.Decimals.{number_of}
use Rattle.std.specs.List.{list_any}
use Rattle.std.specs.Prelude as std
use Rattle.std.specs.Prelude.{Some, None}
use Rattle.text.specs.Spans.{part}
use Rattle.settings.proofs.OfLineLaws.{line_from, head_of_line}
use Rattle.refusals.specs.Ranks.{least}
use Rattle.stage2.specs.Heads.{has_head, head_again, head_judged, with_head}
use Rattle.refusals.proofs.RankLaws.{least_le}

-- Whether a slice contains a number is whether that is among the heads.
pub among_heads : (x : ℕ) (ids : List ℕ) → list_any (λ y. eqb y x) ids ≡ any (λ y. eqb y x) ids
unfolding any
among_heads x [] = refl
among_heads x (y ∷ ids) = ap (λ b. eqb y x || b) (among_heads x ids)

-- What heads are complained of.
module _ (head : std.Option ℕ) (n : ℕ) (ids : List ℕ) where
  pub head_malformed : (line r : ℕ) → head ≡ None → r ≡ least (complain_if true 6 line) → r ≡ head_judged head n ids line
  unfolding head_judged head_again
  head_malformed line r e p = let l = least_le (complain_if true 6 line) in rw e (p ∙ omega arith)

  pub head_formed : (line x a b r : ℕ) (many has : Bool) → head ≡ Some x → many ≡ leb 26 n → has ≡ has_head n ids x
      → a ≡ least (complain_if many 6 line) → b ≡ least (complain_if has 6 line) → r ≡ min a b → r ≡ head_judged head n ids line
  unfolding head_judged head_again
  head_formed line x a b r many has e m s p q z = rw (e, ← m, ← s, ← p, ← q) z

  pub heads_full : 26 ≤ n → ids ≡ with_head head n ids
  unfolding with_head provided◌then◌else◌
  heads_full e = rw (le-leb 26 n e) refl

  pub head_added : (x : ℕ) → n < 26 → x ≡ std.unwrap_or head 0 → set ids n x ≡ with_head head n ids
  unfolding with_head provided◌then◌else◌
  head_added x e p = rw (lt-leb 26 n e, p) refl

-- The head that a line has.
pub head_read : (n : ℕ) (s : List ℕ) (a e : ℕ) (head : std.Option ℕ) → head ≡ number_of (count_in (behind_first (placed 0 (part a e s))))
    → head ≡ number_of (head_in (line_from n s a e))
head_read n s a e head h = h ∙ ap number_of (sym (head_of_line n s a e))
