-- What a setting at its places says: a number, or another one where there is none.
use Prim.Native.Nat.{ℕ, ◌≤◌}
use mathlib.Core.Path.{◌≡◌, refl, sym, ap, ◌∙◌, subst}
use mathlib.Core.List.{List}
use mathlib.Core.Bool.{not}
use mathlib.Core.Option.{Option, none, some, get_or, bind}
use native.Mathlib.Omega.{arith}
use Prim.Native.Char.{code}
use Rattle.songcode.specs.Lists.{provided◌then◌else◌, taken, left}
use Rattle.songcode.specs.Bytes.{Byte, placed, is, is_byte}
use Rattle.songcode.specs.Answer.Keys.{time_in, bpm_in}
use Rattle.songcode.specs.Answer.Numbers.{repeat_in}
use Rattle.songcode.specs.Answer.Modifiers.{cut_in}
use Rattle.songcode.proofs.ListLaws.{by_cases}
use Rattle.text.specs.Spans.{part}
use Rattle.std.specs.Prelude as std
use Rattle.tokens.specs.Decimals.{number_of}
use Rattle.std.specs.Prelude as std
use Rattle.cuts.specs.declared.Cut.{Cut}
use Rattle.std.specs.Prelude.{Some, None}
use Rattle.settings.specs.Cuts.{cut_is, CutFits}
use Rattle.settings.proofs.PlaceLaws.{Placeless}
use Rattle.settings.proofs.NumberLaws.{number_in_range}
use Rattle.settings.proofs.CutLaws.{cut_in_placeless}
use Rattle.sections.specs.declared.slots.Said.{Said}
use Rattle.sections.specs.Slots.{setting_at}
use Rattle.sections.specs.Values.{cut_said}

pub number_or_lem : (o : Option ℕ) (d : ℕ) → std.unwrap_or (number_of o) d ≡ get_or o d
unfolding number_of
number_or_lem none d = refl
number_or_lem (some n) d = refl

-- A number that is read, or the other one.
or_holds : (P : ℕ → Type 0) (o : Option ℕ) (d : ℕ) → P d → ((n : ℕ) → o ≡ some n → P n) → P (get_or o d)
or_holds P none d p f = p
or_holds P (some n) d p f = f n refl

module _ (s : List ℕ) {said : std.Option Said} where
  module _ (f : List Byte → Option ℕ) (d : ℕ) where
    pub said_otherwise : said ≡ None → d ≡ get_or (bind (setting_at s said) (λ x. f x.text)) d
    unfolding bind setting_at
    said_otherwise is = rw is refl

    pub said_number : (P : ℕ → Type 0) → Placeless f → P d → ((bs : List Byte) (n : ℕ) → f bs ≡ some n → P n) → {x : Said} → said ≡ Some x
        → {m : std.Option ℕ} {r : ℕ} → m ≡ number_of (f (placed 0 (part x.start x.stop s))) → r ≡ std.unwrap_or m d
        → (r ≡ get_or (bind (setting_at s said) (λ x. f x.text)) d) × P r
    unfolding bind setting_at
    said_number P h p g {x} is {m} {r} e i =
        let o = f (placed 0 (part x.start x.stop s)) in
        let k : r ≡ get_or o d = i ∙ ap (λ (x : std.Option ℕ). std.unwrap_or x d) e ∙ number_or_lem o d in (
          k ∙ rw (is, h x.start (part x.start x.stop s)),
          subst P (sym k)
              (or_holds P o d p (g (placed 0 (part x.start x.stop s)))),
        )

  pub no_cut : said ≡ None → (None ≡ cut_said (setting_at s said)) × CutFits None
  unfolding cut_said cut_is bind CutFits setting_at
  no_cut is = (rw is refl, tt)

  pub a_cut : {x : Said} → said ≡ Some x → {r : std.Option Cut} → r ≡ cut_is (cut_in (placed 0 (part x.start x.stop s))) → r ≡ cut_said (setting_at s said)
  unfolding cut_said bind setting_at
  a_cut {x} is e = e ∙ rw (is, cut_in_placeless x.start (part x.start x.stop s))

-- The ranges of what is read.
pub time_range : (bs : List Byte) (n : ℕ) → time_in bs ≡ some n → n ≤ 32
unfolding time_in provided◌then◌else◌
time_range bs n e =
    by_cases
    (is "/4" (left (λ b. not (is_byte (code "/") b)) bs))
    (λ t. (number_in_range 1 32 (taken (λ b. not (is_byte (code "/") b)) bs) (rw t at e)).1)
    (λ t. let z : none ≡ some n = rw t at e in none_some z)
  where
    none_some : {X : Type 0} → none ≡ some n → X
    none_some h = let z : ◌≡◌ {A = ℕ} 0 1 = cc in absurd (omega arith)

pub bpm_range : (bs : List Byte) (n : ℕ) → bpm_in bs ≡ some n → n ≤ 511
unfolding bpm_in
bpm_range bs n e = let h = number_in_range 0 400 bs e in omega arith

pub repeat_range : (bs : List Byte) (n : ℕ) → repeat_in bs ≡ some n → (1 ≤ n) × (n ≤ 9999)
unfolding repeat_in
repeat_range bs n e = let h = number_in_range 2 9999 bs e in (omega arith, omega arith)
