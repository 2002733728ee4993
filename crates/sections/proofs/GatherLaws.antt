-- The first settings of all numbers, line by line.
use Prim.Native.Nat.{ℕ, ◌<◌, ◌≤◌}
use mathlib.Core.Path.{◌≡◌, refl, sym, ◌∙◌}
use mathlib.Core.List.{List, [], ◌∷◌}
use mathlib.Core.Option.{Option, none, some, or_else}
use native.Mathlib.Omega.{arith}
use lib.Dec.{eqb}
use lib.ListN.{length, set, replicate, get_or-replicate, length-set}
use lib.Seq.{get_or-set_same, get_or-set_other}
use borrow.Author.Tests.{eqb-true, eqb-false}
use mathlib.Core.Bool.{true, false}
use Rattle.std.specs.Prelude as std
use Rattle.std.specs.Option.{is_some}
use Rattle.songcode.specs.Answer.Lines.{Line}
use Rattle.songcode.proofs.ListLaws.{by_cases}
use Rattle.sections.specs.declared.slots.Said.{Said}
use Rattle.sections.specs.Slots.{slot_of, Setting, SaysLine, setting_at}
use Rattle.sections.specs.Gathering.{said_in, Sought, SoughtBy, FirstOfEach}
use Rattle.sections.proofs.SlotLaws.{among_here, among_later, among_none}

-- Before the first line nothing is found.
pub sought_start : (s : List ℕ) (ls : List Line) → SoughtBy s ls ls (replicate 13 std.None)
unfolding or_else setting_at
sought_start s ls =
    record {
      wide = refl;
      each =
          λ slot below. let z = get_or-replicate {A = std.Option Said} 13 slot std.None std.None below in
          rw z (record { first = refl; inside = Prim.tt });
    }

is_none : (o : std.Option Said) → is_some o ≡ false → o ≡ std.None
is_none std.None e = refl
is_none (std.Some x) e = cc

-- One line more.
module _ {s : List ℕ} {l : Line} {ls rest all : List Line} {slot : ℕ} {row : List (std.Option Said)} (here : ls ≡ l ∷ rest) (e : slot ≡ slot_of l)
    (so_far : SoughtBy s ls all row) where
  stays : (k : ℕ) (old : std.Option Said) → Sought s ls all k old → is_some old ≡ true → Sought s rest all k old
  unfolding or_else setting_at
  stays k std.None h there = cc
  stays k (std.Some x) h there = record { first = h.first; inside = h.inside }

  passes : (k : ℕ) (old : std.Option Said) → Sought s ls all k old → (slot ≡ k → ⊥) → Sought s rest all k old
  passes k old h ne = record { first = rw (← among_later k here (λ i. ne (e ∙ i))) h.first; inside = h.inside }

  -- It says no setting, or one whose number was said before.
  pub sought_passed : (13 ≤ slot) → SoughtBy s rest all row
  sought_passed many =
      record { wide = so_far.wide; each = λ k below. passes k _ (so_far.each k below) (λ (i : slot ≡ k). let y : ⊥ = omega arith in y) }

  pub sought_again : is_some (said_in row slot) ≡ true → SoughtBy s rest all row
  sought_again said =
      record {
        wide = so_far.wide;
        each =
            λ k below. by_cases
            (eqb slot k)
            (λ t. stays k _ (so_far.each k below) (rw (eqb-true slot k t) at said))
            (λ t. passes k _ (so_far.each k below) (eqb-false slot k t));
      }

  -- The first of its number.
  module _ {new : std.Option Said} (says : SaysLine s slot l new) (free : is_some (said_in row slot) ≡ false) (small : slot < 13) where
    arrives : Sought s rest all slot new
    unfolding or_else setting_at
    arrives =
        let h = so_far.each slot small in
        let was = rw (is_none (said_in row slot) free) at h.first in
        record {
          first = rw (says.setting small) (sym (among_here slot here (sym e)) ∙ was);
          inside = says.inside;
        }

    pub sought_first : SoughtBy s rest all (set row slot new)
    sought_first =
        let a : slot < length row = rw so_far.wide small in
        record {
          wide = length-set row slot new ∙ so_far.wide;
          each =
              λ k below. by_cases
              (eqb slot k)
              (λ t. let i = eqb-true slot k t in
              rw (← i, get_or-set_same row slot new std.None a) arrives)
              (λ t. let i = eqb-false slot k t in
              let j : (k ≡ slot → ⊥) = λ z. i (sym z) in
              rw (get_or-set_other row slot k new std.None j) (passes k _ (so_far.each k below) i));
        }

-- Behind the last line what is found is the first.
there_alone : (o : Option Setting) → o ≡ or_else o none
unfolding or_else
there_alone none = refl
there_alone (some x) = refl

pub sought_end : {s : List ℕ} {row : List (std.Option Said)} {rest all : List Line} → rest ≡ [] → SoughtBy s rest all row
    → FirstOfEach s all (record { first = row })
sought_end {s} {row} i h =
    record {
      each =
          λ slot below. let x = h.each slot below in
          record { setting = there_alone (setting_at s (said_in row slot)) ∙ rw (← among_none slot i) x.first; inside = x.inside };
    }
