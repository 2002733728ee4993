-- Line by line, as long as they are key lines.
use Prim.Native.Nat.{ℕ, ◌+◌, ◌≤◌}
use mathlib.Core.Path.{◌≡◌, refl, sym, ◌∙◌}
use mathlib.Core.List.{List}
use native.Mathlib.Omega.{arith}
use lib.ListN.{length}
use Rattle.songcode.specs.Lists.{left}
use Rattle.songcode.specs.Answer.Sections.{is_key_line}
use Rattle.sections.specs.Runs.{text_lines}
use Rattle.flat.specs.Taken.{Reaches}
use Rattle.flat.proofs.LineLaws.{keys_over, keys_step, keys_end, no_key, some_key, left_over, left_step, left_end}
use borrow.Author.Rules.{rules}
use Rattle.flat.proofs.lines.put_keys.Goals as goal

reached : (s : List ℕ) (n at k next : ℕ) → text_lines s k next ≡ left is_key_line (text_lines s k next) → 1 ≤ k → k ≤ next + 1 → next ≤ length s
    → at ≤ next → left is_key_line (text_lines s k next) ≡ left is_key_line (text_lines s n at)
    → Reaches s at (left is_key_line (text_lines s n at)) (record { number = k; at = next })
reached s n at k next here a b c d same = record { number = a; counted = b; onward = d; inside = c; lines = here ∙ same }

pub loop-next-init : goal.loop-next-init
loop-next-init c = (omega arith, omega arith, omega arith, refl, refl, omega arith, refl)

-- The line at hand is a key line.
pub loop-next-preserved : goal.loop-next-preserved
loop-next-preserved c =
    let l = c.loop-next in
    let s = c.args.s.now in
    let found = c.line_at-line.ensures in
    let inside = c.loop-next-test.true in
    let kind = some_key _ (sym c.is_key.ensures ∙ c.if-not-is_key.false) ∙ c.kind_of.ensures in
    let more = keys_step s l.k l.next _ found inside _ _ kind c.put_line-out.ensures l.invariant.4 in
    let far = l.invariant.5 in
    (omega arith, omega arith, omega arith, search rules, more, omega arith, left_step s l.k l.next found inside kind ∙ l.invariant.6)

-- No line is left.
pub returns-after-loop-next : goal.returns-after-loop-next
returns-after-loop-next c =
    let l = c.loop-next in
    let e = c.args in
    let s = e.s.now in
    let over = c.loop-next-test.false in record {
      adds = sym (keys_over s l.k l.next _ over) ∙ l.invariant.4;
      reaches = reached s e.number e.from l.k l.next (left_over s l.k l.next over) l.invariant.0 l.invariant.1 l.invariant.2 l.invariant.5 l.invariant.6;
    }

-- The line at hand is none.
pub returns-then-not-is_key : goal.returns-then-not-is_key
returns-then-not-is_key c =
    let l = c.loop-next in
    let e = c.args in
    let s = e.s.now in
    let found = c.line_at-line.ensures in
    let inside = c.loop-next-test.true in
    let none = no_key _ (sym c.is_key.ensures ∙ c.if-not-is_key.true) in
    let kind = c.kind_of.ensures in record {
      adds = sym (keys_end s l.k l.next _ found inside _ none kind) ∙ l.invariant.4;
      reaches = reached s e.number e.from l.k l.next (left_end s l.k l.next found inside _ none kind)
          l.invariant.0 l.invariant.1 l.invariant.2 l.invariant.5 l.invariant.6;
    }
