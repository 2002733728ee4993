-- The word of a chord: by its base, unless that is missing, or the extension is too long or holds one of four signs.
use Rattle.tokens.proofs.WordLaws.{base_inside, chord_none, chord_long, chord_slip, chord_bare, chord_extended}
use Rattle.tokens.proofs.PartLaws.{part_drop}
use Rattle.tokens.specs.Lexing.{is_slip_byte}
use Rattle.songcode.specs.Lists.{any}
use Rattle.text.specs.Spans.{part}
use Rattle.text.proofs.WalkLaws.{part_length}
use native.Mathlib.Omega.{arith}
use mathlib.Core.Path.{sym, ap, ◌∙◌}
use Prim.Native.Nat.{◌≤◌, ◌-◌}
use Rattle.tokens.proofs.words.chord_token.Goals as goal
use Rattle.tokens.proofs.words.chord_token.Goals.{After-struct_known-2-1}

-- The base is one of the 34 and lies in the word.
inside : (c : After-struct_known-2-1)
    → let a = c.args in
    (a.base.number ≤ 33) × (a.base.length ≤ a.e - a.a)
inside c =
    let a = c.args in
    base_inside a.s.now a.a a.e a.base c.requires.3 (omega arith) c.if-base-eq0.false

pub returns-then-base-eq0 : goal.returns-then-base-eq0
returns-then-base-eq0 c =
    let a = c.args in
    chord_none a.a (part a.a a.e a.s.now) a.base c.requires.3 c.if-base-eq0.true

pub overflow_mul-kind : goal.overflow_mul-kind
overflow_mul-kind c = omega (arith, (inside c).0)

pub overflow_add-x : goal.overflow_add-x
overflow_add-x c = omega (arith, (inside (goal.at.overflow_add-x c).After-struct_known-2-1).1)

pub overflow_sub-k : goal.overflow_sub-k
overflow_sub-k c = omega (arith, (inside (goal.at.overflow_sub-k c).After-struct_known-2-1).1)

pub overflow_cast-result : goal.overflow_cast-result
overflow_cast-result c = omega (arith, (inside (goal.at.overflow_cast-result c).After-struct_known-2-1).0)

pub returns-then-k-eq0 : goal.returns-then-k-eq0
returns-then-k-eq0 c =
    let a = c.args in
    let l = part_length a.s.now a.a a.e (omega arith) in
    omega (arith, chord_bare a.a (part a.a a.e a.s.now) a.base c.requires.3 c.if-base-eq0.false (omega arith))

pub returns-then-k-gt31 : goal.returns-then-k-gt31
returns-then-k-gt31 c =
    let a = c.args in
    let l = part_length a.s.now a.a a.e (omega arith) in
    omega (arith, chord_long a.a (part a.a a.e a.s.now) a.base c.requires.3 c.if-base-eq0.false (omega arith))

pub returns-then-has_slip : goal.returns-then-has_slip
returns-then-has_slip c =
    let a = c.args in
    let l = part_length a.s.now a.a a.e (omega arith) in
    let t = ap (any is_slip_byte) (part_drop a.s.now a.a a.e a.base.length) ∙ sym c.has_slip.ensures ∙ c.if-has_slip.true in
    chord_slip a.a (part a.a a.e a.s.now) a.base c.requires.3
    c.if-base-eq0.false (omega arith) t

pub overflow_add-result : goal.overflow_add-result
overflow_add-result c = let k = inside (goal.at.overflow_add-result c).After-struct_known-2-1 in omega arith

pub overflow_add-result-2 : goal.overflow_add-result-2
overflow_add-result-2 c = let k = inside (goal.at.overflow_add-result-2 c).After-struct_known-2-1 in omega arith

pub overflow_cast-result-2 : goal.overflow_cast-result-2
overflow_cast-result-2 c = let k = inside (goal.at.overflow_cast-result-2 c).After-struct_known-2-1 in omega arith

pub returns : goal.returns
returns c =
    let a = c.args in
    let l = part_length a.s.now a.a a.e (omega arith) in
    let t = ap (any is_slip_byte) (part_drop a.s.now a.a a.e a.base.length) ∙ sym c.has_slip.ensures ∙ c.if-has_slip.false in
    omega (
      arith,
      chord_extended a.a (part a.a a.e a.s.now) a.base c.requires.3 c.if-base-eq0.false
          (λ z. c.if-k-eq0.false (omega (arith, (inside (goal.at.returns c).After-struct_known-2-1).1))) (omega arith) t,
    )
