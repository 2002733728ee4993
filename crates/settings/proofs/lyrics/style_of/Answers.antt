-- Text between two marks of three bytes, or none: each branch is one case of the definition.
use mathlib.Core.Path.{sym, ◌∙◌}
use native.Mathlib.Omega.{arith}
use mathlib.Core.List.{[], ◌∷◌}
use Rattle.songcode.specs.Bytes.{placed, ascii}
use Rattle.text.specs.Spans.{part}
use Rattle.settings.proofs.StyleLaws.{bracketed_placeless, marked_room, between_part, style_one, style_two, style_none}
use Rattle.settings.proofs.lyrics.style_of.Goals as goal

pub overflow_sub-result : goal.overflow_sub-result
overflow_sub-result c = let a = c.args in
    omega (arith, marked_room (42 ∷ 42 ∷ 42 ∷ []) a.s.now a.a a.e (omega arith) (omega arith) (sym c.is_marked.ensures ∙ c.if-is_marked.true))

pub returns-then-is_marked : goal.returns-then-is_marked
unfolding ascii
returns-then-is_marked c = let a = c.args in
    let m = sym c.is_marked.ensures ∙ c.if-is_marked.true in
    let k = marked_room (42 ∷ 42 ∷ 42 ∷ []) a.s.now a.a a.e (omega arith) (omega arith) m in
    let t = part a.a a.e a.s.now in (
      style_one (placed a.a t) (bracketed_placeless (42 ∷ 42 ∷ 42 ∷ []) a.a t ∙ m)
          ∙ rw (between_part a.s.now a.a a.e k (omega arith)),
      omega arith,
      omega arith,
      omega arith,
      omega arith,
    )

pub overflow_sub-result-then-is_marked-2 : goal.overflow_sub-result-then-is_marked-2
overflow_sub-result-then-is_marked-2 c = let a = c.args in
    omega (arith, marked_room (58 ∷ 58 ∷ 58 ∷ []) a.s.now a.a a.e (omega arith) (omega arith) (sym c.is_marked-2.ensures ∙ c.if-is_marked-2.true))

pub returns-then-is_marked-2 : goal.returns-then-is_marked-2
unfolding ascii
returns-then-is_marked-2 c = let a = c.args in
    let n = sym c.is_marked.ensures ∙ c.if-is_marked.false in
    let m = sym c.is_marked-2.ensures ∙ c.if-is_marked-2.true in
    let k = marked_room (58 ∷ 58 ∷ 58 ∷ []) a.s.now a.a a.e (omega arith) (omega arith) m in
    let t = part a.a a.e a.s.now in (
      style_two (placed a.a t) (bracketed_placeless (42 ∷ 42 ∷ 42 ∷ []) a.a t ∙ n) (bracketed_placeless (58 ∷ 58 ∷ 58 ∷ []) a.a t ∙ m)
          ∙ rw (between_part a.s.now a.a a.e k (omega arith)),
      omega arith,
      omega arith,
      omega arith,
      omega arith,
    )

pub returns : goal.returns
unfolding ascii
returns c = let a = c.args in
    let n = sym c.is_marked.ensures ∙ c.if-is_marked.false in
    let m = sym c.is_marked-2.ensures ∙ c.if-is_marked-2.false in
    let t = part a.a a.e a.s.now in (
      style_none (placed a.a t) (bracketed_placeless (42 ∷ 42 ∷ 42 ∷ []) a.a t ∙ n) (bracketed_placeless (58 ∷ 58 ∷ 58 ∷ []) a.a t ∙ m),
      omega
          arith,
      omega arith,
      omega arith,
      omega arith,
    )
