-- Nothing said has no words; what is said is a part of the text, whose bytes are the room demanded and whose tokens are laid as a line's.
use native.Mathlib.Omega.{arith}
use mathlib.Core.Path.{refl}
use Rattle.laying.proofs.LayingLaws.{said_inside, said_weight_lem, said_tokens_lem, nothing_said}
use Rattle.laying.proofs.laying.lay_said.Goals as goal

pub lex_line-requires : goal.lex_line-requires
lex_line-requires c =
    let inside = said_inside c.args.s.now c.in-Some.is c.requires.0 in
    let e = said_weight_lem c.args.s.now c.in-Some.is inside.1 in
    (inside.0, inside.1, omega arith, omega arith)

pub returns-in-Some : goal.returns-in-Some
returns-in-Some c =
    let e = said_tokens_lem c.args.s.now c.in-Some.is in record {
      held = rw e c.lex_line.ensures.held;
      fill = rw e c.lex_line.ensures.fill.0;
    }

pub returns-in-None : goal.returns-in-None
returns-in-None c =
    let e = nothing_said c.args.s.now c.in-None.is in record {
      held = rw e refl;
      fill = rw e (omega arith);
    }
