-- Each range of first bytes is computed through: the forms announce the same all over it.
use mathlib.Core.Path.{refl, sym, ◌∙◌}
use native.Mathlib.Omega.{arith}
use Rattle.text.specs.Leads.{lead_of}
use Rattle.text.proofs.TestLaws.{up_from, same_over_range}
use Rattle.text.proofs.characters.lead_of.Goals as goal

pub returns-in-224 : goal.returns-in-224
unfolding lead_of
returns-in-224 c = rw c.in-224.is c.announce.ensures

pub returns-in-237 : goal.returns-in-237
unfolding lead_of
returns-in-237 c = rw c.in-237.is c.announce-in-237.ensures

pub returns-in-240 : goal.returns-in-240
unfolding lead_of
returns-in-240 c = rw c.in-240.is c.announce-in-240.ensures

pub returns-in-244 : goal.returns-in-244
unfolding lead_of
returns-in-244 c = rw c.in-244.is c.announce-in-244.ensures

pub returns-in-1-to-127 : goal.returns-in-1-to-127
unfolding lead_of up_from
returns-in-1-to-127 c = c.announce-in-1-to-127.ensures ∙ sym (same_over_range lead_of _ 0x01 127 refl c.args.b (omega arith) (omega arith))

pub returns-in-194-to-223 : goal.returns-in-194-to-223
unfolding lead_of up_from
returns-in-194-to-223 c = c.announce-in-194-to-223.ensures ∙ sym (same_over_range lead_of _ 0xC2 30 refl c.args.b (omega arith) (omega arith))

pub returns-in-225-to-236 : goal.returns-in-225-to-236
unfolding lead_of up_from
returns-in-225-to-236 c = c.announce-in-225-to-236.ensures ∙ sym (same_over_range lead_of _ 0xE1 12 refl c.args.b (omega arith) (omega arith))

pub returns-in-238-to-239 : goal.returns-in-238-to-239
unfolding lead_of up_from
returns-in-238-to-239 c = c.announce-in-238-to-239.ensures ∙ sym (same_over_range lead_of _ 0xEE 2 refl c.args.b (omega arith) (omega arith))

pub returns-in-241-to-243 : goal.returns-in-241-to-243
unfolding lead_of up_from
returns-in-241-to-243 c = c.announce-in-241-to-243.ensures ∙ sym (same_over_range lead_of _ 0xF1 3 refl c.args.b (omega arith) (omega arith))

pub returns-in_default : goal.returns-in_default
unfolding lead_of up_from
returns-in_default c = sym (same_over_range lead_of _ 0x00 1 refl c.args.b (omega arith) (omega arith))

pub returns-in_default-2 : goal.returns-in_default-2
unfolding lead_of up_from
returns-in_default-2 c = sym (same_over_range lead_of _ 0x80 66 refl c.args.b (omega arith) (omega arith))

pub returns-in_default-3 : goal.returns-in_default-3
unfolding lead_of up_from
returns-in_default-3 c = sym (same_over_range lead_of _ 0xF5 11 refl c.args.b (omega arith) (omega arith))
