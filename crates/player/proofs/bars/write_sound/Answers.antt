-- The head is stored in the table's first place, if it has one, and the rest of the table is filled.
use Rattle.player.proofs.BarLaws.{sound_nowhere, sound_rest}
use Rattle.std.proofs.Common.{◌<◌, ◌≤◌, length, arith}
use Rattle.std.proofs.lemmas.Bool.Decides.{nat_tests}
use Rattle.player.proofs.bars.write_sound.Goals as goal

pub returns-then-is_empty : goal.returns-then-is_empty
returns-then-is_empty c =
    let h : length c.args.bs.now ≤ 0 = grind (arith, nat_tests) in
    sound_nowhere _ _ h

pub returns : goal.returns
returns c =
    let h : 0 < length c.args.bs.now = grind (arith, nat_tests) in
    sound_rest _ _ _ _ h c.head_word.ensures (c.fill.ensures.after (λ y e. e))
