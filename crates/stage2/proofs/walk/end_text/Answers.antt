-- A turn that is not 2 or more is one below 2, so 9 is given where the model gives it; the lesser of it and the closing counts.
use Rattle.stage2.proofs.BlockReturns.{text_ended}
use Rattle.stage2.proofs.walk.end_text.Goals as goal

pub returns : goal.returns
returns c = text_ended c.args.c c.none_if-nine.result c.close_block-closing.result
    c.min.result c.none_if-nine.ensures c.close_block-closing.ensures c.min.ensures
