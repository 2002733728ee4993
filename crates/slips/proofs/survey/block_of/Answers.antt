-- Block by block: one that holds the line is still to come, or it is the one at hand.
use mathlib.Core.Path.{sym, ◌∙◌, subst}
use mathlib.Core.List.Memᴰ
use mathlib.Core.List.{List, Memᴰ}
use Rattle.songcode.specs.Answer.Lines.{Block}
use Rattle.sections.proofs.NextLaws.{blocks_start, blocks_over}
use Rattle.slips.proofs.BlockLaws.{last_block, block_before, block_later}
use Rattle.slips.proofs.survey.block_of.Goals as goal

pub loop-p-init : goal.loop-p-init
loop-p-init c =
    let t = c.next_block-p.ensures in
    let s = c.args.s.now in (
      t.number,
      t.counted,
      t.inside,
      λ q. sym t.same ∙ t.there q,
      λ b i h. subst (λ (bs : List Block). Memᴰ b bs) (blocks_start s ∙ t.same) i,
    )

pub returns-then-s-q : goal.returns-then-s-q
returns-then-s-q c =
    let s = c.args.s.now in
    let i = c.loop-p.invariant in
    let w = c.loop-p-test.true in
    let e = c.block_behind-q.ensures.4 in
    record {
      number = i.0;
      counted = i.1;
      inside = i.2;
      holds = λ b m h. (w, last_block s c.loop-p.p _ i.3 w e b (i.4 b m h) _ h c.if-s-q.true);
    }

pub returns-then-wanted-q : goal.returns-then-wanted-q
returns-then-wanted-q c =
    let s = c.args.s.now in
    let i = c.loop-p.invariant in
    let w = c.loop-p-test.true in
    let e = c.block_behind-q.ensures.4 in
    record {
      number = i.0;
      counted = i.1;
      inside = i.2;
      holds = λ b m h. (w, block_before s c.loop-p.p _ i.3 w e b (i.4 b m h) _ h c.if-wanted-q.true);
    }

pub loop-p-preserved : goal.loop-p-preserved
loop-p-preserved c =
    let s = c.args.s.now in
    let i = c.loop-p.invariant in
    let w = c.loop-p-test.true in
    let n = c.if-s-q.false in
    let e = c.block_behind-q.ensures in
    (e.0, e.1, e.3, e.4.opens, λ b m h. block_later s c.loop-p.p _ i.3 w e.4 b (i.4 b m h) _ h n c.if-wanted-q.false)

pub returns : goal.returns
returns c =
    let s = c.args.s.now in
    let i = c.loop-p.invariant in
    record {
      number = i.0;
      counted = i.1;
      inside = i.2;
      holds = λ b m h.
          absurd (Memᴰ.not-nil (subst (λ (bs : List Block). Memᴰ b bs) (blocks_over s c.loop-p.p.number c.loop-p.p.at c.loop-p-test.false)
          (i.4 b m h)));
    }
