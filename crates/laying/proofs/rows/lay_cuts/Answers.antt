-- No word, or two.
use mathlib.Core.Path.{◌≡◌, refl, sym, ◌∙◌}
use mathlib.Core.Bool.{true, false}
use native.Mathlib.Omega.{arith}
use lib.ListN.{length-set}
use borrow.Author.Tests.{not-true, not-false}
use Rattle.songcode.proofs.MemoryLaws.{sets_two}
use Rattle.score.specs.Sections.{cuts_by}
use Rattle.laying.specs.Rows.{has_cut, cuts_said}
use Rattle.laying.proofs.rows.lay_cuts.Goals as goal

pub returns-then-not-has_cut : goal.returns-then-not-has_cut
unfolding cuts_said cuts_by
returns-then-not-has_cut c =
    let a = c.args in
    let none : has_cut a.m ≡ false = sym c.has_cut.ensures ∙ not-true _ c.if-not-has_cut.true-raw in record {
      held = rw none refl;
      fill = rw none (omega arith);
    }

pub bounds-words-n-2 : goal.bounds-words-n-2
bounds-words-n-2 c =
    let p = c.requires in
    let l = length-set c.args.words.now c.args.n c.cut_word-first.result in
    omega arith

pub returns : goal.returns
unfolding cuts_said cuts_by
returns c =
    let a = c.args in
    let p = c.requires in
    let there : has_cut a.m ≡ true = sym c.has_cut.ensures ∙ not-false _ c.if-not-has_cut.false-raw in record {
      held = rw (there, sym c.cut_word-first.ensures, sym c.cut_word-second.ensures)
          (sets_two a.n c.cut_word-first.result c.cut_word-second.result a.words.now);
      fill = rw there (omega arith);
    }
