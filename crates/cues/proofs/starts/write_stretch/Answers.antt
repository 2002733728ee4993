-- Measure by measure: the starts written so far and those of the measures that are left are the starts of the section.
use mathlib.Core.Path.{refl, sym, ◌∙◌}
use native.Mathlib.Omega.{arith}
use Rattle.songcode.proofs.MemoryLaws.{wrote_start, wrote_end}
use Rattle.cues.proofs.StartLaws.{sum_next, starts_next, sum_over, starts_over}
use borrow.Author.Rules.{rules}
use Rattle.cues.proofs.starts.write_stretch.Goals as goal

pub loop-i-init : goal.loop-i-init
loop-i-init c = (search rules, search rules, refl, wrote_start _ _)

pub length_of-at-requires : goal.length_of-at-requires
length_of-at-requires c =
    (c.requires.bpm_bound (omega (arith, c.loop-i-test.true)), c.requires.measures_in_bounds.3)

pub overflow_add-at : goal.overflow_add-at
overflow_add-at c =
    record {
      fits = omega (
        arith,
        c.requires.measures_in_bounds.1,
        c.requires.measures_in_bounds.2,
        c.length_of-at.ensures.1,
      );
    }

pub loop-i-preserved : goal.loop-i-preserved
loop-i-preserved c =
    let l = c.loop-i in
    let a = c.args in
    let t = c.loop-i-test.true in
    let e = c.length_of-at.ensures.0 in
    let b = c.length_of-at.ensures.1 in (
      search rules,
      omega (arith, b, l.invariant.1),
      rw e (sym (sum_next a.bpm l.i l.at a.measures.now t) ∙ l.invariant.2),
      rw e (starts_next a.bpm l.i l.at a.measures.now t _ l.cues _ l.invariant.3),
    )

pub returns : goal.returns
returns c =
    let l = c.loop-i in
    let a = c.args in
    let e = c.loop-i-test.false in record {
      value = (sym (sum_over a.bpm l.i l.at a.measures.now e) ∙ l.invariant.2, omega (arith, l.invariant.1));
      cues_after = wrote_end _ l.i l.cues _ (starts_over a.bpm l.i l.at a.measures.now e _ l.cues _ l.invariant.3);
    }
