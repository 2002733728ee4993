-- The words of the lines passed are laid, those of the lines from here on fit behind them.
use Prim.Native.Nat.{ℕ, ◌+◌, ◌-◌, ◌*◌, ◌^◌}
use mathlib.Core.Path.{◌≡◌, refl, ap, ◌∙◌, subst}
use mathlib.Core.List.{[], ◌∷◌}
use native.Mathlib.Omega.{arith}
use lib.ListN.{length}
use lib.Seq.{length-sets}
use Rattle.sections.specs.Runs.{lines_of}
use Rattle.tokens.specs.TokenWords.{token_words}
use Rattle.tokens.specs.Lexing.{tokens_from}
use Rattle.tokens.proofs.KeptLaws.{found_stop}
use Rattle.laying.specs.Laying.{run_tokens}
use Rattle.laying.proofs.KeptRowLaws.{kept_on}
use Rattle.laying.proofs.LayingLaws.{Lays, first_line_lem, lays_none, lays_over, lays_end, lays_room, lays_next, run_laid}
use Rattle.laying.proofs.laying.lay_run.Goals as goal

pub returns-then-run-eq0 : goal.returns-then-run-eq0
unfolding lines_of run_tokens token_words
returns-then-run-eq0 c = let e = c.if-run-eq0.true in
    let a = c.args in record {
      held = rw e refl;
      fill = rw e (omega arith);
    }

pub lay_line-fill-requires : goal.lay_line-fill-requires
lay_line-fill-requires c =
    let g = first_line_lem c.args.run c.line_at-first.ensures c.if-run-eq0.false c.requires.0.inside in
    let r = g.room in
    let over = c.line_at-first.ensures.over in
    let next = c.line_at-first.ensures.next in
    let inside = c.requires.0.inside in record {
      start_le_stop = (c.line_at-first.ensures.stop, omega arith, omega arith, omega arith);
      kept = (found_stop c.args.s.now c.line_at-first.ensures, c.requires.3);
    }

pub loop-init : goal.loop-init
loop-init c =
    let w = c.line_at-first.result in
    let counted = c.requires.0.counted in
    let inside = c.requires.0.inside in
    let over = c.line_at-first.ensures.over in
    let onward = c.line_at-first.ensures.onward in
    let g = first_line_lem c.args.run c.line_at-first.ensures c.if-run-eq0.false inside in
    let r = g.room in
    let new = token_words (tokens_from w.start w.stop c.args.s.now) in
    let l : length c.lay_line-fill.new.words ≡ length c.args.words.now = ap length c.lay_line-fill.ensures.held ∙ length-sets c.args.words.now c.args.n new in (
      omega arith,
      omega arith,
      lays_none c.args.s.now c.lay_line-fill.new.words c.lay_line-fill.result _ _ _ (omega arith),
      rw c.lay_line-fill.ensures.held (kept_on c.args.n new c.lay_line-fill.ensures.fill.0 (omega arith) c.requires.3),
    )

pub returns-then-at-s : goal.returns-then-at-s
returns-then-at-s c =
    let v = c.loop in
    let i = v.invariant.2 in
    let inside = c.requires.0.inside in
    let g = first_line_lem c.args.run c.line_at-first.ensures c.if-run-eq0.false inside in
    let r = g.room in
    let said = run_laid c.args.s.now c.args.run _ c.args.n c.args.words.now c.lay_line-fill.new.words v.words c.lay_line-fill.result v.fill
    v.line v.at (c.args.run.lines - v.counter) g c.lay_line-fill.ensures.held c.lay_line-fill.ensures.fill.0 i
    (lays_over _ _ _ _ _ _ i (omega arith)) in record { held = said.0; fill = said.1 }

pub end_line-begun-requires : goal.end_line-begun-requires
end_line-begun-requires c =
    let v = c.loop in
    let r = lays_room _ _ _ _ _ _ v.invariant.2 c.line_at-found.ensures (omega arith) (omega arith) in
    let same = v.invariant.2.same in
    omega arith

pub lay_line-fill-requires-in-loop : goal.lay_line-fill-requires-in-loop
lay_line-fill-requires-in-loop c =
    let v = c.loop in
    let over = c.line_at-found.ensures.over in
    let next = c.line_at-found.ensures.next in
    let same = v.invariant.2.same in
    let r = lays_room _ _ _ _ _ _ v.invariant.2 c.line_at-found.ensures (omega arith)
    (omega arith) in
    let l : length c.end_line-begun.new.words ≡ length v.words = ap length c.end_line-begun.ensures.held
    ∙ length-sets v.words v.fill (58 * 2 ^ 26 ∷ []) in record {
      start_le_stop = (c.line_at-found.ensures.stop, omega arith, omega arith, omega arith);
      kept = (
        found_stop c.args.s.now c.line_at-found.ensures,
        rw c.end_line-begun.ensures.held (kept_on v.fill (58 * 2 ^ 26 ∷ []) c.end_line-begun.ensures.fill (omega arith) v.invariant.3),
      );
    }

pub overflow_add-line-in-loop : goal.overflow_add-line-in-loop
overflow_add-line-in-loop c =
    let v = c.loop in
    let small = c.requires.1 in
    let line = v.invariant.0 in
    let at = v.invariant.1 in
    omega arith

pub loop-preserved : goal.loop-preserved
loop-preserved c =
    let v = c.loop in
    let w = c.line_at-found.result in
    let over = c.line_at-found.ensures.over in
    let onward = c.line_at-found.ensures.onward in
    let same = v.invariant.2.same in
    let r = lays_room _ _ _ _ _ _ v.invariant.2 c.line_at-found.ensures (omega arith)
    (omega arith) in
    let new = token_words (tokens_from w.start w.stop c.args.s.now) in
    let ended = kept_on v.fill (58 * 2 ^ 26 ∷ []) c.end_line-begun.ensures.fill (omega arith) v.invariant.3 in
    let l = length-sets v.words v.fill (58 * 2 ^ 26 ∷ []) in
    let one : c.args.run.lines - v.counter - 1 ≡ c.args.run.lines - (v.counter + 1) = omega arith in (
      omega arith,
      omega arith,
      subst (λ (k : ℕ). Lays c.args.s.now c.lay_line-fill.new.words c.lay_line-fill.result (c.args.run.number + 1) c.line_at-first.result.next
          (c.args.run.lines - 1) c.lay_line-fill-in-loop.new.words c.lay_line-fill-in-loop.result (v.line + 1) w.next k) one
          (lays_next _ _ _ _ _ _ v.invariant.2 c.line_at-found.ensures (omega arith) (omega arith) c.end_line-begun.ensures.held
          c.end_line-begun.ensures.fill c.lay_line-fill-in-loop.ensures.held
          c.lay_line-fill-in-loop.ensures.fill.0 c.lay_line-fill-in-loop.ensures.fill.1),
      rw (c.lay_line-fill-in-loop.ensures.held, c.end_line-begun.ensures.held)
          (kept_on c.end_line-begun.result new c.lay_line-fill-in-loop.ensures.fill.0 (omega arith) ended),
    )

pub returns-after-loop : goal.returns-after-loop
returns-after-loop c =
    let v = c.loop in
    let i = v.invariant.2 in
    let inside = c.requires.0.inside in
    let g = first_line_lem c.args.run c.line_at-first.ensures c.if-run-eq0.false inside in
    let r = g.room in
    let said = run_laid c.args.s.now c.args.run _ c.args.n c.args.words.now c.lay_line-fill.new.words v.words c.lay_line-fill.result v.fill
    v.line v.at (c.args.run.lines - v.counter) g c.lay_line-fill.ensures.held c.lay_line-fill.ensures.fill.0 i
    (lays_end _ _ _ _ _ _ i (omega arith)) in record { held = said.0; fill = said.1 }
