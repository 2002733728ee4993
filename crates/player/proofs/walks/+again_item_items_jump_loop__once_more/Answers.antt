-- Six functions that call each other: a level of items, an item, a reference, and a loop with its further passes.
use Rattle.player.proofs.WalkLaws.{fine_end, end_page, stop_test, rows_stop, rows_next, rows_end, level_none, level_more, item_loop}
use Rattle.player.proofs.WalkLaws.{item_refer, item_separator, item_one, refer_done, loop_done, loop_next, loop_over, loop_early, item_onward}
use Rattle.player.proofs.WalkLaws.{level_onward, end_onward}
use Rattle.player.proofs.SignLaws.{stop_inside}
use Rattle.player.proofs.SectionLaws.{fine_rounds}
use Rattle.player.proofs.AgainLaws.{skipped_again, skipped_once, took_onward, copied_again}
use Rattle.player.specs.Walks.{Read, finish, item_of, level}
use Rattle.player.specs.Page.{shown}
use Rattle.std.proofs.Common.{◌+◌, ◌-◌, refl, ap, arith, rules}
use Rattle.player.proofs.walks.+again_item_items_jump_loop__once_more.Goals as goal

pub again-returns-then-skips-clause-played : goal.again-returns-then-skips-clause-played
again-returns-then-skips-clause-played t c =
    let a = c.args in
    let r = level a.s.depth a.s.n a.s.words.now a.s.to a.start.at a.start.last.word in
    let g = a.page.now in
    skipped_again r.row a.before g.pen _ a.k g.measures.now g.beats.now c.requires.2 (c.skips.ensures c.if-skips.true) c.skipped-page.ensures

pub again-returns-then-page-eq0-clause-played : goal.again-returns-then-page-eq0-clause-played
again-returns-then-page-eq0-clause-played t c =
    let a = c.args in
    let r = level a.s.depth a.s.n a.s.words.now a.s.to a.start.at a.start.last.word in
    let l = c.loop-pass in
    loop_early r.row _ (shown l.page) _ c.if-page-eq0.true l.invariant.4

pub again-loop-pass-preserved : goal.again-loop-pass-preserved
again-loop-pass-preserved t c =
    let a = c.args in
    let r = level a.s.depth a.s.n a.s.words.now a.s.to a.start.at a.start.last.word in
    let l = c.loop-pass in
    let g = shown l.page in
    let e = c.once_more.ensures.played in (
      omega (arith, c.loop-pass-test.true),
      fine_rounds r.row g _ _ _ e l.invariant.1,
      search rules,
      record { ms_before = g.ms; bs_before = g.bs; pass = e },
      loop_next r.row a.k l._pass g _ _ c.loop-pass-test.true e l.invariant.4,
    )

pub again-returns-clause-played : goal.again-returns-clause-played
again-returns-clause-played t c =
    let a = c.args in
    let r = level a.s.depth a.s.n a.s.words.now a.s.to a.start.at a.start.last.word in
    let l = c.loop-pass in
    loop_over r.row a.k l._pass (shown l.page) _ c.loop-pass-test.false l.invariant.4

pub item-returns-then-k-eq-OPENS-clause-walk : goal.item-returns-then-k-eq-OPENS-clause-walk
item-returns-then-k-eq-OPENS-clause-walk t c =
    let a = c.args in
    let ws = a.s.words.now in
    let g = shown a.page.now in
    item_loop (level a.s.depth a.s.n ws) a.s.n ws a.s.to a.from.at a.from.last.word _ _ _ g c.word_at-w.ensures c.kind-k.ensures
    c.if-k-eq-OPENS.true c.loop_.ensures.walk

pub item-returns-then-k-eq-REFERENCE-clause-walk : goal.item-returns-then-k-eq-REFERENCE-clause-walk
item-returns-then-k-eq-REFERENCE-clause-walk t c =
    let a = c.args in
    let ws = a.s.words.now in
    let g = shown a.page.now in
    item_refer (level a.s.depth a.s.n ws) a.s.n ws a.s.to a.from.at a.from.last.word _ _ _ _ g c.word_at-w.ensures c.kind-k.ensures
    c.if-k-eq-OPENS.false c.if-k-eq-REFERENCE.true c.number.ensures.0 c.jump.ensures.walk

pub item-returns-then-is_separator-clause-walk : goal.item-returns-then-is_separator-clause-walk
item-returns-then-is_separator-clause-walk t c =
    let a = c.args in
    let ws = a.s.words.now in
    let g = shown a.page.now in
    item_separator (level a.s.depth a.s.n ws) a.s.n ws a.s.to a.from.at a.from.last.word _ _ _ g c.word_at-w.ensures c.kind-k.ensures
    c.if-k-eq-OPENS.false c.if-k-eq-REFERENCE.false c.is_separator.ensures c.if-is_separator.true

pub item-returns-clause-walk : goal.item-returns-clause-walk
item-returns-clause-walk t c =
    let a = c.args in
    let ws = a.s.words.now in
    let g = shown a.page.now in
    item_one (level a.s.depth a.s.n ws) a.s.n ws a.s.to a.from.at a.from.last.word _ _ _ _ g c.word_at-w.ensures c.kind-k.ensures
    c.if-k-eq-OPENS.false c.if-k-eq-REFERENCE.false c.is_separator.ensures c.if-is_separator.false c.measure.ensures.walk

pub items-returns-then-s-eq0-clause-walk : goal.items-returns-then-s-eq0-clause-walk
items-returns-then-s-eq0-clause-walk t c =
    let a = c.args in
    let g = shown a.page.now in
    level_none a.s.depth a.s.n a.s.words.now a.s.to a.from.at a.from.last.word g c.if-s-eq0.true

pub items-loop-w-init : goal.items-loop-w-init
items-loop-w-init t c =
    let a = c.args in
    let g = shown a.page.now in (
      a.s.to,
      omega arith,
      c.requires.0,
      record { measures = refl; beats = refl },
      ap (λ (r : Read). finish r g) (level_more a.s.depth a.s.n a.s.words.now a.s.to a.from.at a.from.last.word c.if-s-eq0.false),
    )

pub items-returns-then-is_stop-clause-walk : goal.items-returns-then-is_stop-clause-walk
items-returns-then-is_stop-clause-walk t c =
    let a = c.args in
    let ws = a.s.words.now in
    let l = c.loop-w in
    let g = shown l.page in
    let ended = stop_test ws a.s.to l.w.at _ _ c.is_stop.result _ c.word_at.ensures c.kind.ensures c.is_stop.ensures c.if-is_stop.true in
    rows_end _ l.w.at l.w.last.word g _ (rows_stop (level (a.s.depth - 1) a.s.n ws) a.s.n ws l.invariant.0 a.s.to l.w.at l.w.last.word ended)
    l.invariant.4

pub items-item-w-requires : goal.items-item-w-requires
items-item-w-requires t c =
    let a = c.args in
    let at = c.loop-w.w.at in
    let on = stop_test a.s.words.now a.s.to at _ _ c.is_stop.result _ c.word_at.ensures c.kind.ensures c.is_stop.ensures
    c.if-is_stop.false in
    let h = stop_inside a.s.words.now a.s.to at on in
    search rules

pub items-loop-w-smaller : goal.items-loop-w-smaller
items-loop-w-smaller t c =
    let a = c.args in
    let ws = a.s.words.now in
    let l = c.loop-w in
    let g = shown l.page in
    let inner = level (a.s.depth - 1) a.s.n ws in
    let r = item_of inner a.s.n ws a.s.to l.w.at l.w.last.word in
    let on = stop_test ws a.s.to l.w.at _ _ c.is_stop.result _ c.word_at.ensures c.kind.ensures c.is_stop.ensures c.if-is_stop.false in
    let h = stop_inside ws a.s.to l.w.at on in
    let e = end_onward (l.w.at + 1) _ r g c.item-w.ensures.walk
    (item_onward inner a.s.n ws a.s.to l.w.at l.w.last.word (level_onward (a.s.depth - 1) a.s.n ws) on) in
    omega (arith, e, h)

pub items-loop-w-preserved : goal.items-loop-w-preserved
items-loop-w-preserved t c =
    let a = c.args in
    let ws = a.s.words.now in
    let l = c.loop-w in
    let g = shown l.page in
    let inner = level (a.s.depth - 1) a.s.n ws in
    let r = item_of inner a.s.n ws a.s.to l.w.at l.w.last.word in
    let done = c.item-w.ensures in
    let on = stop_test ws a.s.to l.w.at _ _ c.is_stop.result _ c.word_at.ensures c.kind.ensures c.is_stop.ensures c.if-is_stop.false in
    let h = stop_inside ws a.s.to l.w.at on in
    let e = end_onward (l.w.at + 1) _ r g done.walk
    (item_onward inner a.s.n ws a.s.to l.w.at l.w.last.word (level_onward (a.s.depth - 1) a.s.n ws) on) in (
      l.invariant.0 - 1,
      omega (arith, e, h, l.invariant.1),
      fine_end _ r g done.walk l.invariant.2,
      search rules,
      rows_next inner a.s.n ws l.invariant.0 a.s.to l.w.at l.w.last.word g _ _ (omega (arith, h, l.invariant.1)) on done.walk l.invariant.4,
    )

pub jump-returns-clause-walk : goal.jump-returns-clause-walk
jump-returns-clause-walk t c =
    let a = c.args in
    let ws = a.s.words.now in
    let g = shown a.page.now in
    refer_done (level a.s.depth a.s.n ws) a.s.n ws a.x a.from.at a.from.last.word _ _ g c.stretch_of-text.ensures c.items-w.ensures.walk

pub loop_-again-requires : goal.loop_-again-requires
loop_-again-requires t c =
    let a = c.args in
    let g = shown a.page.now in
    let r = level a.s.depth a.s.n a.s.words.now a.s.to (a.from.at + 1) a.from.last.word in
    let e = c.items-w.ensures.walk in (
      omega arith,
      (
        fine_end _ r g e c.requires.0,
        record { meter = c.requires.1.meter; levels = c.requires.1.levels },
        record { ms_before = g.ms; bs_before = g.bs; pass = end_page _ r g e },
      ),
    )

pub loop_-returns-clause-walk : goal.loop_-returns-clause-walk
loop_-returns-clause-walk t c =
    let a = c.args in
    let ws = a.s.words.now in
    let g = shown a.page.now in
    loop_done (level a.s.depth a.s.n ws) a.s.n ws a.s.to (a.from.at + 1) a.from.last.word _ _ _ g _ c.items-w.ensures.walk c.passes.ensures.0
    c.behind.ensures.0 c.again.ensures.played

pub once_more-returns-then-skips-clause-played : goal.once_more-returns-then-skips-clause-played
once_more-returns-then-skips-clause-played t c =
    let a = c.args in
    let r = level a.s.depth a.s.n a.s.words.now a.s.to a.start.at a.start.last.word in
    let g = a.page.now in
    skipped_once r.row a.before g.pen _ g.measures.now g.beats.now c.requires.2 (c.skips.ensures c.if-skips.true) c.skipped-page.ensures

pub once_more-copied-requires : goal.once_more-copied-requires
once_more-copied-requires t c =
    let a = c.args in
    let r = level a.s.depth a.s.n a.s.words.now a.s.to a.start.at a.start.last.word in
    let g = a.page.now in
    let o = took_onward r.row a.before g.pen g.measures.now g.beats.now c.requires.2 in
    (c.requires.0, c.copies.ensures c.if-copies.true, o.0, o.1)

pub once_more-returns-then-copies-clause-played : goal.once_more-returns-then-copies-clause-played
once_more-returns-then-copies-clause-played t c =
    let a = c.args in
    let r = level a.s.depth a.s.n a.s.words.now a.s.to a.start.at a.start.last.word in
    let g = a.page.now in
    copied_again r.row a.before g.pen _ g.measures.now g.beats.now _ _ c.requires.0 c.requires.2 (c.copies.ensures c.if-copies.true)
    c.copied.ensures.pen c.copied.ensures.measures c.copied.ensures.beats

pub once_more-returns-else-copies-clause-played : goal.once_more-returns-else-copies-clause-played
once_more-returns-else-copies-clause-played t c =
    let a = c.args in
    let r = level a.s.depth a.s.n a.s.words.now a.s.to a.start.at a.start.last.word in
    end_page _ r (shown a.page.now) c.items.ensures.walk
