-- Modifier by modifier: repeats and cuts are the same wherever they stand; a lead-in or tail is read in place.
use Rattle.stage2.proofs.ModifierReturns.{repeat_fine, cut_start_fine, cut_end_fine, before_fine, after_fine}
use mathlib.Core.Logic.{inl, inr}
use Rattle.stage2.proofs.modifiers.setting_fine.Goals as goal

pub returns-in-Repeat : goal.returns-in-Repeat
returns-in-Repeat c = let q = c.args in
    repeat_fine q.l.number q.s.now q.l.start q.l.stop c.setting_start-q.result q.m c.setting_start-q.ensures.0
    c.is_some.result c.repeat_in.result c.in-Repeat.is c.repeat_in.ensures
    c.is_some.ensures

pub returns-in-CutStart : goal.returns-in-CutStart
returns-in-CutStart c = let q = c.args in
    elim c.in-CutStart.is [
      | inl e ↦ cut_start_fine q.l.number q.s.now q.l.start q.l.stop c.setting_start-q.result q.m c.setting_start-q.ensures.0
          c.is_some-in-CutStart.result c.cut_in.result e c.cut_in.ensures.0 c.is_some-in-CutStart.ensures
      | inr e ↦ cut_end_fine q.l.number q.s.now q.l.start q.l.stop c.setting_start-q.result q.m c.setting_start-q.ensures.0
          c.is_some-in-CutStart.result c.cut_in.result e c.cut_in.ensures.0 c.is_some-in-CutStart.ensures
    ]

pub returns-in-Before : goal.returns-in-Before
returns-in-Before c = let q = c.args in
    elim c.in-Before.is [
      | inl e ↦ before_fine q.l.number q.s.now q.l.start q.l.stop c.setting_start-q.result q.m c.setting_start-q.ensures.0
          c.side_fine.result e c.side_fine.ensures
      | inr e ↦ after_fine q.l.number q.s.now q.l.start q.l.stop c.setting_start-q.result q.m c.setting_start-q.ensures.0
          c.side_fine.result e c.side_fine.ensures
    ]
