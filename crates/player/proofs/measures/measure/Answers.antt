-- The positions are counted, then sounded.
use Rattle.std.proofs.Common.{◌≡◌, ◌-◌, ◌≤◌, ◌∙◌, min, length, take, ap, sym, rules, length-drop, length-take, length-take-le}
use Rattle.player.proofs.SignLaws.{front_text}
use Rattle.player.proofs.LookLaws.{few_beats, one_done}
use Rattle.player.specs.Signs.{positions_of, sounding_of}
use Rattle.player.specs.Page.{shown}
use Rattle.player.proofs.measures.measure.Goals as goal
use Rattle.player.proofs.measures.measure.Goals.{After-look-seen}

front : (c : After-look-seen) → (c.look-seen.result.count ≤ length c.words-text.result.now)
    × (take c.look-seen.result.count c.words-text.result.now ≡ positions_of c.words-text.result.now)
front c = front_text c.words-text.result.now c.look-seen.result.count c.look-seen.ensures.count

pub slice_bounds-bar-end : goal.slice_bounds-bar-end
slice_bounds-bar-end c =
    let h = (front (goal.at.slice_bounds-bar-end c).After-look-seen).0 in
    sym (length-take-le c.look-seen.result.count c.words-text.result.now h)

pub sounded-requires : goal.sounded-requires
sounded-requires c =
    let h = (front (goal.at.sounded-requires c).After-look-seen).1 in (
      c.requires.0,
      record {
        sounding = c.look-seen.ensures.sounding ∙ ap sounding_of (sym h);
        few = few_beats c.args.s.n c.look-seen.result.count c.look-seen.result.sounding c.share_of.result (positions_of c.words-text.result.now)
            c.look-seen.ensures.count c.look-seen.ensures.sounding c.share_of.ensures c.requires.1;
      },
    )

pub overflow_add-result : goal.overflow_add-result
overflow_add-result c =
    let h = (front (goal.at.overflow_add-result c).After-look-seen).0 in
    let a = c.args in
    let l : length c.words-text.result.now ≡ min a.s.to (length a.s.words.now) - a.from.at =
    ap length c.words-text.ensures ∙ length-drop a.from.at (take a.s.to a.s.words.now) ∙ ap (λ n. n - a.from.at) (length-take a.s.to a.s.words.now) in
    search rules

pub returns-clause-walk : goal.returns-clause-walk
returns-clause-walk c =
    let a = c.args in
    let seen = c.look-seen in
    let h = (front (goal.at.returns-clause-walk c).After-look-seen).1 in
    one_done a.s.n a.s.words.now c.words-text.result.now _ a.s.to a.from.at a.from.last.word seen.result.count c.share_of.result seen.result.last.word
    (shown a.page.now) _ c.words-text.ensures seen.ensures.count h c.share_of.ensures seen.ensures.last c.sounded.ensures.played
