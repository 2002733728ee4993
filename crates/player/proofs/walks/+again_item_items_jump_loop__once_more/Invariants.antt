-- Five steps for a level of depth, in the order in which the functions call each other there.
use Rattle.std.proofs.Common.{◌≡◌, ◌+◌, ◌-◌, ◌*◌, ◌≤◌, ℕ}
use Rattle.songcode.specs.Lists.{times}
use Rattle.player.specs.Page.{Fine, SameTables, play, shown}
use Rattle.player.specs.Again.{Took}
use Rattle.player.specs.Walks.{finish, rows_by, level, level_from}
use Rattle.player.proofs.walks.+again_item_items_jump_loop__once_more.Given as goal

abbrev pub decreases-again : goal.decreases-again
decreases-again l = 5 * l.s.depth + 2

abbrev pub decreases-item : goal.decreases-item
decreases-item l = 5 * l.s.depth + 4

abbrev pub decreases-items : goal.decreases-items
decreases-items l = 5 * l.s.depth

abbrev pub decreases-jump : goal.decreases-jump
decreases-jump l = 5 * l.s.depth + 3

abbrev pub decreases-loop_ : goal.decreases-loop_
decreases-loop_ l = 5 * l.s.depth + 3

abbrev pub decreases-once_more : goal.decreases-once_more
decreases-once_more l = 5 * l.s.depth + 1

abbrev pub invariant-again-loop-pass : goal.invariant-again-loop-pass
invariant-again-loop-pass l =
    (l._pass ≤ l.k) × Fine l.page.pen × SameTables l.initial.page l.page
    × Took (level_from l.s l.start).row l.last (shown l.page)
    × (play (times (l.k - l._pass) (level_from l.s l.start).row) (shown l.page)
    ≡ play (times l.k (level_from l.s l.start).row) (shown l.initial.page))

abbrev pub invariant-items-loop-w : goal.invariant-items-loop-w
invariant-items-loop-w l =
    (f : ℕ) × (l.s.to ≤ l.w.at + f) × Fine l.page.pen × SameTables l.initial.page l.page
    × (finish (rows_by (level (l.s.depth - 1) l.s.n l.s.words.now) l.s.n l.s.words.now f l.s.to l.w.at l.w.last.word) (shown l.page)
    ≡ finish (level_from l.s l.initial.w) (shown l.initial.page))

abbrev pub decreases-items-loop-w : goal.decreases-items-loop-w
decreases-items-loop-w l = l.s.to - l.w.at
