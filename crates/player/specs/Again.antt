-- When the passes of a row can be done again without reading it: they are passed over, or written whole.
use Rattle.std.specs.Prelude.{◌≡◌, ℕ, ◌+◌, ◌-◌, ◌*◌, ◌%◌, ◌^◌, ◌<◌, ◌≤◌, List, map, take, drop}
use Rattle.std.proofs.lemmas.List.Edits.{sets}
use Rattle.player.specs.declared.pens.Pen.{Pen}
use Rattle.player.specs.Page.{Page, play, page}

-- A row took the pen from p to where it is on the page, whose tables it left so.
pub record Took (row : List (List ℕ)) (p : Pen) (g : Page) : Type 0 where
  pub ms_before : List ℕ
  pub bs_before : List ℕ
  pub pass : g ≡ play row (page p ms_before bs_before)

-- The pass from p to q ended before the last measure and the last beat to pass over, and k more do so, or end with the last measure.
pub record Skips (p q : Pen) (k : ℕ) : Type 0 where
  pub some_todo : 1 ≤ q.todo
  pub some_skip : 1 ≤ q.skip
  pub measures : k * (p.todo - q.todo) ≤ q.todo
  pub beats : k * (p.skip - q.skip) < q.skip

-- The pass from p to q ended before the last measure and the last beat to write, and one more does so, or ends with the last measure.
pub record Copies (p q : Pen) : Type 0 where
  pub no_skip : p.skip ≡ 0
  pub some_todo : 1 ≤ q.todo
  pub some_left : 1 ≤ q.left
  pub measures : p.todo - q.todo ≤ q.todo
  pub beats : q.b - p.b < q.left

-- The pen behind k more passes that are passed over, and behind one more that is written.
unfoldable pub skipped_of : Pen → Pen → ℕ → Pen
skipped_of p q k =
    record { base = q.base; todo = q.todo - k * (p.todo - q.todo); skip = q.skip - k * (p.skip - q.skip); left = q.left; m = q.m; b = q.b }

unfoldable pub copied_of : Pen → Pen → Pen
copied_of p q =
    record {
      base = q.base;
      todo = q.todo - (p.todo - q.todo);
      skip = q.skip;
      left = q.left - (q.b - p.b);
      m =
          q.m + (q.m - p.m);
      b = q.b + (q.b - p.b);
    }

-- The words of a table from one place on and before another, each changed by f, again behind them, as far as the table goes.
unfoldable pub copy_of : (ℕ → ℕ) → List ℕ → ℕ → ℕ → List ℕ
copy_of f t from to = sets t to (map f (take (to - from) (drop from t)))

abbrev pub same : ℕ → ℕ
same w = w

abbrev pub later : ℕ → ℕ → ℕ
later step w = (w + step) % 2 ^ 32
