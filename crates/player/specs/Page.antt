-- What the pen and the two tables become: left folds over beats and over measures.
use Rattle.std.specs.Prelude.{◌≡◌, ℕ, zero, suc, ◌+◌, ◌-◌, ◌≤◌, Bool, true, false, List, [], ◌∷◌, ◌==◌, slice_set}
use Rattle.songcode.specs.Answer.Tables.{measure_word}
use Rattle.player.specs.declared.pens.Pen.{Pen}
use Rattle.player.specs.declared.pens.Page.{Page as Lent}

-- The pen and the table of beats.
pub record Ink : Type 0 where
  pub pen : Pen
  pub bs : List ℕ

-- The pen and both tables.
pub record Page : Type 0 where
  pub pen : Pen
  pub ms : List ℕ
  pub bs : List ℕ

abbrev pub page : Pen → List ℕ → List ℕ → Page
page p ms bs = record { pen = p; ms = ms; bs = bs }

-- What a page of the code holds, whose tables are lent, and that another has the same tables.
abbrev pub shown : Lent → Page
shown g = page g.pen g.measures.now g.beats.now

pub record SameTables (g h : Lent) : Type 0 where
  pub measures : h.measures.ghost_name ≡ g.measures.ghost_name
  pub beats : h.beats.ghost_name ≡ g.beats.ghost_name

-- No more measures than beats, and no more beats than 65,535 measures of 32.
pub record Fine (p : Pen) : Type 0 where
  pub few : p.m ≤ p.b
  pub fits : p.base + p.b + p.left ≤ 2097120

-- A beat: passed over, written, or past the end.
unfoldable pub beat_by : ℕ → ℕ → ℕ → Ink → Ink
beat_by (suc s) l w g =
    record { pen = record { base = g.pen.base; todo = g.pen.todo; skip = s; left = g.pen.left; m = g.pen.m; b = g.pen.b }; bs = g.bs }
beat_by zero zero w g = g
beat_by zero (suc l) w g =
    record {
      pen = record { base = g.pen.base; todo = g.pen.todo; skip = g.pen.skip; left = l; m = g.pen.m; b = g.pen.b + 1 };
      bs = slice_set g.bs g.pen.b w;
    }

unfoldable pub beat_of : ℕ → Ink → Ink
beat_of w g = beat_by g.pen.skip g.pen.left w g

unfoldable pub inked : List ℕ → Ink → Ink
inked [] g = g
inked (w ∷ x) g = inked x (beat_of w g)

-- A measure of which beats were written gets its word.
unfoldable pub close_by : Bool → ℕ → Page → Page
unfolding measure_word
close_by true from g = g
close_by false from g =
    record {
      pen = record {
        base = g.pen.base;
        todo = g.pen.todo;
        skip = g.pen.skip;
        left = g.pen.left;
        m = g.pen.m + 1;
        b =
            g.pen.b;
      };
      ms = slice_set g.ms g.pen.m (measure_word (g.pen.base + from) (g.pen.b - from));
      bs = g.bs;
    }

unfoldable pub closed : ℕ → Page → Page
closed from g = close_by (from == g.pen.b) from g

unfoldable pub on_page : Ink → List ℕ → Page
on_page i ms = record { pen = i.pen; ms = ms; bs = i.bs }

-- No measure is looked at any more once no beat is to be passed over and none to be written.
unfoldable pub rest_by : ℕ → ℕ → ℕ → ℕ
rest_by todo zero zero = zero
rest_by todo zero (suc l) = todo
rest_by todo (suc s) l = todo

unfoldable pub rest_of : Pen → Pen
rest_of p = record { base = p.base; todo = rest_by p.todo p.skip p.left; skip = p.skip; left = p.left; m = p.m; b = p.b }

unfoldable pub rested : Page → Page
rested g = record { pen = rest_of g.pen; ms = g.ms; bs = g.bs }

-- A measure that is looked at, t more behind it.
unfoldable pub looked_at : ℕ → List ℕ → Page → Page
looked_at t x g = closed g.pen.b
    (on_page (inked x (record {
      pen = record {
        base = g.pen.base;
        todo = t;
        skip = g.pen.skip;
        left = g.pen.left;
        m = g.pen.m;
        b =
            g.pen.b;
      };
      bs = g.bs;
    })) g.ms)

-- A measure, if any is still to be looked at.
unfoldable pub measure_by : ℕ → List ℕ → Page → Page
measure_by zero x g = g
measure_by (suc t) x g = rested (looked_at t x g)

unfoldable pub measure_of : List ℕ → Page → Page
measure_of x g = measure_by g.pen.todo x g

unfoldable pub play : List (List ℕ) → Page → Page
play [] g = g
play (x ∷ xs) g = play xs (measure_of x g)
