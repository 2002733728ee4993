-- What token words mean as they are walked: rows of measures, the place where the walk ends, and the last chord.
use Rattle.std.specs.Prelude.{ℕ, zero, suc, ◌+◌, ◌-◌, ◌/◌, ◌<◌, ◌≤◌, List, [], ◌∷◌, ◌++◌, length}
use Rattle.songcode.specs.Lists.{provided◌then◌else◌, times}
use Rattle.score.specs.declared.stretches.Stretch.{Stretch}
use Rattle.score.specs.Places.{word_of, stretch_of}
use Rattle.tokens.specs.Signs.{kind_of, number_of, is_separator, is_stop, is_opening, is_closing, is_reference}
use Rattle.player.specs.Signs.{chords_of, parts_of, positions_at}
use Rattle.player.specs.declared.measures.Walk.{Walk}
use Rattle.player.specs.declared.measures.Scope.{Scope}
use Rattle.player.specs.declared.pens.Page.{Page as Lent}
use Rattle.player.specs.Page.{Page, play, shown}

pub record Read : Type 0 where
  pub row : List (List ℕ)
  pub at : ℕ
  pub last : ℕ

pub record End : Type 0 where
  pub at : ℕ
  pub last : ℕ
  pub page : Page

unfoldable pub finish : Read → Page → End
finish r g = record { at = r.at; last = r.last; page = play r.row g }

abbrev pub stop : ℕ → ℕ → Read
stop at last = record { row = []; at = at; last = last }

-- One after the other.
unfoldable pub and_then : Read → (ℕ → ℕ → Read) → Read
and_then r k = record { row = r.row ++ (k r.at r.last).row; at = (k r.at r.last).at; last = (k r.at r.last).last }

-- A measure in n: each of its positions lasts n / p beats, and removers take theirs away.
unfoldable pub one_of : ℕ → List ℕ → ℕ → ℕ → ℕ → Read
unfolding parts_of chords_of positions_at
one_of n ws to at last =
    record {
      row = parts_of (n / length (positions_at ws to at)) last (positions_at ws to at) ∷ [];
      at = at + length (positions_at ws to at);
      last = chords_of last (positions_at ws to at);
    }

-- Passes after the first of the loop whose row ends at `at`, and the place behind its closing bracket.
unfoldable pub passes_of : List ℕ → ℕ → ℕ → ℕ
unfolding word_of
passes_of ws to at = number_of (word_of ws to at) - 1

unfoldable pub behind_of : List ℕ → ℕ → ℕ → ℕ
unfolding provided◌then◌else◌ word_of
behind_of ws to at = provided is_closing (kind_of (word_of ws to at)) then at + 1 else at

unfoldable pub looped : List ℕ → ℕ → Read → Read
unfolding times passes_of behind_of
looped ws to r = record { row = r.row ++ times (passes_of ws to r.at) r.row; at = behind_of ws to r.at; last = r.last }

-- What stands inside is walked by `inner`, which takes where a text ends, a place in it, and the last chord.
unfoldable pub loop_of : (ℕ → ℕ → ℕ → Read) → List ℕ → ℕ → ℕ → ℕ → Read
unfolding looped
loop_of inner ws to at last = looped ws to (inner to at last)

-- A reference: the row of the definition's stretch, and back.
unfoldable pub ref_of : (ℕ → ℕ → ℕ → Read) → List ℕ → ℕ → ℕ → ℕ → Read
ref_of inner ws x at last =
    record {
      row = (inner (stretch_of ws x).to (stretch_of ws x).from last).row;
      at = at + 1;
      last =
          (inner (stretch_of ws x).to (stretch_of ws x).from last).last;
    }

unfoldable pub item_by : (ℕ → ℕ → ℕ → Read) → ℕ → List ℕ → ℕ → ℕ → ℕ → ℕ → Read
unfolding provided◌then◌else◌ loop_of ref_of one_of is_separator
item_by inner n ws w to at last =
    provided is_opening (kind_of w) then loop_of inner ws to (at + 1) last
    else (provided is_reference (kind_of w) then ref_of inner ws (number_of w) at last
    else (provided is_separator (kind_of w) then stop (at + 1) last
    else one_of n ws to at last))

unfoldable pub item_of : (ℕ → ℕ → ℕ → Read) → ℕ → List ℕ → ℕ → ℕ → ℕ → Read
unfolding item_by word_of
item_of inner n ws to at last = item_by inner n ws (word_of ws to at) to at last

unfoldable pub rows_by : (ℕ → ℕ → ℕ → Read) → ℕ → List ℕ → ℕ → ℕ → ℕ → ℕ → Read
unfolding provided◌then◌else◌ is_stop word_of item_of and_then
rows_by inner n ws zero to at last = stop at last
rows_by inner n ws (suc f) to at last =
    provided is_stop (kind_of (word_of ws to at)) then stop at last else and_then (item_of inner n ws to at last) (rows_by inner n ws f to)

-- So many levels of rows, one in the loops and references of the other.
unfoldable pub level : ℕ → ℕ → List ℕ → ℕ → ℕ → ℕ → Read
unfolding rows_by
level zero n ws to at last = stop at last
level (suc k) n ws to at last = rows_by (level k n ws) n ws to to at last

-- The row of a stretch, played alone: behind no chord. No text that is played has more than eight levels.
unfoldable pub row_of : ℕ → List ℕ → Stretch → List (List ℕ)
unfolding level
row_of n ws s = (level 8 n ws s.to s.from 4227858432).row

-- How the code says it: where a walk has come with its page, what it reads from there on, and the numbers that it keeps to.
abbrev pub end_of : Walk → Lent → End
end_of w g = record { at = w.at; last = w.last.word; page = shown g }

abbrev pub level_from : Scope → Walk → Read
level_from s w = level s.depth s.n s.words.now s.to w.at w.last.word

abbrev pub item_from : Scope → Walk → Read
item_from s w = item_of (level s.depth s.n s.words.now) s.n s.words.now s.to w.at w.last.word

abbrev pub ref_from : Scope → ℕ → Walk → Read
ref_from s x w = ref_of (level s.depth s.n s.words.now) s.words.now x w.at w.last.word

abbrev pub loop_from : Scope → Walk → Read
loop_from s w = loop_of (level s.depth s.n s.words.now) s.words.now s.to (w.at + 1) w.last.word

abbrev pub measure_from : Scope → Walk → Read
measure_from s w = one_of s.n s.words.now s.to w.at w.last.word

pub record Within (s : Scope) : Type 0 where
  pub meter : s.n ≤ 32
  pub levels : s.depth < 1000
