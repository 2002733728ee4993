-- A text read word by word into its outline.
use Rattle.std.specs.Prelude.{ℕ, ◌+◌, ◌-◌, ◌*◌, min, max, List, [], ◌∷◌, Bool, true, false, ◌||◌, ◌&&◌, not, eqb, get_or, replicate, set}
use Rattle.songcode.specs.Lists.{provided◌then◌else◌, is_empty}
use Rattle.songcode.specs.Answer.PatternText.{loops_deep}
use Rattle.tokens.specs.Signs.{kind_of, number_of, is_position, is_chord, is_again, is_remover, is_opening, is_closing, is_reference}
use Rattle.outlines.specs.declared.readings.Outline.{Outline}
use Rattle.outlines.specs.declared.readings.Reading.{Reading}
use Rattle.outlines.specs.Sizes.{joined}

unfoldable pub started : Reading
started = record { refers = false; sizes = 1; wants = false; chord = false; whole = true; positions = 0; count = 0; level = 0; deepest = 0 }

-- A position of that kind.
unfoldable pub sounded : ℕ → Reading → Reading
sounded k s =
    record {
      refers = s.refers;
      sizes = s.sizes;
      wants = s.wants || (is_again k && not s.chord);
      chord = s.chord || is_chord k;
      whole = s.whole && not (is_remover k);
      positions = min 33 (s.positions + 1);
      count = s.count;
      level = s.level;
      deepest = s.deepest;
    }

unfoldable pub measured : Reading → Reading
unfolding joined
measured s =
    record {
      refers = s.refers;
      sizes = joined s.sizes s.positions;
      wants = s.wants;
      chord = s.chord;
      whole = s.whole;
      positions = 0;
      count = min 65536 (s.count + 1);
      level = s.level;
      deepest = s.deepest;
    }

-- The end of a measure, if one is at hand.
unfoldable pub closed : Reading → Reading
unfolding provided◌then◌else◌ measured
closed s = provided eqb s.positions 0 then s else measured s

-- One loop further in; the word of an outline holds no level above 7.
abbrev pub inner_level : ℕ → ℕ
inner_level level = min 7 (level + 1)

-- An opening bracket: the row inside begins.
unfoldable pub opened : Reading → Reading
opened s =
    record {
      refers = s.refers;
      sizes = s.sizes;
      wants = s.wants;
      chord = s.chord;
      whole = s.whole;
      positions = s.positions;
      count = 0;
      level = inner_level s.level;
      deepest = max s.deepest (inner_level s.level);
    }

-- A closing bracket: the row is played n times, behind the measures before its loop.
unfoldable pub loop_shut : ℕ → ℕ → Reading → Reading
loop_shut n outer s =
    record {
      refers = s.refers;
      sizes = s.sizes;
      wants = s.wants;
      chord = s.chord;
      whole = s.whole;
      positions = s.positions;
      count = min 65536 (outer + min 65536 (n * s.count));
      level = s.level - 1;
      deepest = s.deepest;
    }

unfoldable pub referred : Outline → Reading → Reading
unfolding joined
referred o s =
    record {
      refers = true;
      sizes = joined s.sizes o.sizes;
      wants = s.wants || (o.wants && not s.chord);
      chord = s.chord || o.chord;
      whole = s.whole && o.whole;
      positions = s.positions;
      count = min 65536 (s.count + o.measures);
      level = s.level;
      deepest = s.deepest;
    }

-- A state, and the numbers of measures of the rows around the row at hand, outermost first.
pub record Nested : Type 0 where
  pub reading : Reading
  pub around : List ℕ

abbrev pub nested : Reading → List ℕ → Nested
nested s around = record { reading = s; around = around }

-- An opening bracket: the number of the row at hand is kept, at its level.
unfoldable pub entered : Nested → Nested
unfolding opened
entered h = nested (opened h.reading) (set h.around h.reading.level h.reading.count)

-- A closing bracket behind the last measure: the number that was kept is taken back.
unfoldable pub left : ℕ → Nested → Nested
unfolding loop_shut closed
left n h = nested (loop_shut n (get_or h.around (h.reading.level - 1) 0) (closed h.reading)) h.around

-- Any word but a reference; what is no position and no bracket ends a measure.
unfoldable pub step_of : Nested → ℕ → Nested
unfolding provided◌then◌else◌ is_position sounded entered left closed
step_of h w =
    provided is_position (kind_of w) then nested (sounded (kind_of w) h.reading) h.around
    else (provided is_opening (kind_of w) then entered h
    else (provided is_closing (kind_of w) then left (number_of w) h
    else nested (closed h.reading) h.around))

-- Each word, with the outlines that references find.
unfoldable pub word_read : (ℕ → Outline) → Nested → ℕ → Nested
unfolding provided◌then◌else◌ referred step_of
word_read find h w = provided is_reference (kind_of w) then nested (referred (find (number_of w)) h.reading) h.around else step_of h w

unfoldable pub words_read : (ℕ → Outline) → Nested → List ℕ → Nested
unfolding word_read
words_read find h [] = h
words_read find h (w ∷ ws) = words_read find (word_read find h w) ws

-- Before the first word there is room for as many numbers as loops may be open.
unfoldable pub outside : Nested
unfolding started loops_deep
outside = nested started (replicate loops_deep 0)

unfoldable pub summed : Bool → Reading → Outline
summed e s =
    record {
      empty = e;
      depth = s.deepest;
      refers = s.refers;
      sizes = s.sizes;
      wants = s.wants;
      chord = s.chord;
      whole = s.whole;
      measures = s.count;
    }

unfoldable pub outlined : (ℕ → Outline) → List ℕ → Outline
unfolding is_empty summed closed words_read outside
outlined find ws = summed (is_empty ws) (closed (words_read find outside ws).reading)
