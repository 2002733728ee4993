-- The outline of a definition as a word of the row, behind its head, and what is found of a number.
use Rattle.std.specs.Prelude.{ℕ, ◌+◌, ◌*◌, ◌/◌, ◌%◌, List, Bool, true, false, eqb, get_or}
use Rattle.songcode.specs.Lists.{provided◌then◌else◌}
use Rattle.score.specs.Places.{length_at, place_of}
use Rattle.score.specs.Sections.{bit}
use Rattle.outlines.specs.declared.readings.Outline.{Outline}

-- The outline of an empty text.
unfoldable pub vacant : Outline
vacant = record { empty = true; depth = 0; refers = false; sizes = 1; wants = false; chord = false; whole = true; measures = 0 }

-- From the top bit down: measures 17, sizes 6, four answers of a bit each, depth 3, one more answer.
unfoldable pub outline_word : Outline → ℕ
unfolding bit
outline_word o =
    o.measures * 32768 + o.sizes * 512 + bit o.wants * 256 + bit o.empty * 128 + bit o.chord * 64 + bit o.refers * 32 + o.depth * 4
    + bit o.whole * 2

unfoldable pub is_set : ℕ → ℕ → Bool
is_set w weight = eqb (w / weight % 2) 1

unfoldable pub outline_in : ℕ → Outline
unfolding is_set
outline_in w =
    record {
      empty = is_set w 128;
      depth = w / 4 % 8;
      refers = is_set w 32;
      sizes = w / 512 % 64;
      wants = is_set w 256;
      chord = is_set w 64;
      whole = is_set w 2;
      measures = w / 32768;
    }

-- No definition has that number.
unfoldable pub is_missing : List ℕ → ℕ → Bool
unfolding place_of
is_missing ws x = eqb (length_at ws (place_of ws x)) 0

-- The outline of the definition of that number.
unfoldable pub look_up : List ℕ → ℕ → Outline
unfolding provided◌then◌else◌ is_missing vacant outline_in place_of
look_up ws x = provided is_missing ws x then vacant else outline_in (get_or ws (place_of ws x + 1) 0)
