-- Where things stand in the row of words: the words of a text, and the definitions, one behind the other from place 0 on.
use Rattle.std.specs.Prelude.{ℕ, zero, suc, ◌+◌, ◌*◌, ◌/◌, ◌%◌, List, eqb, take, get_or}
use Rattle.songcode.specs.Lists.{provided◌then◌else◌}
use Rattle.tokens.specs.Signs.{kind_of, number_of, is_reference, wrong_word}
use Rattle.score.specs.declared.stretches.Stretch.{Stretch}

-- The word at a place of the text that ends before `to`; past the end the wrong word.
unfoldable pub word_of : List ℕ → ℕ → ℕ → ℕ
word_of ws to at = get_or (take to ws) at wrong_word

-- A definition begins with its head, length * 2^15 + number * 2, and its outline; its token words stand behind these two.
abbrev pub head_word : ℕ → ℕ → ℕ
head_word length id = length * 32768 + id * 2

-- The length of the definition at a place, all its words; 0 at the mark behind the last one. The number of that definition.
abbrev pub length_at : List ℕ → ℕ → ℕ
length_at ws at = get_or ws at 0 / 32768

abbrev pub id_at : List ℕ → ℕ → ℕ
id_at ws at = get_or ws at 0 % 32768 / 2

-- The place of the definition of that number, of k from a place on; the mark's where there is none.
unfoldable pub place_by : ℕ → List ℕ → ℕ → ℕ → ℕ
unfolding provided◌then◌else◌
place_by zero ws at x = at
place_by (suc k) ws at x =
    provided eqb (length_at ws at) 0 then at else (provided eqb (id_at ws at) x then at else place_by k ws (at + length_at ws at) x)

-- Of 26 from the first place on: a chart has no more.
unfoldable pub place_of : List ℕ → ℕ → ℕ
place_of ws x = place_by 26 ws 0 x

-- Where the token words of that definition stand; an empty stretch where there is none.
unfoldable pub stretch_of : List ℕ → ℕ → Stretch
stretch_of ws x = record { from = place_of ws x + 2; to = place_of ws x + length_at ws (place_of ws x) }

-- What is played of a text: where it begins with `$n`, the definition's words.
unfoldable pub played_text : List ℕ → Stretch → Stretch
unfolding provided◌then◌else◌ word_of stretch_of
played_text ws t = provided is_reference (kind_of (word_of ws t.to t.from)) then stretch_of ws (number_of (word_of ws t.to t.from)) else t
