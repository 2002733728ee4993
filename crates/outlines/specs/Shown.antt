-- Charts beside their rows of words, written out field by field. The words are those of the rules in `Rows` and in `score`, worked out apart.
use Rattle.std.specs.Prelude.{ℕ, ◌+◌, ◌*◌, ◌^◌, List, [], ◌∷◌}
use Prim.Native.String.{String}
use Rattle.songcode.specs.Bytes.{ascii}

pub record Shown : Type 0 where
  pub chart : List ℕ
  pub row : List ℕ

abbrev shows : String → List ℕ → Shown
shows chart row = record { chart = ascii chart; row = row }

-- A sign of a pattern, by its kind.
abbrev sign : ℕ → ℕ
sign kind = kind * 2 ^ 26

unfoldable pub shown : List Shown
unfolding ascii
shown =
    shows
    "$1\nA;% G\n\n$2\n[$1;D D D]3\n\n$3\n%;A A A A A A =;A A A A A\n\n$4\n\nV\n$2\n_repeat 2\n"
    -- $1: two measures, of 1 and 2 positions, which fit 2; a chord, no remover
    ((6 * 2 ^ 15 + 1 * 2)
    ∷ (2 * 2 ^ 15 + 2 * 2 ^ 9 + 2 ^ 6 + 2)
    ∷ 0
    ∷ sign 60
    ∷ sign 62
    ∷ (28 * 2 ^ 26)
    -- $2: with $1 put in three times three measures, of 1, 2 and 3 positions, which fit 6; a chord, a reference, a loop, no remover
    ∷ (9 * 2 ^ 15 + 2 * 2)
    ∷ (9 * 2 ^ 15 + 6 * 2 ^ 9 + 2 ^ 6 + 2 ^ 5 + 2 ^ 2 + 2)
    ∷ sign 57
    ∷ (sign 55 + 1)
    ∷ sign 60
    ∷ (14 * 2 ^ 26)
    ∷ (14 * 2 ^ 26)
    ∷ (14 * 2 ^ 26)
    ∷ (sign 56 + 3)
    -- $3: three measures, of 1, 7 and 5 positions, which fit no N; its `%` stands before every chord; a remover
    ∷ (17 * 2 ^ 15 + 3 * 2)
    ∷ (3 * 2 ^ 15 + 33 * 2 ^ 9 + 2 ^ 8 + 2 ^ 6)
    ∷ sign 62
    ∷ sign 60
    ∷ 0 ∷ 0 ∷ 0 ∷ 0 ∷ 0 ∷ 0 ∷ sign 61
    ∷ sign 60
    ∷ 0 ∷ 0 ∷ 0 ∷ 0 ∷ 0
    -- $4: empty
    ∷ (2 * 2 ^ 15 + 4 * 2)
    ∷ (1 * 2 ^ 9 + 2 ^ 7 + 2)
    -- the mark
    ∷ 0
    -- the section: five words, 4/4, no bpm; on line 12, repeated twice; its pattern is a name, and not all its measures have four beats
    ∷ (5 * 2 ^ 15 + 4 * 2 ^ 9 + 511)
    ∷ (11 * 2 ^ 16 + 2 * 2 ^ 2)
    ∷ 0
    ∷ 0
    ∷ (sign 55 + 2)
    -- no keys
    ∷ 0 ∷ 0 ∷ 0 ∷ 0 ∷ 0 ∷ 0 ∷ 0 ∷ 0
    ∷ [])
    ∷ shows
    "@capo 2\n\nV\nA;G\n_cutEnd -1\n--\nla _2\n"
    (0
    -- eleven words; on line 3, once, cut; no lead-in and no tail; one lyric line, two measures of four beats
    ∷ (11 * 2 ^ 15 + 4 * 2 ^ 9 + 511)
    ∷ (2 * 2 ^ 16 + 1 * 2 ^ 2 + 2)
    ∷ 0
    ∷ (1 * 2 ^ 16 + 2)
    -- no cut at the front, a beat at the back
    ∷ 0
    ∷ (1 * 2 ^ 4)
    ∷ 0
    ∷ sign 60
    ∷ (28 * 2 ^ 26)
    -- its text from byte 29 on, two bytes; on line 7, counting two measures
    ∷ (29 * 2 ^ 16 + 2)
    ∷ (6 * 2 ^ 16 + 2 * 2 ^ 2)
    -- the fourth key is there, from byte 6 on, one byte
    ∷ 0 ∷ 0 ∷ 0
    ∷ (2 ^ 31 + 6 * 2 ^ 15 + 1 * 2 ^ 6)
    ∷ 0 ∷ 0 ∷ 0 ∷ 0
    ∷ [])
    ∷ []
