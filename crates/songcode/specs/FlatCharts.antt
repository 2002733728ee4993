-- Songs and their flat copies, byte for byte: what the two descriptions of the copy share is shown here.
use Prim.Native.String.{String}
use Rattle.std.specs.Prelude.{List, [], ◌∷◌}

pub record FlatChart : Type 0 where
  pub song : String
  pub copy : String

abbrev copies : String → String → FlatChart
copies song copy = record { song = song; copy = copy }

unfoldable pub flat_charts : List FlatChart
flat_charts =
    -- "as they were", "Lines, trimmed, end in LF": blanks inside a line stay, blanks at its ends go, whatever ended it.
    copies "@name \t Old  boat \r\n@artist\tX\n \n Verse  one !  loud \t\nA\n--\n a\t b  c "
    "@name \t Old  boat\n@artist\tX\n\nVerse  one !  loud\nA A A A\n--\na\t b  c\n"
    -- "key lines make one block"; a section's keys stay below its header.
    ∷ copies "@name N\n\n\n@bpm 90\n\nV\n@time 3/4\nA;D E =" "@name N\n@bpm 90\n\nV\n@time 3/4\nA A A\nD E =\n"
    -- "each as N positions, one a beat, missing beats as removers": behind the beats, also where the cut was at the front.
    ∷ copies "V\nA;G\n_cutStart 1-2" "V\nG G = =\n"
    ∷ copies "V\nA;G\n_cutEnd -2" "V\nA A A A\nG G = =\n"
    -- Every beat has its chord's letters, or `_` for silence; never `%`.
    ∷ copies "V\nC7 % _ %" "V\nC7 C7 _ C7\n"
    ∷ copies "V\nDb7 Amaj;_" "V\nDb7 Db7 Amaj Amaj\n_ _ _ _\n"
    -- "An empty pattern stays one, by naming an empty definition `$1`, written only if needed": by a section, whatever it named.
    ∷ copies "$7\n\n$1\nA\n\nIntro\n$7\n--\nHum\n\nV\n$1" "$1\n\nIntro\n$1\n--\nHum\n\nV\nA A A A\n"
    ∷ copies "$7\n\nV\nA" "V\nA A A A\n"
    -- A line that starts with silence, in four and in one.
    ∷ copies "V\n_ A = =" "V\n_ A = =\n"
    ∷ copies "V\n@time 1/4\n_;A" "V\n@time 1/4\n_\nA\n"
    -- "every section's measures as played, lead-ins and tails in".
    ∷ copies "$2\nA;[D;%]2\n\nV\n$2\n_repeat 2\n_cutEnd 1\n_before E7;F\n_after G"
    "V\nE7 E7 E7 E7\nF F F F\nA A A A\nD D D D\nD D D D\nD D D D\nD D D D\nA A A A\nD D D D\nD D D D\nD D D D\nG G G G\n"
    ∷ []
