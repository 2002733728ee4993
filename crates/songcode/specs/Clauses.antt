-- "What stops a chart", clause by clause: each in the table's words with its number and line, beside a chart of which it is stated and one of which
-- it is not.
use Rattle.std.specs.Prelude.{ℕ, List, [], ◌∷◌, ◌++◌}
use Prim.Native.String.{String}
use Rattle.std.proofs.Math.ListN.{replicate}
use Rattle.songcode.specs.Bytes.{ascii}

-- A clause of the table: its words, number and line; a chart that it stops; one beside it that is accepted.
pub record Clause : Type 0 where
  pub words : String
  pub number : ℕ
  pub line : ℕ
  pub stopped : List ℕ
  pub beside : List ℕ

abbrev clause : String → ℕ → ℕ → String → String → Clause
clause words number line stopped beside =
    record { words = words; number = number; line = line; stopped = ascii stopped; beside = ascii beside }

unfoldable pub clauses : List Clause
unfolding ascii replicate
clauses =
    -- stage 1
    record { words = "over 65,536 bytes"; number = 1; line = 0; stopped = replicate 65537 255; beside = ascii "V\nA" }
    ∷ record { words = "bad UTF-8"; number = 2; line = 2; stopped = ascii "V\nA" ++ (195 ∷ []); beside = ascii "V\nA" ++ (195 ∷ 169 ∷ []) }
    ∷ record { words = "or zero byte"; number = 2; line = 2; stopped = ascii "V\nA" ++ (0 ∷ []); beside = ascii "V\nA" ++ (1 ∷ []) }
    -- stage 2
    ∷ clause "block kind after a later kind" 3 4 "V\nA\n\n@bpm 3" "@bpm 3\n\nV\nA"
    ∷ clause "block kind after a later kind" 3 4 "V\nA\n\n$1\nA" "$1\nA\n\nV\nA"
    ∷ clause "block kind after a later kind" 3 4 "$1\nA\n\n@bpm 3\n\nV\nA" "@bpm 3\n\n$1\nA\n\nV\nA"
    ∷ clause "key unknown" 4 1 "@tempo 3\n\nV\nA" "@bpm 3\n\nV\nA"
    ∷ clause "key unknown" 4 2 "V\n@tempo 3\nA" "V\n@bpm 3\nA"
    ∷ clause "key unknown" 4 2 "V\n@ bpm 3\nA" "V\n@bpm  3\nA"
    ∷ clause "twice" 4 3 "@bpm 3\n\n@bpm 4\n\nV\nA" "@bpm 3\n\n@capo 4\n\nV\nA"
    ∷ clause "twice" 4 3 "V\n@bpm 3\n@bpm 4\nA" "@bpm 3\n\nV\n@bpm 4\nA"
    ∷ clause "out of place: a key after a pattern line" 4 3 "V\nA\n@bpm 3" "V\n@bpm 3\nA"
    ∷ clause "out of place: a key after a modifier line" 4 4 "V\nA\n_repeat 2\n@bpm 3" "V\n@bpm 3\nA\n_repeat 2"
    ∷ clause "or not allowed here" 4 2 "V\n@capo 3\nA" "@capo 3\n\nV\nA"
    ∷ clause "setting of a key malformed or out of range" 5 1 "@bpm x\n\nV\nA" "@bpm 3\n\nV\nA"
    ∷ clause "setting of a key malformed or out of range" 5 2 "V\n@time 33/4\nA" "V\n@time 32/4\nA"
    ∷ clause "of a repeat" 5 3 "V\nA\n_repeat 1" "V\nA\n_repeat 2"
    ∷ clause "of a cut" 5 3 "V\nA;G\n_cutStart 0-1" "V\nA;G\n_cutStart 1-1"
    ∷ clause "of a cut" 5 3 "V\nA;G\n_cutEnd" "V\nA;G\n_cutEnd 1"
    ∷ clause "definition head malformed" 6 1 "$x\nA\n\nV\nA" "$1\nA\n\nV\nA"
    ∷ clause "twice" 6 4 "$1\nA\n\n$1\nG\n\nV\nA" "$1\nA\n\n$2\nG\n\nV\nA"
    ∷ clause "pattern text against the rules; its first line" 7 2 "V\nA\nG;" "V\nA\nG"
    ∷ clause "pattern text against the rules; its first line" 7 2 "$1\nA\nH\n\nV\nA" "$1\nA\nG\n\nV\nA"
    ∷ clause "an extension that holds `%`, in its present place" 7 2 "V\nA\nG%" "V\nA\nG %"
    ∷ clause "or `_`" 7 2 "V\nA_" "V\nA _"
    ∷ clause "or `=`" 7 3 "V\nA\n_before A=" "V\nA\n_before A ="
    ∷ clause "or `$`" 7 5 "$1\nA\n\n$2\nA$1\n\nV\nA" "$1\nA\n\n$2\nA;$1\n\nV\nA"
    ∷ clause "lead-in: own" 7 3 "V\nA\n_before H" "V\nA\n_before G"
    ∷ clause "tail: own" 7 4 "V\nA\n_before G\n_after" "V\nA\n_before G\n_after A"
    ∷ clause "other line out of place: in metadata" 8 2 "@bpm 3\nA\n\nV\nA" "@bpm 3\n@capo 3\n\nV\nA"
    ∷ clause "other line out of place: in metadata" 8 2 "@bpm 3\n_repeat 2\n\nV\nA" "@bpm 3\n@capo 3\n\nV\nA"
    ∷ clause "other line out of place: a modifier before the pattern" 8 2 "V\n_repeat 2\nA" "V\nA\n_repeat 2"
    ∷ clause "other line out of place: a pattern line past that run" 8 4 "V\nA\n_repeat 2\n;" "V\nA\n_repeat 2"
    ∷ clause "unknown modifier" 8 3 "V\nA\n_loop 2" "V\nA\n_repeat 2"
    ∷ clause "or doubled modifier" 8 4 "V\nA\n_repeat 2\n_repeat 3" "V\nA\n_repeat 2\n_cutEnd 1"
    ∷ clause "name empty" 8 1 "!V\nA" "V!\nA"
    ∷ clause "or long" 8 1 "nnnnnnnnnnnnnnnnnnnnnnnnnnnnnnnnnnnnnnnnnnnnnnnnnnn\nA" "nnnnnnnnnnnnnnnnnnnnnnnnnnnnnnnnnnnnnnnnnnnnnnnnnn\nA"
    ∷ clause "no pattern line; the header" 8 1 "V\n@bpm x" "V\n@bpm 3\nA"
    ∷ clause "`--` without lyrics; the `--`" 8 3 "V\nA\n--" "V\nA\n--\n--"
    ∷ clause "no section, nothing else in stage 2" 9 0 "$1\n$2" "V\nA"
    -- stage 3
    ∷ clause "reference not defined earlier; block's first" 10 1 "$1\nG\n$2\n\n$2\nA\n\nV\n$1" "$2\nA\n\n$1\nG\n$2\n\nV\n$1"
    ∷ clause "reference not defined earlier; block's first" 10 4 "$1\nG\n\nV\n@bpm 3\n$2" "$1\nG\n\nV\n@bpm 3\n$1"
    ∷ clause "reference too deep" 11 7 "$1\nA\n\n$2\n$1\n\n$3\nG\n$2\n\nV\nA" "$1\nA\n\n$2\n$1\n\n$3\nG\n$1\n\nV\n$2"
    ∷ clause "making a loop in a loop" 11 4 "$1\n[A]2\n\n$2\n[$1]2\n\nV\nA" "$1\n[A]2\n\n$2\n[G]2;$1\n\nV\n$2"
    ∷ clause "or from a definition to an empty one" 11 3 "$1\n\n$2\n$1\n\nV\nA" "$1\n\nV\n$1"
    -- stage 4
    ∷ clause "p doesn't divide N; header" 12 1 "V\n@bpm 3\nA D E" "V\n@time 3/4\nA D E"
    ∷ clause "p doesn't divide N; lead-in: own" 12 3 "V\nA\n_before A D E" "V\nA\n_before A D"
    ∷ clause "p doesn't divide N; tail: own" 12 4 "V\nA\n_repeat 2\n_after A = =" "V\nA\n_repeat 2\n_after A = = ="
    ∷ clause "`%` with no chord before; header" 13 1 "V\n@bpm 3\n_;%;A" "V\n@bpm 3\nA;_;%"
    ∷ clause "`%` with no chord before; lead-in: own" 13 3 "V\nA\n_before %" "V\nA\n_before A %"
    ∷ clause "`%` with no chord before; tail: own" 13 4 "V\nA\n_repeat 2\n_after %;G" "V\nA\n_repeat 2\n_after G;%"
    -- stage 5
    ∷ clause "song passes 65,535 measures; header where it passes" 14 4 "V\nA\n\nW\n[A]9999\n_repeat 7" "V\nA\n\nW\n[A]9999"
    ∷ clause "cuts leave no beat" 15 1 "V\nA;G\n_cutStart 1\n_cutEnd -4" "V\nA;G\n_cutStart 1\n_cutEnd -3"
    ∷ clause "or a modifier on an empty pattern" 15 3 "$1\n\nV\n$1\n_repeat 2" "$1\n\nV\n$1"
    -- stages 6 and 7
    ∷ clause "of the lines taken, some have a count, this not; first such line" 16 4 "V\nA\n--\nGo\n\nW\nA\n--\nOn _1\nUp" "V\nA\n--\nGo\n\nW\nA\n--\nOn\nUp"
    ∷ clause "counts don't sum; header" 17 6 "V\nA\n--\nGo _1\n\nW\nA\n--\nOn _1\nUp _1" "V\nA\n--\nGo _1\n\nW\nA;A\n--\nOn _1\nUp _1"
    ∷ []
