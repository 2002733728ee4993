-- Charts with all their words, written out: what stands in the tables, bit for bit. The words are those of document 01's rules, worked out apart.
use Rattle.std.specs.Prelude.{ℕ, List, [], ◌∷◌}
use Prim.Native.String.{String}
use Rattle.std.proofs.Math.ListN.{replicate}
use Rattle.songcode.specs.Bytes.{ascii}
use Rattle.songcode.specs.Answer.Tables.{Tables}

-- A chart and the words of its keys, sections, measures, beats and items.
pub record Shown : Type 0 where
  pub chart : List ℕ
  pub tables : Tables

abbrev shows : String → List ℕ → List ℕ → List ℕ → List ℕ → List ℕ → Shown
shows chart keys sections measures beats items =
    record { chart = ascii chart; tables = record { keys = keys; sections = sections; measures = measures; beats = beats; items = items } }

unfoldable pub shown : List Shown
unfolding ascii replicate
shown =
    -- "it prints exactly": the chart of the listing program
    shows
    "@time 4/4\n\nIntro\n@time 3/4\nA D E;G\n_cutStart -2\n--\n***In*** _2\n"
    (0 ∷ 0 ∷ 0 ∷ 0 ∷ 0 ∷ 0x800300C0 ∷ 0 ∷ 0 ∷ [])
    (0x00018000000107FF ∷ [])
    (0x00000020 ∷ 0x00000860 ∷ [])
    (0x50000010 ∷ 0x70000010 ∷ 0x70000000 ∷ 0x70000000 ∷ [])
    (0x0036000200000009 ∷ [])
    -- each section in its own N, cuts too; its own bpm, else 511
    ∷ shows
    "@time 4/4\n\nV\nA;G\n_cutEnd 1-1\n\nW\n@time 3/4\n@bpm 90\nA;G\n_cutEnd 1-1\n"
    (0 ∷ 0 ∷ 0 ∷ 0 ∷ 0 ∷ 0x800300C0 ∷ 0 ∷ 0 ∷ [])
    (0x00018000000089FF ∷ 0x000380008000865A ∷ [])
    (0x00000060 ∷ 0x00001840 ∷ [])
    (0x00000010 ∷ 0 ∷ 0 ∷ 0x00000010 ∷ 0 ∷ [])
    []
    -- bpm 0 is a bpm, the song's
    ∷ shows
    "@bpm 0\n\nV\nA\n"
    (0 ∷ 0 ∷ 0 ∷ 0 ∷ 0x80028040 ∷ 0 ∷ 0 ∷ 0 ∷ [])
    (0x0001800000008800 ∷ [])
    (0x00000080 ∷ [])
    (0x00000010 ∷ 0 ∷ 0 ∷ 0 ∷ [])
    []
    -- "A cut that takes it leaves 0": the head is gone, the chord stays
    ∷ shows
    "V\nA;G7\n_cutStart -2\n_cutEnd -3\n"
    (replicate 8 0)
    (0x00008000000109FF ∷ [])
    (0x00000040 ∷ 0x00001020 ∷ [])
    (0 ∷ 0 ∷ 0x70001430 ∷ [])
    []
    -- "the base is the longest that fits (so `Cb7` is C with `b7`)"
    ∷ shows
    "V\nCb7 Ebm9\n"
    (replicate 8 0)
    (0x00008000000089FF ∷ [])
    (0x00000080 ∷ [])
    (0x28000C50 ∷ 0x28000C40 ∷ 0x5C002430 ∷ 0x5C002420 ∷ [])
    []
    -- Request 2: "`Cmaj7` is C with `maj7`", `C#maj7` is C#; `Cmmaj7` and `Cma7` are Cm
    ∷ shows
    "V\nCmaj7 C#maj7 Cmmaj7 Cma7\n"
    (replicate 8 0)
    (0x00008000000089FF ∷ [])
    (0x00000080 ∷ [])
    (0x28000C90 ∷ 0x2C002890 ∷ 0x30004490 ∷ 0x30006050 ∷ [])
    []
    -- "`%` has its own" head; "63 silence"
    ∷ shows
    "V\nA;_;%\n"
    (replicate 8 0)
    (0x00008000000189FF ∷ [])
    (0x00000080 ∷ 0x00002080 ∷ 0x00004080 ∷ [])
    (0x00000010 ∷ 0 ∷ 0 ∷ 0 ∷ 0xFC000010 ∷ 0xFC000000 ∷ 0xFC000000 ∷ 0xFC000000 ∷ 0x00000010 ∷ 0 ∷
    0 ∷ 0 ∷ [])
    []
    -- "references put in": the items of the definition, once
    ∷ shows
    "$1\n%;A\n\n$2\nC7;$1\n\nV\n$2\n"
    (replicate 8 0)
    (0x00038000000189FF ∷ [])
    (0x00000080 ∷ 0x00002080 ∷ 0x00004080 ∷ [])
    (0x28003030 ∷ 0x28003020 ∷ 0x28003020 ∷ 0x28003020 ∷ 0x28003030 ∷ 0x28003020 ∷ 0x28003020 ∷ 0x28003020 ∷ 0x00000010 ∷ 0 ∷
    0 ∷ 0 ∷ [])
    []
    -- styles 0, 1 and 2; an item begins where the one before it ends
    ∷ shows
    "V\nA;A;A;A\n--\n*** In *** _1\n******* _1\n:::x:::\t_1\n***a::: _1\n"
    (replicate 8 0)
    (0x00008000000209FF ∷ [])
    (0x00000080 ∷ 0x00002080 ∷ 0x00004080 ∷ 0x00006080 ∷ [])
    (0x00000010 ∷ 0 ∷ 0 ∷ 0 ∷ 0x00000010 ∷ 0 ∷ 0 ∷ 0 ∷ 0x00000010 ∷ 0 ∷
    0 ∷ 0 ∷ 0x00000010 ∷ 0 ∷ 0 ∷ 0 ∷ [])
    (0x0010000400000005 ∷ 0x001E000100010005 ∷ 0x0029000100020006 ∷ 0x0031000700030004 ∷ [])
    -- an empty pattern plays nothing
    ∷ shows
    "$1\n\nV\n$1\n--\nGo _7\nStay\n"
    (replicate 8 0)
    (0x00018000000009FF ∷ [])
    []
    []
    []
    -- CR LF is one line end
    ∷ shows
    "V\r\nA\r\n"
    (replicate 8 0)
    (0x00008000000089FF ∷ [])
    (0x00000080 ∷ [])
    (0x00000010 ∷ 0 ∷ 0 ∷ 0 ∷ [])
    []
    -- a lone CR is one
    ∷ shows
    "V\rA\r--\rGo _1\r"
    (replicate 8 0)
    (0x00008000000089FF ∷ [])
    (0x00000080 ∷ [])
    (0x00000010 ∷ 0 ∷ 0 ∷ 0 ∷ [])
    (0x0007000200000004 ∷ [])
    -- "inside, a tab is a space": a name ends at it, and it is dropped at a line's end
    ∷ shows
    "@name\tThe  Song \n\nV\nA\n"
    (0x80030240 ∷ 0 ∷ 0 ∷ 0 ∷ 0 ∷ 0 ∷ 0 ∷ 0 ∷ [])
    (0x00018000000089FF ∷ [])
    (0x00000080 ∷ [])
    (0x00000010 ∷ 0 ∷ 0 ∷ 0 ∷ [])
    []
    -- in a pattern too
    ∷ shows
    "V\nA\tD;[G\t]2"
    (replicate 8 0)
    (0x00008000000189FF ∷ [])
    (0x00000080 ∷ 0x00002080 ∷ 0x00004080 ∷ [])
    (0x00000010 ∷ 0 ∷ 0x38000010 ∷ 0x38000000 ∷ 0x70000010 ∷ 0x70000000 ∷ 0x70000000 ∷ 0x70000000 ∷ 0x70000010 ∷ 0x70000000 ∷
    0x70000000 ∷ 0x70000000 ∷ [])
    []
    -- "keys, 8 in the order name, artist, original, capo, bpm, time, warning, end", however they are written
    ∷ shows
    "@end Bye\n@original Bbm\n@name Go\n@warning Hot\n@artist Us\n@time 1/4\n@bpm 120\n@capo 3\n\nV\nA"
    (0x800E8080 ∷ 0x801A8080 ∷ 0x800980C0 ∷ 0x80288040 ∷ 0x802380C0 ∷ 0x801F00C0 ∷ 0x801480C0 ∷ 0x800280C0 ∷ [])
    (0x0005000000008278 ∷ [])
    (0x00000020 ∷ [])
    (0x00000010 ∷ [])
    []
    -- the base chords, "numbered 0 to 33 as they stand"
    ∷ shows
    "V\n@time 1/4\nA;A#;Ab;Am;A#m;Abm;B;Bb;Bm;Bbm;C;C#;Cm;C#m;D;Db;D#;Dm;Dbm;D#m;E;Eb;Em;Ebm;F;F#;Fm;F#m;G;Gb;G#;Gm;Gbm;G#m"
    (replicate 8 0)
    (0x00008000001103FF ∷ [])
    (0x00000020 ∷ 0x00000820 ∷ 0x00001020 ∷ 0x00001820 ∷ 0x00002020 ∷ 0x00002820 ∷ 0x00003020 ∷ 0x00003820 ∷ 0x00004020 ∷ 0x00004820 ∷
    0x00005020 ∷ 0x00005820 ∷ 0x00006020 ∷ 0x00006820 ∷ 0x00007020 ∷ 0x00007820 ∷ 0x00008020 ∷ 0x00008820 ∷ 0x00009020 ∷ 0x00009820 ∷
    0x0000A020 ∷ 0x0000A820 ∷ 0x0000B020 ∷ 0x0000B820 ∷ 0x0000C020 ∷ 0x0000C820 ∷ 0x0000D020 ∷ 0x0000D820 ∷ 0x0000E020 ∷ 0x0000E820 ∷
    0x0000F020 ∷ 0x0000F820 ∷ 0x00010020 ∷ 0x00010820 ∷ [])
    (0x00000010 ∷ 0x04000010 ∷ 0x08000010 ∷ 0x0C000010 ∷ 0x10000010 ∷ 0x14000010 ∷ 0x18000010 ∷ 0x1C000010 ∷ 0x20000010 ∷ 0x24000010 ∷
    0x28000010 ∷ 0x2C000010 ∷ 0x30000010 ∷ 0x34000010 ∷ 0x38000010 ∷ 0x3C000010 ∷ 0x40000010 ∷ 0x44000010 ∷ 0x48000010 ∷ 0x4C000010 ∷
    0x50000010 ∷ 0x54000010 ∷ 0x58000010 ∷ 0x5C000010 ∷ 0x60000010 ∷ 0x64000010 ∷ 0x68000010 ∷ 0x6C000010 ∷ 0x70000010 ∷ 0x74000010 ∷
    0x78000010 ∷ 0x7C000010 ∷ 0x80000010 ∷ 0x84000010 ∷ [])
    []
    -- removers shorten a measure, which "counts as one measure"; lead-in and tail; items of a crew
    ∷ shows
    "V\n@time 6/4\nA % = ;_ G7sus4 _\n_before E\n_after [F]2\n--\n:::Stage left:::  _3\nOn\tand on _2"
    (replicate 8 0)
    (0x0000800000028DFF ∷ [])
    (0x000000C0 ∷ 0x00003080 ∷ 0x000050C0 ∷ 0x000080C0 ∷ 0x0000B0C0 ∷ [])
    (0x50000010 ∷ 0x50000000 ∷ 0x50000000 ∷ 0x50000000 ∷ 0x50000000 ∷ 0x50000000 ∷ 0x00000010 ∷ 0 ∷ 0x00000010 ∷ 0 ∷
    0xFC000010 ∷ 0xFC000000 ∷ 0x700058B0 ∷ 0x700058A0 ∷ 0xFC000010 ∷ 0xFC000000 ∷ 0x60000010 ∷ 0x60000000 ∷ 0x60000000 ∷ 0x60000000 ∷
    0x60000000 ∷ 0x60000000 ∷ 0x60000010 ∷ 0x60000000 ∷ 0x60000000 ∷ 0x60000000 ∷ 0x60000000 ∷ 0x60000000 ∷ [])
    (0x003A000A0000000E ∷ 0x004C000900030008 ∷ [])
    -- a loop that is referred to is put in once, and played as often as it says
    ∷ shows
    "$1\n[A]2\n\n$2\n$1;G\n\nV\n@time 1/4\n$2"
    (replicate 8 0)
    (0x00038000000183FF ∷ [])
    (0x00000020 ∷ 0x00000820 ∷ 0x00001020 ∷ [])
    (0x00000010 ∷ 0x00000010 ∷ 0x70000010 ∷ [])
    []
    ∷ []
