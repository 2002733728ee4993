-- The sections of a copy have the original's words, but for the lines of their headers; all fields fit.
use Prim.Native.Nat.{ℕ, suc, ◌+◌, ◌<◌, ◌≤◌}
use mathlib.Core.Path.{◌≡◌, refl, subst}
use mathlib.Core.List.{List, [], ◌∷◌, map}
use mathlib.Core.Option.{Option, none, some, get_or}
use native.Mathlib.Omega.{arith}
use lib.ListN.{length, length-append}
use Rattle.songcode.specs.Bytes.{Byte}
use Rattle.songcode.specs.Answer.Lines.{Line, Block}
use Rattle.songcode.specs.Song.{KeyName, bpm, time, Section, Song}
use Rattle.songcode.specs.Answer.Tables.{section_word}
use Rattle.songcode.specs.Description.WrittenText.{Cuts, last_line, ends_lf, ends_cr, ends_crlf, Counts, no_line, a_line, WrittenBlocks, no_block}
use Rattle.songcode.specs.Description.WrittenText.{a_blank, a_block}
use Rattle.songcode.specs.Description.WrittenPattern.{Number}
use Rattle.songcode.specs.Description.WrittenSection.{none_each, and_each, TimeText}
use Rattle.songcode.specs.Description.WrittenSection as Written
use Rattle.songcode.specs.Description.WrittenSong.{SectionBlock, WrittenChart}
use Rattle.songcode.specs.Description.Performance.{Says, Inherits, as_often, Parts, PlaysSection, joined}
use Rattle.songcode.specs.Description.Fits.{uncut_length, Fits}
use Rattle.songcode.specs.Description.WrittenTables.{parts_words}
use Rattle.songcode.specs.Description.Layout.{sections_row, laid, without}
use Rattle.songcode.proofs.LayoutLaws.{words_laid}
use Rattle.songcode.proofs.ByteLaws.{length_placed}
use Rattle.songcode.proofs.ListLaws.{Each, append_each}
use Rattle.songcode.proofs.CopySong.{Ready, FlatSections, no_flat, a_flat, parts_at, flat_parts}
use Rattle.songcode.proofs.CopyFits.{middle_shorter, uncut_longer, joined_length}
use Rattle.songcode.proofs.CopyWords.{section_without}

-- Lines are no more than the bytes and one.
lines_few : {bs : List Byte} {ls : List (List Byte)} → Cuts bs ls → length ls ≤ suc (length bs)
lines_few (last_line i) = omega arith
lines_few (ends_lf {l} {ts} b i e k z) = let h = lines_few k in rw (z, length-append) (omega arith)
lines_few (ends_cr {l} {ts} b i e n k z) = let h = lines_few k in rw (z, length-append) (omega arith)
lines_few (ends_crlf {l} {ts} b d i e f k z) = let h = lines_few k in rw (z, length-append) (omega arith)

-- A line of a number below another.
unfoldable Before : ℕ → Line → Type 0
Before k l = l.number < k

counts_before : (k n : ℕ) {raws : List (List Byte)} {ls : List Line} → Counts n raws ls → n + length raws ≤ k → Each (Before k) ls
unfolding Each Before
counts_before k n no_line h = tt
counts_before k n (a_line t c) h = (omega arith, counts_before k (suc n) c (omega arith))

first_before : (k : ℕ) {ls : List Line} {bs : List Block} → WrittenBlocks ls bs → Each (Before k) ls → Each (λ b. Before k b.first) bs
unfolding Each
first_before k no_block f = tt
first_before k (a_blank e w) f = first_before k w f.1
first_before k (a_block {l} {w} {ls} e n s z r) f = (f.0, first_before k r (append_each (Before k) w ls (subst (λ x. Each (Before k) x) z f.1)).1)

headers_before : (k : ℕ) {bs : List Block} {xs : List Section} → Written.Each SectionBlock bs xs → Each (λ b. Before k b.first) bs
    → Each (λ x. x.header < k) xs
unfolding Each Before
headers_before k none_each f = tt
headers_before k (and_each w ws) f = (rw w.section.header_number f.0, headers_before k ws f.1)

-- "header line 17": a file of 65,536 bytes has 65,537 lines.
pub chart_headers : {bs : List ℕ} {s : Song} → WrittenChart bs s → Each (λ x. x.header < 131072) s.sections
chart_headers {bs} w =
    let l = lines_few w.lines_written.cuts in
    let p = length_placed 0 bs in
    let h = w.short in
    let ls = counts_before 131072 1 w.lines_written.counts (omega arith) in
    let b = subst (λ x. Each (λ b. Before 131072 b.first) x) w.song.written (first_before 131072 w.blocks_written ls) in
    let c = (append_each (λ (b : Block). Before 131072 b.first) w.song.metadata _ b).1 in
    headers_before 131072 w.song.sections (append_each (λ (b : Block). Before 131072 b.first) w.song.definition_blocks w.song.section_blocks c).1

-- What a section has from its keys is in its range.
inherits_most : (k : KeyName) (meaning : List Byte → ℕ → Type 0) (most default : ℕ) → ((text : List Byte) (n : ℕ) → meaning text n → n ≤ most) → default ≤ most
    → (s : Song) (x : Section) (n : ℕ) → Inherits k meaning default s x n → n ≤ most
unfolding Says
inherits_most k meaning most default f d s x n i = rw i.chosen (either i.own i.own_says (either_song i.songs i.song_says))
  where
    either_song : (o : Option ℕ) → Says k meaning s.keys o → get_or o default ≤ most
    either_song none h = d
    either_song (some m) h = f h.0 m h.2

    either : (o : Option ℕ) → Says k meaning x.keys o → get_or i.songs default ≤ most → get_or o (get_or i.songs default) ≤ most
    either none h e = e
    either (some m) h e = f h.0 m h.2

pub meter_most : (s : Song) (x : Section) (p : Parts) → PlaysSection s x p → p.meter ≤ 32
meter_most s x p h = inherits_most time TimeText 32 4 (λ text n t. t.number.at_most) (omega arith) s x p.meter h.meter

pub tempo_most : (s : Song) (x : Section) (p : Parts) → PlaysSection s x p → p.tempo ≤ 511
tempo_most s x p h = inherits_most bpm (Number 0 400) 511 511 (λ text n t. let m = t.at_most in omega arith) (omega arith) s x p.tempo h.tempo

-- The measures of sections, and that the song has few.
unfoldable pub all_length : List Parts → ℕ
unfolding joined
all_length [] = 0
all_length (p ∷ ps) = length (joined p) + all_length ps

parts_few : (s : Song) {xs : List Section} {ps : List Parts} → Written.Each (PlaysSection s) xs ps → all_length ps ≤ uncut_length xs ps
unfolding all_length uncut_length
parts_few s none_each = omega arith
parts_few s (and_each {x} {y = p} h hs) =
    let more = parts_few s hs in
    let m = uncut_longer (as_often x.modifiers) p (middle_shorter p.meter x.modifiers _ p.pass p.middle h.pattern) in
    omega arith

pub measures_few : {s : Song} {ps : List Parts} → Fits s ps → all_length ps ≤ 65535
measures_few {s} f =
    let m = parts_few s f.plays in
    let h = f.short in
    omega arith

sections_by : (s : Song) (first : ℕ) {xs : List Section} {ps : List Parts} {ys : List Section} (g : FlatSections xs ps ys) → Ready ps
    → Written.Each (PlaysSection s) xs ps
    → first + all_length ps ≤ 65535 → Each (λ x. x.header < 131072) xs → Each (λ x. x.header < 131072) ys
    → map (without 47 17) (parts_words first ys (flat_parts g)) ≡ map (without 47 17) (parts_words first xs ps)
unfolding parts_words flat_parts all_length Each Ready section_word
sections_by s first no_flat r none_each l a b = refl
sections_by s first (a_flat {x} {y} {p} at f fs) r (and_each h hs) l a b =
    let n = meter_most s x p h in
    let t = tempo_most s x p h in
    let m = joined_length p at r.0.0 in
    same y.header x.header first (length (joined (parts_at p at))) (length (joined p)) p.meter p.tempo m b.0 a.0 (omega arith)
    (omega arith) (omega arith) (omega arith)
    (rw m (sections_by s (first + length (joined p)) fs r.1 hs (omega arith) a.1 b.1))
  where
    same : (h g f l m n t : ℕ) → l ≡ m → h < 131072 → g < 131072 → f < 65536 → m < 65536 → n < 64 → t < 512 → {ws us : List ℕ} → ws ≡ us
        → without 47 17 (laid sections_row (h ∷ f ∷ l ∷ n ∷ t ∷ [])) ∷ ws ≡ without 47 17 (laid sections_row (g ∷ f ∷ m ∷ n ∷ t ∷ [])) ∷ us
    same h g f l m n t q i j k o c d e =
        rw (
          q,
          ← (words_laid.section h f m n t),
          ← (words_laid.section g f m n t),
          section_without h f m n t i k o c d,
          section_without g f m n t j k o c d,
          e,
        )

pub sections_kept : (s : Song) {ps : List Parts} {xs ys : List Section} (g : FlatSections xs ps ys) → Ready ps → Written.Each (PlaysSection s) xs ps
    → all_length ps ≤ 65535
    → Each (λ x. x.header < 131072) xs → Each (λ x. x.header < 131072) ys
    → map (without 47 17) (parts_words 0 ys (flat_parts g)) ≡ map (without 47 17) (parts_words 0 xs ps)
sections_kept s g r h l a b = sections_by s 0 g r h (omega arith) a b
