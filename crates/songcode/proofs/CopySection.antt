-- Request 1: the rows of a section's copy are a section again: the same header, keys and lyrics, its measures as its pattern, no modifier.
use Prim.Native.Nat.{ℕ, zero, suc, ◌+◌, ◌-◌}
use mathlib.Core.Path.{◌≡◌, refl, ap, sym, subst, ◌∙◌}
use mathlib.Core.List.{List, [], ◌∷◌, ◌++◌, map}
use mathlib.Core.Bool.{Bool, true, false, ◌&&◌, not}
use mathlib.Core.Option.{Option, none, some}
use native.Mathlib.Omega.{arith}
use lib.Dec.{eqb}
use borrow.Author.Tests.{not-true, eq-eqb}
use lib.ListN.{length, get_elem?, replicate}
use Rattle.songcode.specs.Lists.{provided◌then◌else◌, every}
use Rattle.songcode.specs.Bytes.{placed, values, ascii, is_byte, is_letter, is_blank}
use Rattle.songcode.specs.Answer.Chords.{Chord, bases}
use Rattle.songcode.specs.Answer.Numbers.{is_digit, digits, is_decimal, value_from}
use Rattle.songcode.specs.Answer.Lines.{Line, Block}
use Rattle.songcode.specs.Song.{Key, Pattern, items, named, LyricLine, Section, unmodified, Beat}
use Rattle.songcode.specs.Answer.Modifiers.{modifiers_said}
use Rattle.songcode.specs.Answer.Tokens.{reference, class}
use Rattle.songcode.specs.Description.WrittenPattern.{Number, Plain, NoPlain, spells_reference, Text, t_end, t_word, one_line, WrittenPattern}
use Rattle.songcode.specs.Description.WrittenSection.{Each, none_each, and_each, Distinct, SectionKey, OfSection, Together}
use Rattle.songcode.specs.Description.WrittenSection.{PatternBytes, PatternLine, PatternLines, LyricLines, no_lyrics, with_lyrics, WrittenSection}
use Rattle.songcode.specs.Description.Performance.{Parts, joined}
use Rattle.songcode.specs.Answer.Flat.{text_of, letters, letters_of, parted, spaced, flat_measure, flat_pattern}
use Rattle.songcode.specs.FlatDemands.{Within}
use Rattle.songcode.proofs.ListLaws.{true_is_not_false, nil_is_not_cons, both_pass}
use Rattle.songcode.proofs.PatternLaws.{none_some}
use Rattle.songcode.proofs.SaidOnce.{said_together}
use Rattle.songcode.proofs.ByteLaws.{values_placed, values_append}
use Rattle.songcode.proofs.CopyLines.{behind, behind_all, row_lines}
use Rattle.songcode.proofs.CopyMeasure.{SpeltIf, SpeltAll, letters_spelt}
use Rattle.songcode.proofs.CopyPattern.{SpeltRow, items_at, pattern_written}
use Rattle.songcode.proofs.Alike.{AlikeKey, key_alike, numbers_alike, header_alike}

pub rows_append : (n at : ℕ) (a b : List (List ℕ)) → row_lines n at (a ++ b) ≡ row_lines n at a ++ row_lines (n + length a) (behind_all at a) b
unfolding row_lines behind_all
rows_append n at [] b = let e : n + 0 ≡ n = omega arith in rw e
rows_append n at (r ∷ a) b = let e : suc n + length a ≡ n + suc (length a) = omega arith in rw (rows_append (suc n) (behind at r) a b, e)

pub rows_text : (n at : ℕ) (rs : List (List ℕ)) → map text_of (row_lines n at rs) ≡ rs
unfolding row_lines text_of
rows_text n at [] = refl
rows_text n at (r ∷ rs) = rw (values_placed at r, rows_text (suc n) (behind at r) rs)

-- Keys of a section.
section_keys : (ms ls : List Line) (ks : List Key) → map text_of ms ≡ map text_of ls → Each SectionKey ls ks
    → (js : List Key) × Each SectionKey ms js × Each AlikeKey js ks
section_keys [] ls ks e none_each = ([], none_each, none_each)
section_keys (m ∷ ms) ls ks e none_each = nil_is_not_cons (sym e)
section_keys [] ls ks e (and_each w ws) = nil_is_not_cons e
section_keys (m ∷ ms) ls ks e (and_each {x} {y} {xs} {ys} w ws) =
    let a = key_alike m x y (cc) w.line in
    let b = section_keys ms xs ys (cc) ws in
    (a.0 ∷ b.0, and_each (record { line = a.1; here = subst (λ k. OfSection k) (sym a.2.key) w.here }) b.1, and_each a.2 b.2)

-- Lyrics.
pub record AlikeLyric (m l : LyricLine) : Type 0 where
  pub text : values m.text ≡ values l.text

lyrics_each : (ms ls : List Line) → map text_of ms ≡ map text_of ls
    → Each AlikeLyric (map (λ m. record { number = m.number; text = m.text }) ms) (map (λ m. record { number = m.number; text = m.text }) ls)
unfolding text_of
lyrics_each [] [] e = none_each
lyrics_each [] (l ∷ ls) e = nil_is_not_cons e
lyrics_each (m ∷ ms) [] e = nil_is_not_cons (sym e)
lyrics_each (m ∷ ms) (l ∷ ls) e = let v : values m.text ≡ values l.text = cc in and_each (record { text = v }) (lyrics_each ms ls (cc))

lyrics_alike : (ms ls : List Line) (ys : List LyricLine) → map text_of ms ≡ map text_of ls → LyricLines ls ys
    → (zs : List LyricLine) × LyricLines ms zs × Each AlikeLyric zs ys
unfolding text_of
lyrics_alike [] ls ys e no_lyrics = ([], no_lyrics, none_each)
lyrics_alike (m ∷ ms) ls ys e no_lyrics = nil_is_not_cons (sym e)
lyrics_alike [] ls ys e (with_lyrics d) = nil_is_not_cons e
lyrics_alike (m ∷ []) ls ys e (with_lyrics d) = nil_is_not_cons (tail e)
  where
    tail : {a b : List ℕ} {c : List ℕ} {r : List (List ℕ)} → a ∷ [] ≡ b ∷ (c ∷ r) → [] ≡ c ∷ r
    tail h = cc
lyrics_alike (m ∷ k ∷ ms) ls ys e (with_lyrics {dashes} {l} {ls = more} d) =
    let v : values m.text ≡ values dashes.text = cc in
    let u : values k.text ≡ values l.text = cc in
    (_, with_lyrics {dashes = m} {l = k} {ls = ms} (v ∙ d), and_each (record { text = u }) (lyrics_each ms more (cc)))

-- `$1` as a whole pattern.
empty_text : (at : ℕ) → Text (placed at (ascii "$1")) (reference 1 ∷ [])
unfolding ascii placed class provided◌then◌else◌ is_blank is_byte Plain NoPlain is_decimal is_digit digits value_from
empty_text at =
    let n : Number 1 9999 (record { place = suc at; value = 49 } ∷ []) 1 =
    record { decimal = refl; says = refl; at_least = omega arith; at_most = omega arith } in
    t_word {w = record { place = suc at; value = 49 } ∷ []} refl (refl, tt) tt refl (spells_reference (record { place = at; value = 36 }) refl n) t_end

-- A measure's line begins with a base's letter, or with `_` alone or before a space: it is a pattern line.
unfoldable lettered : List ℕ → Bool
lettered [] = false
lettered (v ∷ r) = not (eqb v 64) && (not (eqb v 95) && not (eqb v 45))

bases_lettered : every lettered bases ≡ true
unfolding bases lettered every
bases_lettered = refl

pub get_every : {A : Type 0} (p : A → Bool) (xs : List A) (k : ℕ) (x : A) → every p xs ≡ true → get_elem? xs k ≡ some x → p x ≡ true
unfolding every
get_every p [] k x e h = none_some refl h
get_every p (y ∷ xs) zero x e h = let z : y ≡ x = cc in subst (λ w. p w ≡ true) z (both_pass (p y) (every p xs) e).0
get_every p (y ∷ xs) (suc k) x e h = get_every p xs k x (both_pass (p y) (every p xs) e).1 h

opens_line : (n at : ℕ) (r : List ℕ) → lettered r ≡ true → PatternLine (record { number = n; text = placed at r })
unfolding lettered placed PatternBytes is_byte values ascii
opens_line n at [] h = true_is_not_false h refl
opens_line n at (v ∷ r) h =
    let a = both_pass (not (eqb v 64)) (not (eqb v 95) && not (eqb v 45)) h in
    let b = both_pass (not (eqb v 95)) (not (eqb v 45)) a.1 in
    record { kind = kind r (not-true (eqb v 64) a.0) (not-true (eqb v 95) b.0); undashed = λ e. dashed e (not-true (eqb v 45) b.1) }
  where
    kind : (r : List ℕ) → eqb v 64 ≡ false → eqb v 95 ≡ false → PatternBytes (record { place = at; value = v } ∷ placed (suc at) r)
    kind [] p q = p
    kind (c ∷ r) p q = (p, λ u. true_is_not_false u q)

    dashed : values (record { place = at; value = v } ∷ placed (suc at) r) ≡ ascii "--" → eqb v 45 ≡ false → ⊥
    dashed e p = let z : v ≡ 45 = cc in true_is_not_false (eq-eqb v 45 z) p

silent_line : (n at : ℕ) (ws : List (List ℕ)) → PatternLine (record { number = n; text = placed at (95 ∷ parted ws) })
unfolding parted placed PatternBytes is_byte is_letter values ascii
silent_line n at [] = record { kind = refl; undashed = λ e. true_is_not_false {b = eqb 95 45} (let z : 95 ≡ 45 = cc in eq-eqb 95 45 z) refl }
silent_line n at (w ∷ ws) = record { kind = (refl, λ u. refl); undashed = λ e. true_is_not_false {b = eqb 95 45} (let z : 95 ≡ 45 = cc in eq-eqb 95 45 z) refl }

lettered_append : (a b : List ℕ) → lettered a ≡ true → lettered (a ++ b) ≡ true
unfolding lettered
lettered_append [] b h = true_is_not_false h refl
lettered_append (v ∷ a) b h = h

sound_line : (n at : ℕ) (h : Option Chord) (ws : List (List ℕ)) → SpeltIf h → PatternLine (record { number = n; text = placed at (letters h ++ parted ws) })
unfolding letters ascii SpeltIf
sound_line n at none ws s = silent_line n at ws
sound_line n at (some c) ws s =
    let w = s.spelled in
    let l : lettered (values w.base) ≡ true = get_every lettered bases c.base (values w.base) bases_lettered w.numbered in
    let g : lettered (letters (some c)) ≡ true =
    rw (letters_spelt c s, w.joined, values_append w.base c.extension) (lettered_append (values w.base) (values c.extension) l) in
    opens_line n at (letters (some c) ++ parted ws) (lettered_append (letters (some c)) (parted ws) g)

measure_line_lem : (n at k : ℕ) (b : Beat) (m : List Beat) → SpeltAll (b ∷ m) → PatternLine (record { number = n; text = placed at (flat_measure k (b ∷ m)) })
unfolding flat_measure spaced letters_of SpeltAll
measure_line_lem n at k b m s = sound_line n at b.sounds (map letters_of m ++ replicate (k - length (b ∷ m)) (ascii "=")) s.0

measure_lines_lem : (n at k : ℕ) (ms : List (List Beat)) → Within k ms → SpeltRow ms → PatternLines (row_lines n at (map (flat_measure k) ms))
unfolding row_lines Within SpeltRow PatternLines
measure_lines_lem n at k [] w s = tt
measure_lines_lem n at k ([] ∷ ms) w s = absurd (let h = w.0 in omega arith)
measure_lines_lem n at k ((b ∷ m) ∷ ms) w s = (measure_line_lem n at k b m s.0, measure_lines_lem (suc n) (behind at (flat_measure k (b ∷ m))) k ms w.2 s.1)

dollar_line : (n at : ℕ) → PatternLine (record { number = n; text = placed at (ascii "$1") })
unfolding ascii lettered
dollar_line n at = opens_line n at (ascii "$1") refl

-- The pattern of a section's copy whose measures are there.
unfoldable pub pattern_at : ℕ → ℕ → List (List Beat) → Pattern
unfolding items_at
pattern_at k at [] = named 1
pattern_at k at ([] ∷ ms) = named 1
pattern_at k at ((b ∷ m) ∷ ms) = items (items_at k at b m ms)

record PatternRows (n at k : ℕ) (row : List (List Beat)) : Type 0 where
  first : Line
  more : List Line
  lines : row_lines n at (flat_pattern k row) ≡ first ∷ more
  are_lines : PatternLines (first ∷ more)
  written : WrittenPattern first more (pattern_at k at row)

pattern_rows : (n at k : ℕ) (row : List (List Beat)) → Within k row → SpeltRow row → PatternRows n at k row
unfolding row_lines flat_pattern pattern_at PatternLines WrittenPattern Within SpeltRow
pattern_rows n at k [] w s =
    record {
      first = record { number = n; text = placed at (ascii "$1") };
      more = [];
      lines = refl;
      are_lines = (dollar_line n at, tt);
      written = one_line (empty_text at);
    }
pattern_rows n at k ([] ∷ ms) w s = absurd (let h = w.0 in omega arith)
pattern_rows n at k ((b ∷ m) ∷ ms) w s =
    record {
      first = record { number = n; text = placed at (flat_measure k (b ∷ m)) };
      more = row_lines (suc n) (behind at (flat_measure k (b ∷ m))) (map (flat_measure k) ms);
      lines = refl;
      are_lines = (measure_line_lem n at k b m s.0, measure_lines_lem (suc n) (behind at (flat_measure k (b ∷ m))) k ms w.2 s.1);
      written = pattern_written k n at b m ms w s;
    }

-- A section and its copy: alike but for places, its measures written out.
pub record FlatSection (x : Section) (k at : ℕ) (row : List (List Beat)) (y : Section) : Type 0 where
  pub keys : Each AlikeKey y.keys x.keys
  pub pattern : y.pattern ≡ pattern_at k at row
  pub modifiers : y.modifiers ≡ unmodified
  pub lyrics : Each AlikeLyric y.lyrics x.lyrics

none_together : Together [] unmodified
unfolding modifiers_said unmodified Distinct
none_together = said_together [] tt

pub section_again : (b : Block) (x : Section) (w : WrittenSection b x) (p : Parts) (n at : ℕ) → Within p.meter (joined p) → SpeltRow (joined p)
    → let header = text_of b.first in
    let rest = map text_of w.key_lines ++ (flat_pattern p.meter (joined p) ++ map text_of w.last_lines) in
    (y : Section)
    × (v : WrittenSection (record { first = record { number = n; text = placed at header }; others = row_lines (suc n) (behind at header) rest }) y)
    × FlatSection x p.meter (behind_all (behind at header) (map text_of w.key_lines)) (joined p) y
    × (map text_of v.key_lines ≡ map text_of w.key_lines)
    × (map text_of v.last_lines ≡ map text_of w.last_lines)
unfolding text_of Distinct
section_again b x w p n at i s =
    let header = text_of b.first in
    let keyRows = map text_of w.key_lines in
    let lastRows = map text_of w.last_lines in
    let patternRows = flat_pattern p.meter (joined p) in
    let at1 = behind at header in
    let n2 = suc n + length keyRows in
    let at2 = behind_all at1 keyRows in
    let n3 = n2 + length patternRows in
    let at3 = behind_all at2 patternRows in
    let t = pattern_rows n2 at2 p.meter (joined p) i s in
    let k = section_keys (row_lines (suc n) at1 keyRows) w.key_lines x.keys (rows_text (suc n) at1 keyRows) w.keys in
    let y = lyrics_alike (row_lines n3 at3 lastRows) w.last_lines x.lyrics (rows_text n3 at3 lastRows) w.lyrics in (
      record { header = n; keys = k.0; pattern = pattern_at p.meter at2 (joined p); modifiers = unmodified; lyrics = y.0 },
      record {
        key_lines = row_lines (suc n) at1 keyRows;
        first_pattern = t.first;
        more_pattern = t.more;
        modifier_lines = [];
        last_lines = row_lines n3 at3 lastRows;
        written =
            rows_append (suc n) at1 keyRows (patternRows ++ lastRows)
            ∙ ap (λ r. row_lines (suc n) at1 keyRows ++ r) (rows_append n2 at2 patternRows lastRows ∙ ap (λ r. r ++ row_lines n3 at3 lastRows) t.lines);
        header = header_alike (placed at header) b.first.text (values_placed at header) w.header;
        header_number = refl;
        keys = k.1;
        keys_once = rw (numbers_alike k.2) w.keys_once;
        pattern_lines = t.are_lines;
        pattern = t.written;
        said = [];
        each_says = none_each;
        modifiers_once = tt;
        modifiers = none_together;
        lyrics = y.1;
      },
      record { keys = k.2; pattern = refl; modifiers = refl; lyrics = y.2 },
      rows_text (suc n) at1 keyRows,
      rows_text n3 at3 lastRows,
    )
