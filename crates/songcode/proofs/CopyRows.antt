-- Request 1: every row of a copy is a line as it stands, of whole characters; so the copy is.
use Prim.Native.Nat.{ℕ, zero, suc, ◌-◌, ◌≤◌}
use mathlib.Core.Path.{◌≡◌, refl, sym, subst}
use mathlib.Core.List.Memᴰ
use mathlib.Core.List.{List, [], ◌∷◌, ◌++◌, map, append-nil, flat_map}
use mathlib.Core.Bool.{Bool, true, false}
use mathlib.Core.Option.{Option, none, some}
use native.Mathlib.Omega.{arith}
use lib.ListN.{length, replicate}
use Rattle.songcode.specs.Lists.{provided◌then◌else◌, is_empty, when, any}
use Rattle.songcode.specs.Bytes.{Byte, placed, values, ascii, is_blank}
use Rattle.songcode.specs.Answer.Chords.{Chord}
use Rattle.songcode.specs.Answer.Characters.{forms, form, within}
use Rattle.songcode.specs.Answer.Lines.{Line, Block, ending, inside}
use Rattle.songcode.specs.Song.{Section, Song, Beat}
use Rattle.songcode.specs.Answer.Tokens.{class, blank, plain}
use Rattle.songcode.specs.Description.WrittenText.{Follows, Solid, last_of, Inside, Characters, no_character, a_character, is_blank_line}
use Rattle.songcode.specs.Description.WrittenPattern.{Plain}
use Rattle.songcode.specs.Description.WrittenSection as Written
use Rattle.songcode.specs.Description.WrittenSection.{none_each, and_each, WrittenSection}
use Rattle.songcode.specs.Description.WrittenSong.{lines_of, SectionBlock, WrittenChart}
use Rattle.songcode.specs.Description.Performance.{Parts, joined}
use Rattle.songcode.specs.Description.Fits.{Fits}
use Rattle.songcode.specs.Answer.Flat.{text_of, letters, letters_of, parted, spaced, flat_measure, flat_pattern}
use Rattle.songcode.specs.Answer.Flat.{section_rows, key_block, empty_block, end_line, further_rows, copy_rows, copy_bytes}
use Rattle.songcode.specs.FlatDemands.{Within}
use Rattle.songcode.specs.Description.WrittenFlat.{rows_of, rows_of_all, silent_part, blocks_copied}
use Rattle.songcode.proofs.ListLaws.{by_cases, true_is_not_false, Each, each_append, append_each}
use Rattle.songcode.proofs.ByteLaws.{length_values}
use Rattle.songcode.proofs.CharacterPieces.{characters_append}
use Rattle.songcode.proofs.FineLines.{Fine, FineLine, BlockLine, BlockFine}
use Rattle.songcode.proofs.CopyLines.{Clean, AllClean, Filled, filled, AllFilled, Printed}
use Rattle.songcode.proofs.CopyMeasure.{SpeltIf, SpeltAll, letters_spelt}
use Rattle.songcode.proofs.CopyPattern.{SpeltRow}
use Rattle.songcode.proofs.CopySong.{Ready}
use Rattle.songcode.proofs.CopyReady.{chart_fine, ready}

-- By values alone: no line end; a first and a last byte that are no blanks.
unfoldable pub InV : List ℕ → Type 0
InV [] = Unit {0}
InV (v ∷ r) = (ending (record { place = 0; value = v }) ≡ inside) × InV r

unfoldable pub blank_v : ℕ → Bool
unfolding is_blank
blank_v v = is_blank (record { place = 0; value = v })

unfoldable pub StartV : List ℕ → Type 0
StartV [] = ⊥
StartV (v ∷ r) = blank_v v ≡ false

unfoldable pub EndV : List ℕ → Type 0
EndV [] = ⊥
EndV (v ∷ []) = blank_v v ≡ false
EndV (v ∷ w ∷ r) = EndV (w ∷ r)

pub record RowFine (r : List ℕ) : Type 0 where
  pub ins : InV r
  pub start : StartV r
  pub stop : EndV r
  pub whole : Characters r

in_placed : (at : ℕ) (r : List ℕ) → InV r → Inside (placed at r)
unfolding InV Inside placed ending provided◌then◌else◌
in_placed at [] i = tt
in_placed at (v ∷ r) i = (i.0, in_placed (suc at) r i.1)

end_placed : (at v : ℕ) (r : List ℕ) → EndV (v ∷ r) → is_blank (last_of (record { place = at; value = v }) (placed (suc at) r)) ≡ false
unfolding EndV last_of placed blank_v is_blank
end_placed at v [] e = e
end_placed at v (w ∷ r) e = end_placed (suc at) w r e

solid_placed : (at : ℕ) (r : List ℕ) → StartV r → EndV r → Solid (placed at r)
unfolding StartV Solid placed blank_v is_blank
solid_placed at [] s e = absurd s
solid_placed at (v ∷ r) s e = (s, end_placed at v r e)

row_clean : (r : List ℕ) → RowFine r → Clean r
row_clean r f = record { inside = λ at. in_placed at r f.ins; solid = λ at. solid_placed at r f.start f.stop }

row_filled : (r : List ℕ) → RowFine r → Filled r
unfolding StartV
row_filled [] f = absurd f.start
row_filled (v ∷ r) f = filled

-- Lines of blocks.
in_values : (bs : List Byte) → Inside bs → InV (values bs)
unfolding InV Inside values ending provided◌then◌else◌
in_values [] i = tt
in_values (b ∷ bs) i = (i.0, in_values bs i.1)

end_values : (b : Byte) (bs : List Byte) → is_blank (last_of b bs) ≡ false → EndV (values (b ∷ bs))
unfolding EndV last_of values blank_v is_blank
end_values b [] e = e
end_values b (c ∷ bs) e = end_values c bs e

line_row : (file : List Byte) (l : Line) → BlockLine file l → RowFine (text_of l)
unfolding BlockLine FineLine text_of is_blank_line Solid StartV blank_v is_blank
line_row file l f = go l.text f.0 f.1
  where
    go : (bs : List Byte) → Fine file bs → is_empty bs ≡ false → RowFine (values bs)
    go [] g e = true_is_not_false refl e
    go (b ∷ bs) g e = record { ins = in_values (b ∷ bs) g.within; start = g.solid.0; stop = end_values b bs g.solid.1; whole = g.whole }

lines_rows : (file : List Byte) (ls : List Line) → Each (BlockLine file) ls → Each RowFine (map text_of ls)
unfolding Each
lines_rows file [] f = tt
lines_rows file (l ∷ ls) f = (line_row file l f.0, lines_rows file ls f.1)

-- Words of measures: no blank in them.
unfoldable Solids : List ℕ → Type 0
Solids [] = Unit {0}
Solids (v ∷ r) = (blank_v v ≡ false) × Solids r

record WordFine (w : List ℕ) : Type 0 where
  ins : InV w
  solids : Solids w
  some_byte : 1 ≤ length w
  whole : Characters w

in_append : (a b : List ℕ) → InV a → InV b → InV (a ++ b)
unfolding InV
in_append [] b p q = q
in_append (v ∷ a) b p q = (p.0, in_append a b p.1 q)

end_append : (a : List ℕ) (v : ℕ) (b : List ℕ) → EndV (v ∷ b) → EndV (a ++ (v ∷ b))
unfolding EndV
end_append [] v b e = e
end_append (x ∷ []) v b e = e
end_append (x ∷ y ∷ a) v b e = end_append (y ∷ a) v b e

solids_end : (w : List ℕ) → 1 ≤ length w → Solids w → EndV w
unfolding EndV Solids
solids_end [] h s = absurd (omega arith)
solids_end (v ∷ []) h s = s.0
solids_end (v ∷ w ∷ r) h s = solids_end (w ∷ r) (omega arith) s.1

lone : (v : ℕ) → within 1 0x7F v ≡ true → Characters (v ∷ [])
unfolding Follows forms
lone v e =
    let f = form 0x01 0x7F 0 0x80 0xBF in
    a_character (record {
      form = f;
      listed = Memᴰ.head refl;
      first = v;
      rest = [];
      spelled = refl;
      begins = e;
      as_many = refl;
      follows = tt;
    }) refl no_character

record Behind (ws : List (List ℕ)) : Type 0 where
  ins : InV (parted ws)
  whole : Characters (parted ws)

behind_words : (ws : List (List ℕ)) → Each WordFine ws → Behind ws
unfolding Each parted InV ending provided◌then◌else◌ within
behind_words [] f = record { ins = tt; whole = no_character }
behind_words (w ∷ ws) f =
    let b = behind_words ws f.1 in
    record { ins = (refl, in_append w (parted ws) f.0.ins b.ins); whole = characters_append (lone 32 refl) (characters_append f.0.whole b.whole) }

end_words : (w : List ℕ) (ws : List (List ℕ)) → WordFine w → Each WordFine ws → EndV (w ++ parted ws)
unfolding Each parted EndV
end_words w [] f fs = rw append-nil (solids_end w f.some_byte f.solids)
end_words w (v ∷ ws) f fs = end_append w 32 (v ++ parted ws) (behind_end v (end_words v ws fs.0 fs.1))
  where
    behind_end : (v : List ℕ) → EndV (v ++ parted ws) → EndV (32 ∷ (v ++ parted ws))
    behind_end v e = more (v ++ parted ws) e
      where
        more : (r : List ℕ) → EndV r → EndV (32 ∷ r)
        more [] h = absurd h
        more (x ∷ r) h = h

start_words : (w rest : List ℕ) → WordFine w → StartV (w ++ rest)
unfolding StartV Solids
start_words [] rest f = absurd (let h = f.some_byte in omega arith)
start_words (v ∷ w) rest f = f.solids.0

spaced_row : (w : List ℕ) (ws : List (List ℕ)) → WordFine w → Each WordFine ws → RowFine (spaced (w ∷ ws))
unfolding spaced
spaced_row w ws f fs =
    let b = behind_words ws fs in
    record {
      ins = in_append w (parted ws) f.ins b.ins;
      start = start_words w (parted ws) f;
      stop = end_words w ws f fs;
      whole = characters_append f.whole b.whole;
    }

-- The words of a beat and of a missing one.
plain_solid : (b : Byte) → class b ≡ plain → is_blank b ≡ false
unfolding class provided◌then◌else◌
plain_solid b e = by_cases (is_blank b) (λ h. let f : blank ≡ plain = rw h at e in
    let z : ◌≡◌ {A = ℕ} 0 1 = cc in absurd (omega arith)) (λ h. h)

solids_plain : (bs : List Byte) → Plain bs → Solids (values bs)
unfolding Plain Solids values blank_v is_blank
solids_plain [] p = tt
solids_plain (b ∷ bs) p = (plain_solid b p.0, solids_plain bs p.1)

sound_word : (h : Option Chord) → SpeltIf h → WordFine (letters h)
unfolding SpeltIf letters ascii InV Solids blank_v is_blank ending provided◌then◌else◌ within
sound_word none s = record { ins = (refl, tt); solids = (refl, tt); some_byte = omega arith; whole = lone 95 refl }
sound_word (some c) s =
    let e = letters_spelt c s in
    subst (λ w. WordFine w) (sym e)
    (record { ins = in_values s.word s.within; solids = solids_plain s.word s.plainly; some_byte = rw length_values s.filled; whole = s.whole })

remover_word : WordFine (ascii "=")
unfolding ascii InV Solids blank_v is_blank ending provided◌then◌else◌ within
remover_word = record { ins = (refl, tt); solids = (refl, tt); some_byte = omega arith; whole = lone 61 refl }

removers_fine : (k : ℕ) → Each WordFine (replicate k (ascii "="))
unfolding Each
removers_fine zero = tt
removers_fine (suc k) = (remover_word, removers_fine k)

beats_fine : (m : List Beat) → SpeltAll m → Each WordFine (map letters_of m)
unfolding Each SpeltAll letters_of
beats_fine [] s = tt
beats_fine (b ∷ m) s = (sound_word b.sounds s.0, beats_fine m s.1)

measure_row : (k : ℕ) (b : Beat) (m : List Beat) → SpeltAll (b ∷ m) → RowFine (flat_measure k (b ∷ m))
unfolding flat_measure SpeltAll letters_of
measure_row k b m s =
    spaced_row (letters b.sounds) (map letters_of m ++ replicate (k - length (b ∷ m)) (ascii "=")) (sound_word b.sounds s.0)
    (each_append WordFine (map letters_of m) (replicate (k - length (b ∷ m)) (ascii "=")) (beats_fine m s.1) (removers_fine (k - length (b ∷ m))))

dollar_row : RowFine (ascii "$1")
unfolding ascii InV StartV EndV blank_v is_blank ending provided◌then◌else◌ within
dollar_row = record { ins = (refl, (refl, tt)); start = refl; stop = refl; whole = characters_append (lone 36 refl) (lone 49 refl) }

measures_rows : (k : ℕ) (ms : List (List Beat)) → Within k ms → SpeltRow ms → Each RowFine (map (flat_measure k) ms)
unfolding Each Within SpeltRow
measures_rows k [] w s = tt
measures_rows k ([] ∷ ms) w s = absurd (let h = w.0 in omega arith)
measures_rows k ((b ∷ m) ∷ ms) w s = (measure_row k b m s.0, measures_rows k ms w.2 s.1)

pattern_rows : (k : ℕ) (row : List (List Beat)) → Within k row → SpeltRow row → Each RowFine (flat_pattern k row)
unfolding flat_pattern Each Within SpeltRow
pattern_rows k [] w s = (dollar_row, tt)
pattern_rows k ([] ∷ ms) w s = absurd (let h = w.0 in omega arith)
pattern_rows k ((b ∷ m) ∷ ms) w s = (measure_row k b m s.0, measures_rows k ms w.2 s.1)

-- Blocks of fine rows, none of them empty.
unfoldable pub BlockRows : List (List ℕ) → Type 0
BlockRows [] = ⊥
BlockRows (r ∷ rs) = RowFine r × Each RowFine rs

section_rows_lem : (file : List Byte) (b : Block) (x : Section) (w : WrittenSection b x) (p : Parts) → BlockFine file b → Within p.meter (joined p)
    → SpeltRow (joined p) → BlockRows (rows_of w p)
unfolding rows_of section_rows BlockRows BlockFine
section_rows_lem file b x w p f i s =
    let all = subst (λ ls. Each (BlockLine file) ls) w.written f.1 in
    let q = append_each (BlockLine file) w.key_lines _ all in
    let r = append_each (BlockLine file) (w.first_pattern ∷ w.more_pattern) (w.modifier_lines ++ w.last_lines) q.1 in
    let l = (append_each (BlockLine file) w.modifier_lines w.last_lines r.1).1 in
    let m = each_append RowFine (flat_pattern p.meter (joined p)) _ (pattern_rows p.meter (joined p) i s) (lines_rows file w.last_lines l) in
    (line_row file b.first f.0, each_append RowFine (map text_of w.key_lines) _ (lines_rows file w.key_lines q.0) m)

sections_rows : (file : List Byte) {bs : List Block} {xs : List Section} (ws : Written.Each SectionBlock bs xs) (ps : List Parts)
    → Each (BlockFine file) bs → Ready ps → Each BlockRows (rows_of_all ws ps)
unfolding rows_of_all Each Ready
sections_rows file none_each ps f r = tt
sections_rows file (and_each w ws) [] f r = tt
sections_rows file (and_each {x = b} {y = x} w ws) (p ∷ ps) f r =
    (section_rows_lem file b x w.section p f.0 r.0.0 r.0.1, sections_rows file ws ps f.1 r.1)

keys_rows : (file : List Byte) (ls : List Line) → Each (BlockLine file) ls → Each BlockRows (key_block (map text_of ls))
unfolding key_block Each BlockRows
keys_rows file [] f = tt
keys_rows file (l ∷ ls) f = ((line_row file l f.0, lines_rows file ls f.1), tt)

empty_rows : (needed : Bool) → Each BlockRows (empty_block needed)
unfolding empty_block when Each BlockRows
empty_rows true = ((dollar_row, tt), tt)
empty_rows false = tt

pub block_lines : (file : List Byte) (bs : List Block) → Each (BlockFine file) bs → Each (BlockLine file) (lines_of bs)
unfolding lines_of Each BlockFine
block_lines file [] f = tt
block_lines file (b ∷ bs) f =
    each_append (BlockLine file) (b.first ∷ b.others) (lines_of bs) (f.0.0, f.0.1) (block_lines file bs f.1)

pub copied_rows : (bs : List ℕ) (s : Song) (ps : List Parts) (w : WrittenChart bs s) → Fits s ps → Each BlockRows (blocks_copied w.song ps)
unfolding blocks_copied
copied_rows bs s ps w f =
    let g = w.song in
    let file = placed 0 bs in
    let c = chart_fine w in
    each_append BlockRows (key_block (map text_of (lines_of g.metadata))) _
    (keys_rows file (lines_of g.metadata) (block_lines file g.metadata c.metadata))
    (each_append BlockRows (empty_block (any silent_part ps)) _ (empty_rows (any silent_part ps))
    (sections_rows file g.sections ps c.sections (ready bs s ps w f)))

rows_clean : (rs : List (List ℕ)) → Each RowFine rs → AllClean rs × AllFilled rs
unfolding Each AllClean AllFilled
rows_clean [] f = (tt, tt)
rows_clean (r ∷ rs) f = let h = rows_clean rs f.1 in ((row_clean r f.0, h.0), (row_filled r f.0, h.1))

blocks_printed : (bs : List (List (List ℕ))) → Each BlockRows bs → Printed bs
unfolding Each BlockRows Printed
blocks_printed [] f = tt
blocks_printed ([] ∷ bs) f = f.0
blocks_printed ((r ∷ rs) ∷ bs) f = let h = rows_clean (r ∷ rs) f.0 in (h.0, h.1, blocks_printed bs f.1)

pub printed : (bs : List ℕ) (s : Song) (ps : List Parts) (w : WrittenChart bs s) → Fits s ps → Printed (blocks_copied w.song ps)
printed bs s ps w f = blocks_printed (blocks_copied w.song ps) (copied_rows bs s ps w f)

-- Whole characters.
rows_whole : (rs : List (List ℕ)) (more : List (List ℕ)) → Each RowFine rs → Characters (flat_map end_line more) → Characters (flat_map end_line (rs ++ more))
unfolding Each flat_map end_line within
rows_whole [] more f c = c
rows_whole (r ∷ rs) more f c = characters_append (characters_append f.0.whole (lone 10 refl)) (rows_whole rs more f.1 c)

block_whole : (b : List (List ℕ)) (more : List (List ℕ)) → BlockRows b → Characters (flat_map end_line more) → Characters (flat_map end_line (b ++ more))
unfolding BlockRows Each
block_whole [] more f c = absurd f
block_whole (r ∷ rs) more f c = rows_whole (r ∷ rs) more f c

further_whole : (bs : List (List (List ℕ))) → Each BlockRows bs → Characters (flat_map end_line (further_rows bs))
unfolding Each further_rows flat_map end_line within
further_whole [] f = no_character
further_whole (b ∷ bs) f = characters_append (lone 10 refl) (block_whole b (further_rows bs) f.0 (further_whole bs f.1))

bytes_whole : (bs : List (List (List ℕ))) → Each BlockRows bs → Characters (copy_bytes bs)
unfolding Each copy_bytes copy_rows flat_map
bytes_whole [] f = no_character
bytes_whole (b ∷ bs) f = block_whole b (further_rows bs) f.0 (further_whole bs f.1)

pub whole : (bs : List ℕ) (s : Song) (ps : List Parts) (w : WrittenChart bs s) → Fits s ps → Characters (copy_bytes (blocks_copied w.song ps))
whole bs s ps w f = bytes_whole (blocks_copied w.song ps) (copied_rows bs s ps w f)
