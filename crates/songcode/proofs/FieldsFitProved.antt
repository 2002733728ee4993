-- Every field of an accepted song's words fits its bits, table by table: places lie in a text of at most 65,536 bytes, and counts have their ranges.
use Prim.Native.Nat.{ℕ, zero, suc, ◌+◌, ◌*◌, ◌<◌, ◌≤◌}
use mathlib.Core.Path.{◌≡◌, refl}
use mathlib.Core.List.{List, [], ◌∷◌, ◌++◌, map, flat_map}
use mathlib.Core.Bool.{Bool}
use mathlib.Core.Option.{Option, none, some}
use native.Mathlib.Omega.{arith}
use lib.ListN.{length, get_elem?, length-append}
use Rattle.songcode.specs.Bytes.{Byte, placed}
use Rattle.songcode.specs.Answer.Chords.{Chord, bases}
use Rattle.songcode.specs.Song.{KeyName, Key, Section, Song, Beat}
use Rattle.songcode.specs.Answer.Playing.{setting_named}
use Rattle.songcode.specs.Answer.Lyrics.{Prompt}
use Rattle.songcode.specs.Answer.Tables.{Tables, key_order}
use Rattle.songcode.specs.Answer.Answer.{Room, accepted, answer}
use Rattle.songcode.specs.Description.WrittenSection.{none_each, and_each}
use Rattle.songcode.specs.Description.WrittenSection as Written
use Rattle.songcode.specs.Description.WrittenSong.{WrittenChart}
use Rattle.songcode.specs.Description.Performance.{Parts, PlaysSection, joined}
use Rattle.songcode.specs.Description.Fits.{Fits}
use Rattle.songcode.specs.Description.WrittenTables.{keys_laid, parts_words, row_words, beat_laid, item_laid, WrittenItems, items_there, no_items}
use Rattle.songcode.specs.Description.WrittenTables.{WrittenTables}
use Rattle.songcode.specs.FlatDemands.{Within}
use Rattle.songcode.specs.Description.Layout.{keys_row, sections_row, measures_row, beats_row, items_row, Fit, beat_fields, key_fields, item_fields, laid}
use Rattle.songcode.specs.FieldsFit.{WordOf, FieldsFit}
use Rattle.songcode.proofs.ListLaws.{each_at, Each, each_append}
use Rattle.songcode.proofs.ChordsPlayed.{OfIf, OfAll, OfRow}
use Rattle.songcode.proofs.SpeltChords.{Known}
use Rattle.songcode.proofs.CopyReady.{Good, KnownParts, known}
use Rattle.songcode.proofs.CopyWords.{bit_small}
use Rattle.songcode.proofs.CopyKeys.{KeyStands, SaidStands, said_stands, chart_keys, place_fits}
use Rattle.songcode.proofs.CopyHeaders.{chart_headers, meter_most, tempo_most, all_length, measures_few}
use Rattle.songcode.proofs.CopyBeats.{chord_fits}
use Rattle.songcode.proofs.CopyItems.{ItemFits, items_fit}
use Rattle.songcode.proofs.CopySung.{LyricStands, chart_lyrics, sung_counted}
use Rattle.songcode.proofs.AnswerAgree.{accepted_exactly}

pub get_before : {A : Type 0} (xs : List A) (n : ℕ) (x : A) → get_elem? xs n ≡ some x → n < length xs
get_before [] n x e = let z : ◌≡◌ {A = ℕ} 0 1 = cc in absurd (omega arith)
get_before (y ∷ xs) zero x e = omega arith
get_before (y ∷ xs) (suc n) x e = let h = get_before xs n x e in omega arith

module _ (bs : List ℕ) (small : length bs ≤ 65536) where
  -- keys
  key_word_lem : (o : Option (List Byte)) → SaidStands bs o → WordOf keys_row (laid keys_row (key_fields o))
  unfolding SaidStands Fit keys_row key_fields
  key_word_lem none s = record { fields = key_fields none; fit = (omega arith, (omega arith, (omega arith, tt))); made = refl }
  key_word_lem (some text) s =
      let o = place_fits bs text small s.0 in
      let l = s.1 in
      record { fields = key_fields (some text); fit = (omega arith, (omega arith, (omega arith, tt))); made = refl }

  key_words_lem : (ks : List Key) → Each (KeyStands bs) ks → (order : List KeyName)
      → Each (WordOf keys_row) (map (λ k. laid keys_row (key_fields (setting_named k ks))) order)
  unfolding Each
  key_words_lem ks f [] = tt
  key_words_lem ks f (k ∷ order) = (key_word_lem (setting_named k ks) (said_stands bs k ks f), key_words_lem ks f order)

  -- beats
  beat_word_lem : (o : Option Chord) (head : Bool) → OfIf (Known (placed 0 bs)) o → WordOf beats_row (laid beats_row (beat_fields o head))
  unfolding OfIf Fit beats_row beat_fields bases
  beat_word_lem none head k =
      let h = bit_small head in
      record { fields = beat_fields none head; fit = (omega arith, (omega arith, (omega arith, (omega arith, tt)))); made = refl }
  beat_word_lem (some c) head k =
      let h = bit_small head in
      let f = chord_fits bs c small k in
      let o = f.0 in
      let l = f.1 in
      let b = get_before bases c.base _ k.spelt.spelled.numbered in
      record {
        fields = beat_fields (some c) head;
        fit = (omega arith, (omega arith, (omega arith, (omega arith, tt))));
        made = refl;
      }

  beat_words : (row : List (List Beat)) → OfRow (Known (placed 0 bs)) row → Each (WordOf beats_row) (flat_map (map beat_laid) row)
  unfolding Each OfRow flat_map beat_laid
  beat_words [] k = tt
  beat_words (m ∷ row) k = each_append (WordOf beats_row) (map beat_laid m) (flat_map (map beat_laid) row) (measure m k.0) (beat_words row k.1)
    where
      measure : (m : List Beat) → OfAll (Known (placed 0 bs)) m → Each (WordOf beats_row) (map beat_laid m)
      measure [] k = tt
      measure (b ∷ m) k = (beat_word_lem b.sounds b.head k.0, measure m k.1)

  -- items
  item_words : (ps : List Prompt) → Each (ItemFits bs) ps → Each (WordOf items_row) (map item_laid ps)
  unfolding Each Fit item_laid items_row item_fields
  item_words [] f = tt
  item_words (p ∷ ps) f =
      let i = f.0 in
      let o = place_fits bs p.words.text small i.stands in
      let l = i.short in
      let s = i.first in
      let m = i.measures in
      let k = i.style in (
        record {
          fields = item_fields p;
          fit = (omega arith, (omega arith, (omega arith, (omega arith, (omega arith, tt)))));
          made = refl;
        },
        item_words ps f.1,
      )

-- sections
section_words_lem : (s : Song) (first : ℕ) {xs : List Section} {ps : List Parts} → Written.Each (PlaysSection s) xs ps → first + all_length ps ≤ 65535
    → Each (λ x. x.header < 131072) xs → Each (WordOf sections_row) (parts_words first xs ps)
unfolding Each parts_words all_length Fit sections_row
section_words_lem s first none_each l h = tt
section_words_lem s first (and_each {x} {y = p} e more) l h =
    let n = meter_most s x p e in
    let t = tempo_most s x p e in
    let line = h.0 in (
      record {
        fields = x.header ∷ first ∷ length (joined p) ∷ p.meter ∷ p.tempo ∷ [];
        fit = (omega arith, (omega arith, (omega arith, (omega arith, (omega arith, tt)))));
        made = refl;
      },
      section_words_lem s (first + length (joined p)) more (omega arith) h.1,
    )

-- measures: each has at most 32 beats
unfoldable Short : List Beat → Type 0
Short m = length m ≤ 32

measure_words_lem : (first : ℕ) (row : List (List Beat)) → Each Short row → first + 32 * length row ≤ 2097120 → Each (WordOf measures_row) (row_words first row)
unfolding Each Short row_words Fit measures_row
measure_words_lem first [] s l = tt
measure_words_lem first (m ∷ row) s l =
    let h = s.0 in (
      record { fields = first ∷ length m ∷ []; fit = (omega arith, (omega arith, tt)); made = refl },
      measure_words_lem (first + length m) row s.1 (omega arith),
    )

within_short : (n : ℕ) (row : List (List Beat)) → n ≤ 32 → Within n row → Each Short row
unfolding Each Short Within
within_short n [] h w = tt
within_short n (m ∷ row) h w = let l = w.1 in (omega arith, within_short n row h w.2)

-- What is played, in every section.
module _ (file : List Byte) (s : Song) where
  all_short : {xs : List Section} {ps : List Parts} → Written.Each (PlaysSection s) xs ps → KnownParts file ps → Each Short (flat_map joined ps)
  unfolding Each KnownParts Good flat_map
  all_short none_each k = tt
  all_short (and_each {x} {y = p} e more) k =
      each_append Short (joined p) _ (within_short p.meter (joined p) (meter_most s x p e) k.0.0) (all_short more k.1)

  all_known : (ps : List Parts) → KnownParts file ps → OfRow (Known file) (flat_map joined ps)
  unfolding KnownParts Good flat_map OfRow
  all_known [] k = tt
  all_known (p ∷ ps) k = go (joined p) k.0.1 (all_known ps k.1)
    where
      go : (row : List (List Beat)) → OfRow (Known file) row → OfRow (Known file) (flat_map joined ps) → OfRow (Known file) (row ++ flat_map joined ps)
      go [] r rest = rest
      go (m ∷ row) r rest = (r.0, go row r.1 rest)

all_length_lem : (ps : List Parts) → length (flat_map joined ps) ≡ all_length ps
unfolding flat_map all_length
all_length_lem [] = refl
all_length_lem (p ∷ ps) =
    let h = all_length_lem ps in
    let l = length-append (joined p) (flat_map joined ps) in
    omega arith

-- All five tables.
module _ (bs : List ℕ) (s : Song) (ps : List Parts) (w : WrittenChart bs s) (f : Fits s ps) where
  items_word : (words : List ℕ) → WrittenItems s words → Each (WordOf items_row) words
  unfolding LyricStands Each
  items_word words (items_there prompts sung from e) =
      let few = measures_few f in
      rw e (item_words bs w.short prompts (items_fit bs w.short 0 prompts (sung_counted s ps f sung) (omega arith) (chart_lyrics w) from))
  items_word words (no_items n e) = rw e tt

  tables_fit : (t : Tables) → WrittenTables s ps t → FieldsFit t
  unfolding keys_laid
  tables_fit t a =
      let few = measures_few f in
      let count = all_length_lem ps in
      let parts = known bs s ps w f in
      let keys : Each (WordOf keys_row) t.keys = rw a.keys (key_words_lem bs w.short s.keys (chart_keys w) key_order) in
      let sections : Each (WordOf sections_row) t.sections = rw a.sections (section_words_lem s 0 f.plays (omega arith) (chart_headers w)) in
      let measures : Each (WordOf measures_row) t.measures =
      rw a.measures (measure_words_lem 0 (flat_map joined ps) (all_short (placed 0 bs) s f.plays parts) (omega arith)) in
      let beats : Each (WordOf beats_row) t.beats = rw a.beats (beat_words bs w.short (flat_map joined ps) (all_known (placed 0 bs) s ps parts)) in
      record {
        keys = λ word m. each_at (WordOf keys_row) keys m;
        sections = λ word m. each_at (WordOf sections_row) sections m;
        measures = λ word m. each_at (WordOf measures_row) measures m;
        beats = λ word m. each_at (WordOf beats_row) beats m;
        items = λ word m. each_at (WordOf items_row) (items_word t.items a.items) m;
      }

pub fields_fit : (room : Room) (bs : List ℕ) (t : Tables) → answer room bs ≡ accepted t → FieldsFit t
fields_fit room bs t e =
    let d = (accepted_exactly room bs t).0 e in tables_fit bs d.song d.parts d.written d.fits t d.words
