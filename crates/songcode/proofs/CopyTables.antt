-- The tables of a copy: the original's, but for heads, header lines and offsets.
use Prim.Native.Nat.{ℕ, ◌≤◌}
use mathlib.Core.Path.{◌≡◌, refl}
use mathlib.Core.List.{List, [], map, flat_map}
use native.Mathlib.Omega.{arith}
use lib.ListN.{length}
use Rattle.songcode.specs.Lists.{any}
use Rattle.songcode.specs.Bytes.{placed}
use Rattle.songcode.specs.Song.{Section, Song}
use Rattle.songcode.specs.Answer.Tables.{Tables, key_order, key_words}
use Rattle.songcode.specs.Description.WrittenSection.{Each, none_each}
use Rattle.songcode.specs.Description.WrittenSong.{WrittenChart}
use Rattle.songcode.specs.Description.Performance.{Parts, joined}
use Rattle.songcode.specs.Description.Fits.{Fits}
use Rattle.songcode.specs.Description.WrittenTables.{keys_laid, parts_words, row_words, beat_laid, item_laid, WrittenItems, items_there, no_items}
use Rattle.songcode.specs.Description.WrittenTables.{WrittenTables}
use Rattle.songcode.specs.Description.Layout.{without}
use Rattle.songcode.specs.Description.WrittenFlat.{silent_part, stretch_at, ReadsBack}
use Rattle.songcode.proofs.EachLaws.{each_behind}
use Rattle.songcode.proofs.WordsLaid.{keys_laid_lem, rows_laid, beats_laid, items_laid}
use Rattle.songcode.proofs.CopySong.{FlatSections, no_flat, a_flat, parts_at, flat_parts, joined_at, FlatSong}
use Rattle.songcode.proofs.CopyReady.{Good, KnownParts, known, ready}
use Rattle.songcode.proofs.CopyFits.{any_needs}
use Rattle.songcode.proofs.CopyBeats.{AlikeBeat, row_alike, measures_alike, Pair, pair_row, beats_kept, heads_set, extensions_kept}
use Rattle.songcode.proofs.CopyKeys.{chart_keys, keys_kept, settings_kept}
use Rattle.songcode.proofs.CopyHeaders.{chart_headers, measures_few, sections_kept}
use Rattle.songcode.proofs.CopyItems.{items_alike, items_fit, items_kept}
use Rattle.songcode.proofs.CopySung.{LyricStands, chart_lyrics, lyrics_alike, sung_counted, sung_again, again_sung}

-- What is played, beat by beat with what is copied.
pairs : (bs copy : List ℕ) (small : length bs ≤ 65536) (brief : length copy ≤ 65536)
    {xs : List Section} {ps : List Parts} {ys : List Section} (g : FlatSections xs ps ys)
    → KnownParts (placed 0 bs) ps → KnownParts (placed 0 copy) (flat_parts g)
    → Each (Each (Pair bs copy small brief)) (flat_map joined (flat_parts g)) (flat_map joined ps)
unfolding KnownParts Good flat_parts flat_map
pairs bs copy small brief no_flat k c = none_each
pairs bs copy small brief (a_flat {p} at f fs) k c =
    let a : Each (Each AlikeBeat) (joined (parts_at p at)) (joined p) = rw (joined_at p at) (row_alike p.meter at (joined p) k.0.0) in
    each_behind (pair_row bs copy small brief a c.0.1 k.0.1) (pairs bs copy small brief fs k.1 c.1)

record ItemsAgain (bs copy : List ℕ) (t : Song) (words : List ℕ) : Type 0 where
  copied : List ℕ
  written : WrittenItems t copied
  kept : map (without 48 16) copied ≡ map (without 48 16) words
  texts : map (stretch_at 48 16 32 16 copy) copied ≡ map (stretch_at 48 16 32 16 bs) words

module _ (bs copy : List ℕ) (s t : Song) (ps : List Parts) (g : FlatSong s ps t)
    (w : WrittenChart bs s) (v : WrittenChart copy t) (f : Fits s ps) (h : Fits t (flat_parts g.sections)) where
  items_again : (words : List ℕ) → WrittenItems s words → ItemsAgain bs copy t words
  unfolding LyricStands
  items_again words (items_there prompts sung from e) =
      let again = sung_again s t (any silent_part ps) g.head g.definitions g.sections (ready bs s ps w f) f.plays sung in
      let a = items_alike 0 (lyrics_alike g.sections) prompts from in
      let here = items_fit bs w.short 0 prompts (sung_counted s ps f sung) (let m = measures_few f in omega arith) (chart_lyrics w) from in
      let there =
      items_fit copy v.short 0 a.0 (sung_counted t (flat_parts g.sections) h again) (let m = measures_few h in omega arith) (chart_lyrics v) a.1 in
      let k = items_kept bs copy w.short v.short a.2 there here in
      record {
        copied = map item_laid a.0;
        written = items_there a.0 again a.1 refl;
        kept = rw (e, ← (items_laid prompts), ← (items_laid a.0)) k.0;
        texts = rw (e, ← (items_laid prompts), ← (items_laid a.0)) k.1;
      }
  items_again words (no_items n e) =
      record {
        copied = [];
        written = no_items (λ y. n (again_sung s t (any silent_part ps) g.head g.definitions g.sections (any_needs ps) f.plays y)) refl;
        kept = rw e;
        texts = rw e;
      }

  pub tables_again : (u : Tables) → WrittenTables s ps u → (x : Tables) × WrittenTables t (flat_parts g.sections) x × ReadsBack bs copy u x
  unfolding key_words
  tables_again u a =
      let qs = flat_parts g.sections in
      let beats = pairs bs copy w.short v.short g.sections (known bs s ps w f) (known copy t qs v h) in
      let keys = chart_keys w in
      let keysThere = chart_keys v in
      let items = items_again u.items a.items in (
        record {
          keys = keys_laid t.keys;
          sections = parts_words 0 t.sections qs;
          measures = row_words 0 (flat_map joined qs);
          beats = flat_map (map beat_laid) (flat_map joined qs);
          items = items.copied;
        },
        record { keys = refl; sections = refl; measures = refl; beats = refl; items = items.written },
        record {
          keys = rw (a.keys, ← (keys_laid_lem s), ← (keys_laid_lem t)) (keys_kept bs copy w.short v.short g.keys keysThere keys key_order);
          sections = rw a.sections (sections_kept s g.sections (ready bs s ps w f) f.plays (measures_few f) (chart_headers w) (chart_headers v));
          measures = rw (a.measures, ← (rows_laid 0 (flat_map joined ps)), ← (rows_laid 0 (flat_map joined qs))) (measures_alike 0 beats);
          beats = rw (a.beats, ← (beats_laid (flat_map joined ps)), ← (beats_laid (flat_map joined qs))) (beats_kept bs copy w.short v.short beats);
          heads = rw (a.beats, ← (beats_laid (flat_map joined ps)), ← (beats_laid (flat_map joined qs))) (heads_set bs copy w.short v.short beats);
          items = items.kept;
          settings = rw (a.keys, ← (keys_laid_lem s), ← (keys_laid_lem t)) (settings_kept bs copy w.short v.short g.keys keysThere keys key_order);
          extensions =
              rw (a.beats, ← (beats_laid (flat_map joined ps)), ← (beats_laid (flat_map joined qs))) (extensions_kept bs copy w.short v.short beats);
          words = items.texts;
        },
      )
