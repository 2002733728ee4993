-- A copy has prompter items exactly where its song has them: each section with lyrics, all counted, and a pattern that isn't empty.
use Prim.Native.Nat.{ℕ, ◌+◌, ◌≤◌}
use mathlib.Core.Path.{◌≡◌, refl, ap, sym, subst, ◌∙◌}
use mathlib.Core.Logic.{◌⊎◌, inl, inr}
use mathlib.Core.List.{List, [], ◌∷◌, ◌++◌, map, flat_map}
use mathlib.Core.Bool.{Bool, true}
use mathlib.Core.Option.{Option, none, some}
use native.Mathlib.Omega.{arith}
use lib.ListN.{length}
use Rattle.songcode.specs.Lists.{is_empty}
use Rattle.songcode.specs.Bytes.{Byte, placed}
use Rattle.songcode.specs.Answer.Lines.{Line, Block}
use Rattle.songcode.specs.Song.{Items, named, LyricLine, Section, Song, Beat}
use Rattle.songcode.specs.Answer.References.{pattern_items}
use Rattle.songcode.specs.Description.WrittenSection.{none_each, and_each, LyricLines, no_lyrics, with_lyrics}
use Rattle.songcode.specs.Description.WrittenSection as Written
use Rattle.songcode.specs.Description.WrittenSong.{SectionBlock, WrittenChart}
use Rattle.songcode.specs.Description.Fits.{Counted, none_counted, and_counted, Uncounted, SumsBy, AllSum, UncountedBy, NoneCounted, Fits}
use Rattle.songcode.specs.Description.Performance.{Parts, PlaysPattern, PlaysSection, joined, total}
use Rattle.songcode.specs.Description.WrittenTables.{Sung, AllSung, lyrics_of}
use Rattle.songcode.specs.FlatDemands.{Within}
use Rattle.songcode.specs.Description.WrittenFlat.{silent_part}
use Rattle.songcode.proofs.ListLaws.{Each, each_append, append_each}
use Rattle.songcode.proofs.PatternLaws.{none_some}
use Rattle.songcode.proofs.EachLaws.{each_behind, each_length}
use Rattle.songcode.proofs.TurnedRows.{total_append}
use Rattle.songcode.proofs.Stretches.{Stands}
use Rattle.songcode.proofs.FineLines.{FineLine, BlockLine, BlockFine}
use Rattle.songcode.proofs.CopySection.{AlikeLyric, pattern_at}
use Rattle.songcode.proofs.CopySong.{Ready, FlatSections, no_flat, a_flat, empty_definition}
use Rattle.songcode.proofs.CopyReady.{chart_fine}
use Rattle.songcode.proofs.CopyFits.{Needs, empty_named, counts_alike, plays_nothing_lem}
use Rattle.songcode.proofs.CopyHeaders.{all_length}

-- Lyric lines stand in the file.
unfoldable pub LyricStands : List Byte → LyricLine → Type 0
LyricStands file l = Stands file l.text

lines_stand : (file : List Byte) (ls : List Line) → Each (BlockLine file) ls
    → Each (LyricStands file) (map (λ l. record { number = l.number; text = l.text }) ls)
unfolding Each BlockLine FineLine LyricStands
lines_stand file [] f = tt
lines_stand file (l ∷ ls) f = (f.0.0.stands, lines_stand file ls f.1)

lyrics_stand : (file : List Byte) {ls : List Line} {ys : List LyricLine} → LyricLines ls ys → Each (BlockLine file) ls → Each (LyricStands file) ys
unfolding Each
lyrics_stand file no_lyrics f = tt
lyrics_stand file (with_lyrics {l} {ls} d) f = lines_stand file (l ∷ ls) f.1

sections_stand : (file : List Byte) {bs : List Block} {xs : List Section} → Written.Each SectionBlock bs xs → Each (BlockFine file) bs
    → Each (LyricStands file) (flat_map lyrics_of xs)
unfolding Each BlockFine flat_map lyrics_of
sections_stand file none_each f = tt
sections_stand file (and_each {x = b} {y = x} {ys = xs} w ws) f =
    let v = w.section in
    let all = subst (λ ls. Each (BlockLine file) ls) v.written f.0.1 in
    let p = (append_each (BlockLine file) v.key_lines _ all).1 in
    let q = (append_each (BlockLine file) (v.first_pattern ∷ v.more_pattern) (v.modifier_lines ++ v.last_lines) p).1 in
    let m = (append_each (BlockLine file) v.modifier_lines v.last_lines q).1 in
    each_append (LyricStands file) x.lyrics (flat_map lyrics_of xs) (lyrics_stand file v.lyrics m) (sections_stand file ws f.1)

pub chart_lyrics : {bs : List ℕ} {s : Song} → WrittenChart bs s → Each (LyricStands (placed 0 bs)) (flat_map lyrics_of s.sections)
chart_lyrics {bs} w = sections_stand (placed 0 bs) w.song.sections (chart_fine w).sections

-- Lyric lines of a song and of its copy.
pub lyrics_alike : {xs : List Section} {ps : List Parts} {ys : List Section} → FlatSections xs ps ys
    → Written.Each AlikeLyric (flat_map lyrics_of ys) (flat_map lyrics_of xs)
unfolding flat_map lyrics_of
lyrics_alike no_flat = none_each
lyrics_alike (a_flat at f fs) = each_behind f.lyrics (lyrics_alike fs)

back_alike_lem : {ms ls : List LyricLine} → Written.Each AlikeLyric ms ls → Written.Each AlikeLyric ls ms
back_alike_lem none_each = none_each
back_alike_lem (and_each a more) = and_each (record { text = sym a.text }) (back_alike_lem more)

-- The counts of a sung song sum to its measures.
counted_append : {a b : List LyricLine} {n m : ℕ} → Counted a n → Counted b m → Counted (a ++ b) (n + m)
counted_append {b} {m} none_counted k = let e : 0 + m ≡ m = omega arith in subst (λ n. Counted b n) (sym e) k
counted_append {m} (and_counted {k = i} {sum} c k e) l = and_counted {sum = sum + m} c (counted_append k l) (omega arith)

counted_here : (o : Option Items) (ls : List LyricLine) (n : ℕ) (r : Items) → o ≡ some r → 1 ≤ length ls → SumsBy o ls n → Counted ls n
unfolding SumsBy
counted_here none ls n r e l s = none_some refl e
counted_here (some q) [] n r e l s = absurd (omega arith)
counted_here (some q) (x ∷ ls) n r e l s = s

not_uncounted : (o : Option Items) (ls : List LyricLine) (n : ℕ) (r : Items) → o ≡ some r → 1 ≤ length ls → Counted ls n → UncountedBy o ls → ⊥
unfolding UncountedBy Uncounted
not_uncounted none ls n r e l c u = none_some refl e
not_uncounted (some q) [] n r e l c u = absurd (omega arith)
not_uncounted (some q) (x ∷ ls) n r e l (and_counted {words} {n = m} c k f) u = u.0 words m c

sums_counted : (s : Song) {xs : List Section} {ps : List Parts} → Written.Each (PlaysSection s) xs ps → AllSung s xs
    → AllSum s xs ps ⊎ NoneCounted s xs → Counted (flat_map lyrics_of xs) (all_length ps)
unfolding AllSung AllSum NoneCounted flat_map lyrics_of all_length
sums_counted s none_each g c = none_counted
sums_counted s (and_each {x} {y = p} h hs) g (inl a) =
    counted_append (counted_here _ x.lyrics (length (joined p)) g.0.pattern g.0.played g.0.lyrics a.0) (sums_counted s hs g.1 (inl a.1))
sums_counted s (and_each {x} {y = p} h hs) g (inr a) =
    absurd (not_uncounted _ x.lyrics g.0.sum g.0.pattern g.0.played g.0.lyrics g.0.counted a.0)

pub sung_counted : (s : Song) (ps : List Parts) → Fits s ps → AllSung s s.sections → Counted (flat_map lyrics_of s.sections) (all_length ps)
sung_counted s ps f g = sums_counted s f.plays g f.counts

-- A pattern that isn't empty plays something, and the copy of what is played is one.
plays_some : (s : Song) (x : Section) (p : Parts) (r : Items) → PlaysSection s x p → pattern_items s.definitions x.pattern ≡ some r → 1 ≤ total (joined p)
unfolding joined PlaysPattern
plays_some s x p r h e =
    let q : PlaysPattern p.meter x.modifiers (some r) p.pass p.middle =
    subst (λ o. PlaysPattern p.meter x.modifiers o p.pass p.middle) e h.pattern in
    let a = total_append p.lead_in (p.middle ++ p.tail) in
    let b = total_append p.middle p.tail in
    let m = q.4 in
    omega arith

copy_some : (k at : ℕ) (row : List (List Beat)) (needed : Bool) (head : ℕ) → Within k row → 1 ≤ total row
    → (r : Items) × (pattern_items (empty_definition needed head) (pattern_at k at row) ≡ some r)
unfolding pattern_at pattern_items Within total
copy_some k at [] needed head w h = absurd (omega arith)
copy_some k at ([] ∷ row) needed head w h = absurd (let l = w.0 in omega arith)
copy_some k at ((b ∷ m) ∷ row) needed head w h = (_, refl)

copy_none : (k at : ℕ) (row : List (List Beat)) (needed : Bool) (head : ℕ) → (is_empty row ≡ true → needed ≡ true) → row ≡ []
    → pattern_items (empty_definition needed head) (pattern_at k at row) ≡ none
unfolding is_empty pattern_at
copy_none k at row needed head n e =
    rw e (ap (λ b. pattern_items (empty_definition b head) (named 1)) (n (rw e)) ∙ empty_named head)

module _ (s t : Song) (needed : Bool) (head : ℕ) (defined : t.definitions ≡ empty_definition needed head) where
  pub sung_again : {xs : List Section} {ps : List Parts} {ys : List Section} → FlatSections xs ps ys → Ready ps → Written.Each (PlaysSection s) xs ps
      → AllSung s xs → AllSung t ys
  unfolding AllSung Ready
  sung_again no_flat r none_each g = tt
  sung_again (a_flat {x} {y} {p} at f fs) r (and_each h hs) g =
      let c = copy_some p.meter at (joined p) needed head r.0.0 (plays_some s x p g.0.pattern h g.0.played) in (
        record {
          pattern = c.0;
          played = rw (defined, f.pattern) c.1;
          lyrics = rw (each_length f.lyrics) g.0.lyrics;
          sum = g.0.sum;
          counted = counts_alike f.lyrics g.0.counted;
        },
        sung_again fs r.1 hs g.1,
      )

  pub again_sung : {xs : List Section} {ps : List Parts} {ys : List Section} → FlatSections xs ps ys → Needs needed ps
      → Written.Each (PlaysSection s) xs ps → AllSung t ys → AllSung s xs
  unfolding AllSung Needs silent_part
  again_sung no_flat n none_each g = tt
  again_sung (a_flat {x} {y} {p} at f fs) n (and_each h hs) g = (go (pattern_items s.definitions x.pattern) refl, again_sung fs n.1 hs g.1)
    where
      go : (o : Option Items) → pattern_items s.definitions x.pattern ≡ o → Sung s x
      go none e =
          let c = copy_none p.meter at (joined p) needed head n.0 (plays_nothing_lem s x p h e) in
          none_some (rw (defined, f.pattern) c) g.0.played
      go (some q) e =
          record {
            pattern = q;
            played = e;
            lyrics = rw (sym (each_length f.lyrics)) g.0.lyrics;
            sum = g.0.sum;
            counted = counts_alike (back_alike_lem f.lyrics) g.0.counted;
          }
