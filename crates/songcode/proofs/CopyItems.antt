-- The prompter items of a copy have the original's words, but for where their texts stand.
use Prim.Native.Nat.{ℕ, suc, ◌+◌, ◌<◌, ◌≤◌}
use Prim.Native.String.{String}
use mathlib.Core.Path.{◌≡◌, refl, ap, sym, subst, ◌∙◌}
use mathlib.Core.List.{List, [], ◌∷◌, ◌++◌, map}
use native.Mathlib.Omega.{arith}
use lib.ListN.{length, length-append}
use Rattle.songcode.specs.Bytes.{Byte, placed, values}
use Rattle.songcode.specs.Song.{LyricLine}
use Rattle.songcode.specs.Answer.Lyrics.{Prompt}
use Rattle.songcode.specs.Answer.Tables.{offset, item_word}
use Rattle.songcode.specs.Description.WrittenSection.{none_each, and_each}
use Rattle.songcode.specs.Description.WrittenSection as Written
use Rattle.songcode.specs.Description.WrittenLyrics.{CountedLine, Marked, StyledText, informs, for_crew, is_plain}
use Rattle.songcode.specs.Description.Fits.{Counted, none_counted, and_counted}
use Rattle.songcode.specs.Description.WrittenTables.{ItemsFrom}
use Rattle.songcode.specs.Description.Layout.{without}
use Rattle.songcode.specs.Description.WrittenFlat.{stretch_at}
use Rattle.songcode.proofs.ListLaws.{Each}
use Rattle.songcode.proofs.LyricLineAgree.{count_exact}
use Rattle.songcode.proofs.Alike.{split, length_alike}
use Rattle.songcode.proofs.Stretches.{Stands, stands_parts, stretch_of_lem, stands_within}
use Rattle.songcode.proofs.CopySection.{AlikeLyric}
use Rattle.songcode.proofs.CopyFits.{counted_alike}
use Rattle.songcode.proofs.CopyKeys.{place_fits}
use Rattle.songcode.proofs.CopyWords.{item_offset, item_length, item_without}

-- A text has the same style wherever it stands.
marked_alike : (mark : String) (a b inner : List Byte) → values a ≡ values b → Marked mark b inner
    → (other : List Byte) × Marked mark a other × (values other ≡ values inner)
marked_alike mark a b inner e m =
    let p = split a m.mark_before (inner ++ m.mark_behind) (rw m.written at e) in
    let q = split p.back inner m.mark_behind p.back_alike in (
      q.front,
      record {
        mark_before = p.front;
        mark_behind = q.back;
        written = p.joined ∙ ap (λ w. p.front ++ w) q.joined;
        opens = p.front_alike ∙ m.opens;
        ends = q.back_alike ∙ m.ends;
        long = rw (length_alike q.front inner q.front_alike) m.long;
      },
      q.front_alike,
    )

styled_alike : (a b : List Byte) (k : ℕ) (inner : List Byte) → values a ≡ values b → StyledText b k inner
    → (other : List Byte) × StyledText a k other × (values other ≡ values inner)
styled_alike a b k inner e (informs m) = let h = marked_alike "***" a b inner e m in (h.0, informs h.1, h.2)
styled_alike a b k inner e (for_crew m) = let h = marked_alike ":::" a b inner e m in (h.0, for_crew h.1, h.2)
styled_alike a b k inner e (is_plain f g) = (
  a,
  is_plain (λ i m. let h = marked_alike "***" b a i (sym e) m in f h.0 h.1) (λ i m. let h = marked_alike ":::" b a i (sym e) m in g h.0 h.1),
  e,
)

-- An item and its copy.
pub record AlikePrompt (q p : Prompt) : Type 0 where
  pub first : q.first ≡ p.first
  pub measures : q.measures ≡ p.measures
  pub style : q.words.style ≡ p.words.style
  pub text : values q.words.text ≡ values p.words.text

pub items_alike : (first : ℕ) {ms ls : List LyricLine} → Written.Each AlikeLyric ms ls → (ps : List Prompt) → ItemsFrom first ls ps
    → (qs : List Prompt) × ItemsFrom first ms qs × Written.Each AlikePrompt qs ps
unfolding ItemsFrom
items_alike first none_each [] i = ([], tt, none_each)
items_alike first none_each (p ∷ ps) i = absurd i
items_alike first (and_each a more) [] i = absurd i
items_alike first (and_each {x = m} {y = l} a more) (p ∷ ps) (words, c, s, f, i) =
    let d = counted_alike m.text l.text p.measures a.text words c in
    let t = styled_alike d.0 words p.words.style p.words.text d.2 s in
    let r = items_alike (first + p.measures) more ps i in
    let q : Prompt = record { words = record { style = p.words.style; text = t.0 }; first = first; measures = p.measures } in
    (q ∷ r.0, (d.0, d.1, t.1, refl, r.1), and_each (record { first = sym f; measures = refl; style = refl; text = t.2 }) r.2)

-- Where an item's text stands, and that its fields fit.
pub record ItemFits (bs : List ℕ) (p : Prompt) : Type 0 where
  pub stands : Stands (placed 0 bs) p.words.text
  pub short : length p.words.text < 65536
  pub first : p.first < 65536
  pub measures : p.measures < 16384
  pub style : p.words.style < 4

marked_part : {file : List Byte} {mark : String} {words inner : List Byte} → Marked mark words inner → Stands file words
    → Stands file inner × (length inner ≤ length words)
marked_part {file} {words} {inner} m h =
    let q = (stands_parts m.mark_before (inner ++ m.mark_behind) (subst (λ x. Stands file x) m.written h)).1 in
    let l : length words ≡ length m.mark_before + (length inner + length m.mark_behind) = rw (m.written, length-append, length-append) refl in
    ((stands_parts inner m.mark_behind q).0, omega arith)

styled_part : {file : List Byte} {words inner : List Byte} {k : ℕ} → StyledText words k inner → Stands file words
    → Stands file inner × (length inner ≤ length words) × (k < 4)
styled_part (informs m) h = let q = marked_part m h in (q.0, q.1, omega arith)
styled_part (for_crew m) h = let q = marked_part m h in (q.0, q.1, omega arith)
styled_part (is_plain f g) h = (h, omega arith, omega arith)

same_count : {text words other : List Byte} {n m : ℕ} → CountedLine text words n → CountedLine text other m → n ≡ m
same_count {text} {words} {other} {n} {m} c d =
    let a = (count_exact text n).1 (words, c) in
    let b = (count_exact text m).1 (other, d) in
    cc

pub items_fit : (bs : List ℕ) → length bs ≤ 65536 → (first : ℕ) {ls : List LyricLine} {k : ℕ} (ps : List Prompt) → Counted ls k → first + k ≤ 65535
    → Each (λ l. Stands (placed 0 bs) l.text) ls → ItemsFrom first ls ps → Each (ItemFits bs) ps
unfolding ItemsFrom Each
items_fit bs small first [] none_counted l s i = tt
items_fit bs small first (p ∷ ps) none_counted l s i = absurd i
items_fit bs small first [] (and_counted c k e) l s i = absurd i
items_fit bs small first (p ∷ ps) (and_counted {l = line} c k e) l s (words, d, t, f, i) =
    let n = same_count c d in
    let w = (stands_parts words (d.gap ++ (d.under ∷ d.digits)) (subst (λ x. Stands (placed 0 bs) x) d.written s.0)).0 in
    let y : length line.text ≡ length words + (length d.gap + suc (length d.digits)) = rw (d.written, length-append, length-append) refl in
    let z = stands_within bs line.text s.0 in
    let q = styled_part t w in
    let m = d.number.at_most in
    let g = q.1 in (
      record { stands = q.0; short = omega arith; first = omega arith; measures = omega arith; style = q.2 },
      items_fit bs small (first + p.measures) ps k (omega arith) s.1 i,
    )

module _ (bs copy : List ℕ) (small : length bs ≤ 65536) (brief : length copy ≤ 65536) where
  keeps_item : (q p : Prompt) → AlikePrompt q p → ItemFits copy q → ItemFits bs p → without 48 16 (item_word q) ≡ without 48 16 (item_word p)
  unfolding item_word
  keeps_item q p a c b =
      item_without (offset q.words.text) (length q.words.text) q.first q.measures q.words.style
      (place_fits copy q.words.text brief c.stands) c.short c.first c.measures c.style
      ∙ rw (length_alike q.words.text p.words.text a.text, a.first, a.measures, a.style)
      (sym (item_without (offset p.words.text) (length p.words.text) p.first p.measures p.words.style
      (place_fits bs p.words.text small b.stands) b.short b.first b.measures b.style))

  words_at : (file : List ℕ) (p : Prompt) → length file ≤ 65536 → ItemFits file p → stretch_at 48 16 32 16 file (item_word p) ≡ values p.words.text
  unfolding stretch_at item_word
  words_at file p l b =
      let o = place_fits file p.words.text l b.stands in
      rw (
        item_length (offset p.words.text) (length p.words.text) p.first p.measures p.words.style o b.short b.first
            b.measures b.style,
        item_offset (offset p.words.text) (length p.words.text) p.first p.measures p.words.style o b.short b.first
            b.measures b.style,
      )
      (stretch_of_lem file p.words.text b.stands)

  pub items_kept : {qs ps : List Prompt} → Written.Each AlikePrompt qs ps → Each (ItemFits copy) qs → Each (ItemFits bs) ps
      → (map (without 48 16) (map item_word qs) ≡ map (without 48 16) (map item_word ps))
      × (map (stretch_at 48 16 32 16 copy) (map item_word qs) ≡ map (stretch_at 48 16 32 16 bs) (map item_word ps))
  unfolding Each
  items_kept none_each c b = (refl, refl)
  items_kept (and_each {x = q} {y = p} a more) c b =
      let r = items_kept more c.1 b.1 in
      (rw (keeps_item q p a c.0 b.0, r.0), rw (words_at copy q brief c.0 ∙ a.text ∙ sym (words_at bs p small b.0), r.1))
