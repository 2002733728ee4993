-- The prompter items section by section, where the song has items and the counts of every section sum to its measures.
use Prim.Native.Nat.{ℕ, zero, suc, ◌+◌, ◌<◌, ◌≤◌}
use mathlib.Core.Path.{◌≡◌, refl, sym, ap, ◌∙◌}
use mathlib.Core.List.{List, [], ◌∷◌, ◌++◌, map, flat_map}
use mathlib.Core.Bool.{true, false, not, ◌&&◌}
use mathlib.Core.Option.{get_or}
use native.Mathlib.Omega.{arith}
use lib.Dec.{eqb}
use lib.ListN.{length, take, drop, length-take, length-drop}
use borrow.Author.Tests.{eqb-true, not-false}
use Rattle.songcode.specs.Lists.{provided◌then◌else◌, any, every, is_empty}
use Rattle.songcode.specs.Song.{LyricLine, Section, Song}
use Rattle.songcode.specs.Answer.Playing.{played}
use Rattle.songcode.specs.Answer.Lyrics.{count_of, is_counted, is_played, lines_taken, has_counts, counted, sum_fault, sum_faults, has_items, prompts_from}
use Rattle.songcode.specs.Answer.Lyrics.{prompts, styled, words_of}
use Rattle.songcode.specs.Answer.Tables.{item_word, tables}
use Rattle.songcode.specs.Description.WrittenTables.{lyrics_of}
use Rattle.songcode.proofs.ListLaws.{by_cases, both_pass, pass_both, every_append, gather_nil, Each, complain_if_nil}
use Rattle.packing.specs.Fields.{packed_item}
use Rattle.score.specs.declared.lyrics.Lyric.{Lyric}
use Rattle.score.specs.declared.stretches.Stretch.{Stretch}
use Rattle.score.specs.declared.views.View.{View}
use Rattle.score.specs.Sections.{lyric_by, lyric_row}
use Rattle.score.specs.LyricLines.{lyric_in, lyric_at}
use Rattle.score.specs.Fitting.{LyricsFit, SectionFits}
use Rattle.score.specs.Seen.{Sees}
use Rattle.score.proofs.LyricLaws.{lyric_read, two_words}
use Rattle.judging.proofs.LyricLaws.{prompts_length}
use Rattle.judging.proofs.SumLaws.{is_prompted, prompted_parts, all_taken, all_prompted}
use Rattle.writing.specs.Prompts.{words_in, counts_in, prompt_words, lyrics_taken}

-- The words of the items of these sections from a measure on.
abbrev items_from : ℕ → List Section → List ℕ
items_from m xs = map item_word (prompts_from m (flat_map lyrics_of xs))

-- Those that are still to come of so many.
unfoldable pub items_left : ℕ → ℕ → List Section → List ℕ
items_left zero m xs = []
items_left (suc k) m xs = items_from m xs

pub none_left : (k m : ℕ) → items_left k m [] ≡ []
unfolding items_left flat_map prompts_from
none_left zero m = refl
none_left (suc k) m = refl

prompts_append : (m : ℕ) (a b : List LyricLine) → map item_word (prompts_from m (a ++ b))
    ≡ map item_word (prompts_from m a) ++ map item_word (prompts_from (m + counted a) b)
unfolding prompts_from counted
prompts_append m [] b = let e : m + 0 ≡ m = omega arith in rw e
prompts_append m (l ∷ a) b =
    let k = get_or (count_of l) 0 in
    let e : m + k + counted a ≡ m + (k + counted a) = omega arith in
    let rest = prompts_append (m + k) a b ∙ ap (λ (n : ℕ). map item_word (prompts_from (m + k) a) ++ map item_word (prompts_from n b)) e in
    ap (λ (ws : List ℕ). item_word (record { words = styled (words_of l.text).text; first = m; measures = k }) ∷ ws) rest

all_counted : (s : Song) (xs : List Section) → every (is_prompted s) xs ≡ true → every is_counted (flat_map lyrics_of xs) ≡ true
unfolding flat_map every lyrics_of
all_counted s [] e = refl
all_counted s (x ∷ xs) e =
    let h = both_pass (is_prompted s x) (every (is_prompted s) xs) e in
    every_append is_counted x.lyrics (flat_map lyrics_of xs) ∙ pass_both (prompted_parts s x h.0).2 (all_counted s xs h.1)

some_counted : (ls : List LyricLine) → every is_counted ls ≡ true → (length ls ≡ 0 → ⊥) → any is_counted ls ≡ true
unfolding every any
some_counted [] e h = absurd (h refl)
some_counted (l ∷ ls) e h = rw (both_pass (is_counted l) (every is_counted ls) e).0

-- The counts of a section sum to its measures.
abbrev pub Summed : Song → Section → Type 0
Summed s x = counted x.lyrics ≡ length (played s x)

summed : (s : Song) (x : Section) → is_prompted s x ≡ true → sum_fault s x ≡ [] → Summed s x
unfolding sum_fault
summed s x e h =
    let p = prompted_parts s x e in
    let none : is_played s x && not (is_empty x.lyrics) && not (eqb (counted x.lyrics) (length (played s x))) ≡ false = complain_if_nil _ 17 x.header h in
    let same : not (eqb (counted x.lyrics) (length (played s x))) ≡ false = rw (p.0, p.1) at none in
    eqb-true (counted x.lyrics) (length (played s x)) (not-false _ same)

all_summed : (s : Song) (xs : List Section) → every (is_prompted s) xs ≡ true → Each (λ x. sum_fault s x ≡ []) xs → Each (Summed s) xs
unfolding every Each
all_summed s [] e h = tt
all_summed s (x ∷ xs) e h =
    let g = both_pass (is_prompted s x) (every (is_prompted s) xs) e in
    (summed s x g.0 h.0, all_summed s xs g.1 h.1)

-- The counts of the sections left sum to their measures, where there are items.
abbrev pub SummedLeft : Song → ℕ → List Section → Type 0
SummedLeft s k xs = (k ≡ 0 → ⊥) → Each (Summed s) xs

-- A song with an item has items of all sections.
module _ (s : Song) (some : length (tables s).items ≡ 0 → ⊥) where
  has_items_lem : has_items s ≡ true
  unfolding tables prompts provided◌then◌else◌
  has_items_lem = by_cases (has_items s) (λ e. e) (λ e. absurd (some (rw e)))

  items_all : (tables s).items ≡ items_from 0 s.sections
  unfolding tables prompts lines_taken provided◌then◌else◌
  items_all = rw (has_items_lem, all_taken s s.sections (all_prompted s has_items_lem))

  counts_there : has_counts s ≡ true
  unfolding has_counts lines_taken
  counts_there =
      ap (any is_counted) (all_taken s s.sections (all_prompted s has_items_lem))
      ∙ some_counted (flat_map lyrics_of s.sections) (all_counted s s.sections (all_prompted s has_items_lem))
      (λ z. some (ap (λ (ws : List ℕ). length ws) items_all ∙ prompts_length 0 (flat_map lyrics_of s.sections) ∙ z))

  pub sums_start : sum_faults s ≡ [] → Each (Summed s) s.sections
  unfolding sum_faults provided◌then◌else◌
  sums_start e =
      let none : flat_map (sum_fault s) s.sections ≡ [] = rw counts_there at e in
      all_summed s s.sections (all_prompted s has_items_lem) (gather_nil (sum_fault s) s.sections none)

pub items_start : (s : Song) (k : ℕ) → k ≡ length (tables s).items → (tables s).items ≡ items_left k 0 s.sections
unfolding items_left
items_start s zero e = no_items (tables s).items e
  where
    no_items : (ws : List ℕ) → 0 ≡ length ws → ws ≡ []
    no_items [] z = refl
    no_items (w ∷ ws) z = absurd (let y : ⊥ = omega arith in y)
items_start s (suc k) e = items_all s (λ z. let y : ⊥ = omega arith in y)

-- What the words of lyric lines tell.
module _ (a b : ℕ) (ws : List ℕ) (l : Lyric) (e : lyric_in a b ≡ l) where
  word_read : (m : ℕ) → prompt_words m (a ∷ b ∷ ws) ≡ packed_item l.offset l.length m l.count l.style ∷ prompt_words (m + l.count) ws
  unfolding prompt_words
  word_read m = rw e

  count_read : counts_in (a ∷ b ∷ ws) ≡ l.count + counts_in ws
  unfolding counts_in
  count_read = rw e

no_prompts : (m : ℕ) → prompt_words m [] ≡ []
unfolding prompt_words
no_prompts m = refl

prompts_read : (m : ℕ) (ls : List LyricLine) → LyricsFit ls → prompt_words m (flat_map lyric_row ls) ≡ map item_word (prompts_from m ls)
unfolding flat_map lyric_row lyric_by LyricsFit prompts_from item_word
prompts_read m [] f = no_prompts m
prompts_read m (l ∷ ls) f =
    let k = get_or (count_of l) 0 in
    word_read _ _ (flat_map lyric_row ls) _ (lyric_read l f.0) m
    ∙ ap (λ (ws : List ℕ). item_word (record { words = styled (words_of l.text).text; first = m; measures = k }) ∷ ws) (prompts_read (m + k) ls f.1)

counts_read : (ls : List LyricLine) → LyricsFit ls → counts_in (flat_map lyric_row ls) ≡ counted ls
unfolding flat_map lyric_row lyric_by LyricsFit counted counts_in
counts_read [] f = refl
counts_read (l ∷ ls) f =
    count_read _ _ (flat_map lyric_row ls) _ (lyric_read l f.0) ∙ ap (λ (n : ℕ). get_or (count_of l) 0 + n) (counts_read ls f.1)

one_left : (m a : ℕ) → prompt_words m (a ∷ []) ≡ []
unfolding prompt_words
one_left m a = refl

-- The line at a place of a stretch that ends before `to`; past the last line there is none.
module _ (ws : List ℕ) (to at : ℕ) where
  module _ (more : at + 1 < to) (inside : to ≤ length ws) (l : Lyric) (is : l ≡ lyric_at ws at) where
    pub prompts_more : (m : ℕ) → prompt_words m (drop at (take to ws))
        ≡ packed_item l.offset l.length m l.count l.style ∷ prompt_words (m + l.count) (drop (at + 2) (take to ws))
    unfolding lyric_at
    prompts_more m = ap (prompt_words m) (two_words ws to at more inside) ∙ word_read _ _ (drop (at + 2) (take to ws)) l (sym is) m

    pub counts_more : counts_in (drop at (take to ws)) ≡ l.count + counts_in (drop (at + 2) (take to ws))
    unfolding lyric_at
    counts_more = ap counts_in (two_words ws to at more inside) ∙ count_read _ _ (drop (at + 2) (take to ws)) l (sym is)

  pub prompts_over : (m : ℕ) → to ≤ at + 1 → prompt_words m (drop at (take to ws)) ≡ []
  prompts_over m h =
      let n = length-take to ws in
      let k = length-drop at (take to ws) in
      short (drop at (take to ws)) (omega arith)
    where
      short : (l : List ℕ) → length l ≤ 1 → prompt_words m l ≡ []
      short [] z = no_prompts m
      short (a ∷ []) z = one_left m a
      short (a ∷ b ∷ l) z = absurd (let y : ⊥ = omega arith in y)

-- The section that is seen, behind m measures.
module _ {s : Song} {ws : List ℕ} {x : Section} {v : View} (w : Sees s ws x v) (f : SectionFits s x) (m : ℕ) where
  pub items_split : (k c : ℕ) (xs : List Section) → SummedLeft s k (x ∷ xs) → c ≡ length (played s x)
      → items_left k m (x ∷ xs) ≡ prompt_words m (words_in ws (lyrics_taken k v.lyrics)) ++ items_left k (m + c) xs
  unfolding items_left lyrics_taken flat_map lyrics_of Each prompt_words
  items_split zero c xs h e = refl
  items_split (suc k) c xs h e =
      let sum = (h (λ z. let y : ⊥ = omega arith in y)).0 in
      let same : m + counted x.lyrics ≡ m + c = omega arith in
      let read : prompt_words m (words_in ws v.lyrics) ≡ map item_word (prompts_from m x.lyrics) =
      ap (prompt_words m) w.lyrics.words ∙ prompts_read m x.lyrics f.lyrics in
      prompts_append m x.lyrics (flat_map lyrics_of xs) ∙ rw (read, same)

  pub counts_few : (k c : ℕ) (xs : List Section) → SummedLeft s k (x ∷ xs) → c ≡ length (played s x) → m + c ≤ 65535
      → m + counts_in (words_in ws (lyrics_taken k v.lyrics)) ≤ 65535
  unfolding lyrics_taken Each counts_in
  counts_few zero c xs h e few = omega arith
  counts_few (suc k) c xs h e few =
      let sum = (h (λ z. let y : ⊥ = omega arith in y)).0 in
      let read : counts_in (words_in ws v.lyrics) ≡ counted x.lyrics = ap counts_in w.lyrics.words ∙ counts_read x.lyrics f.lyrics in
      omega arith

  pub lyrics_inside : (k : ℕ) → (lyrics_taken k v.lyrics).to ≡ (lyrics_taken k v.lyrics).from + length (words_in ws (lyrics_taken k v.lyrics))
  unfolding lyrics_taken
  lyrics_inside zero = refl
  lyrics_inside (suc k) = w.lyrics.size ∙ ap (λ (new : List ℕ). v.lyrics.from + length new) (sym w.lyrics.words)

  pub lyrics_low : (k : ℕ) → v.lyrics.to ≤ 100000 → (lyrics_taken k v.lyrics).to ≤ 1000000
  unfolding lyrics_taken
  lyrics_low zero h = omega arith
  lyrics_low (suc k) h = omega arith

-- Lines are taken where there are items.
pub taken_some : (k : ℕ) (t : Stretch) → (k ≡ 0 → ⊥) → t ≡ lyrics_taken k t
unfolding lyrics_taken
taken_some zero t h = absurd (h refl)
taken_some (suc k) t h = refl
