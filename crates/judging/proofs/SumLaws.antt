-- The sums over the sections of a song: what its tables hold, and the first section whose lyric lines do not sum to its measures.
use Prim.Native.Nat.{ℕ, suc, ◌+◌, ◌≤◌}
use mathlib.Core.Path.{◌≡◌, refl, sym, ap, ◌∙◌, subst}
use mathlib.Core.List.{List, [], ◌∷◌, ◌++◌, map, flat_map}
use mathlib.Core.Bool.{Bool, true, false, not, ◌&&◌, not-not, and-true, and_assoc}
use mathlib.Core.Option.{Option, none, some}
use native.Mathlib.Omega.{arith}
use lib.Dec.{eqb, ltb}
use lib.ListN.{length, length-map, length-append}
use borrow.Author.Tests.{ne_eqb}
use Rattle.songcode.specs.Lists.{provided◌then◌else◌, is_empty, is_some, every}
use Rattle.songcode.specs.Song.{Items, LyricLine, Section, Song, Beat}
use Rattle.songcode.specs.Answer.References.{pattern_items}
use Rattle.songcode.specs.Answer.Playing.{played}
use Rattle.songcode.specs.Description.Performance.{total}
use Rattle.songcode.specs.Answer.Lyrics.{is_counted, is_played, lines_taken, counted, has_items, prompts}
use Rattle.songcode.specs.Answer.Tables.{section_words, all_measures, measure_words, beat_word, item_word, tables}
use Rattle.songcode.specs.Description.WrittenTables.{lyrics_of}
use Rattle.songcode.specs.Answer.Answer.{song_of}
use Rattle.songcode.proofs.ListLaws.{by_cases, both_pass, Each}
use Rattle.songcode.proofs.TurnedRows.{total_append}
use Rattle.outlines.specs.Words.{vacant}
use Rattle.score.specs.Fitting.{LyricFits, LyricsFit}
use Rattle.player.specs.declared.playing.Counts.{Counts}
use Rattle.sections.specs.declared.blocks.Place.{Place}
use Rattle.sections.specs.Onward.{section_at, sections_from}
use Rattle.laying.specs.declared.texts.Text.{Text}
use Rattle.laying.specs.declared.texts.Opened.{Opened}
use Rattle.judging.specs.declared.lyrics.Tally.{Tally}
use Rattle.judging.specs.declared.sums.Sums.{Sums}
use Rattle.laying.specs.Scores.{Carries, Opens}
use Rattle.judging.specs.Lyrics.{first_line, bare_line, tallied}
use Rattle.judging.specs.Sums.{has_lines, has_prompts, sum_differs, with_section, totals_of, Holds}
use Rattle.judging.proofs.LyricLaws.{prompts_length}
use Rattle.judging.proofs.TakenLaws.{Numbered, taken_from}

-- A text is empty where there are no items.
empty_is : (ws : List ℕ) (t : Text) (o : Option Items) → Carries ws t o → t.outline.empty ≡ not (is_some o)
unfolding Carries is_some vacant
empty_is ws t none h = ap (λ x. x.empty) h.0
empty_is ws t (some r) h = h.0

-- A section that is sung has lyric lines and a pattern that is not empty; it has items if all its lines have counts.
abbrev is_sung : Song → Section → Bool
is_sung s x = is_played s x && not (is_empty x.lyrics)

abbrev pub is_prompted : Song → Section → Bool
is_prompted s x = is_played s x && not (is_empty x.lyrics) && every is_counted x.lyrics

-- Its lines do not sum to its measures.
abbrev pub off_sum : Song → Section → Bool
off_sum s x = is_played s x && not (is_empty x.lyrics) && not (eqb (counted x.lyrics) (length (played s x)))

no_lines : (ls : List LyricLine) → eqb (length ls) 0 ≡ is_empty ls
unfolding is_empty
no_lines [] = refl
no_lines (l ∷ ls) = ne_eqb (suc (length ls)) 0 (λ z. let y : ⊥ = omega arith in absurd y)

-- Every line that has a number from 1 on has a count where no line is bare.
first_some : (a b : ℕ) → 1 ≤ a → eqb (first_line a b) 0 ≡ false
unfolding first_line provided◌then◌else◌
first_some a b h =
    let n : eqb a 0 ≡ false = ne_eqb a 0 (λ z. let y : ⊥ = omega arith in absurd y) in
    by_cases (eqb b 0) (λ e. rw (n, e) n) (λ e. by_cases (ltb b a) (λ f. rw (n, e, f) e) (λ f. rw (n, e, f) n))

bare_none : (ls : List LyricLine) → Numbered ls → eqb (bare_line ls) 0 ≡ every is_counted ls
unfolding bare_line every provided◌then◌else◌ Each
bare_none [] h = refl
bare_none (l ∷ ls) h =
    by_cases (is_counted l)
    (λ e. rw e (bare_none ls h.1))
    (λ e. rw e (first_some l.number (bare_line ls) h.0))

-- What the tally of a section's lyric lines says of them.
tallied_bare : (ls : List LyricLine) → Numbered ls → eqb (tallied ls).bare 0 ≡ every is_counted ls
unfolding tallied
tallied_bare ls h = bare_none ls h

tallied_sum : (ls : List LyricLine) → (tallied ls).sum ≡ counted ls
unfolding tallied
tallied_sum ls = refl

module _ (s : Song) (x : Section) (empty : Bool) (t : Tally) (e : empty ≡ not (is_played s x)) (u : t ≡ tallied x.lyrics) where
  lines_said : has_lines empty t ≡ is_sung s x
  unfolding tallied
  lines_said = rw (e, u, no_lines x.lyrics, not-not (is_played s x))

  prompts_said : Numbered x.lyrics → has_prompts empty t ≡ is_prompted s x
  prompts_said h =
      let b : eqb t.bare 0 ≡ every is_counted x.lyrics = ap (λ (y : Tally). eqb y.bare 0) u ∙ tallied_bare x.lyrics h in
      rw (lines_said, b)

  differs_said : (k : ℕ) → k ≡ length (played s x) → sum_differs empty t k ≡ off_sum s x
  differs_said k h =
      let w : t.sum ≡ counted x.lyrics = ap (λ (y : Tally). y.sum) u ∙ tallied_sum x.lyrics in
      rw (lines_said, w, h)

pub opened_empty : {s vs : List ℕ} {p : Place} (x : Opened) → Opens s p vs x
    → x.texts.pattern.outline.empty ≡ not (is_played (song_of s) (section_at s p))
unfolding is_played
opened_empty {s} {vs} {p} x o =
    empty_is vs x.texts.pattern (pattern_items (song_of s).definitions (section_at s p).pattern) o.texts.pattern

pub lines_numbered : (ls : List LyricLine) → LyricsFit ls → Numbered ls
unfolding LyricsFit LyricFits Each
lines_numbered [] f = tt
lines_numbered (l ∷ ls) f = (f.0.first, lines_numbered ls f.1)

-- The tally of the lyric lines of a section that is opened, and whose words fit.
module _ {s vs : List ℕ} {p : Place} (x : Opened) (o : Opens s p vs x) (f : LyricsFit (section_at s p).lyrics) (t : Tally)
    (u : t ≡ tallied (section_at s p).lyrics) where
  opened_prompts : has_prompts x.texts.pattern.outline.empty t ≡ is_prompted (song_of s) (section_at s p)
  opened_prompts =
      prompts_said (song_of s) (section_at s p) _ t (opened_empty x o) u (lines_numbered (section_at s p).lyrics f)

  pub opened_differs : (k : ℕ) → k ≡ length (played (song_of s) (section_at s p))
      → sum_differs x.texts.pattern.outline.empty t k ≡ off_sum (song_of s) (section_at s p)
  opened_differs k e = differs_said (song_of s) (section_at s p) _ t (opened_empty x o) u k e

  pub opened_lines : t.lines ≡ length (section_at s p).lyrics
  unfolding tallied
  opened_lines = ap (λ (y : Tally). y.lines) u

-- The sums so far, and what the sections that are left add to them.
pub record Summed (s : Song) (rest : List Section) (x : Sums) : Type 0 where
  pub sections : x.sections + length rest ≡ length s.sections
  pub measures : x.measures + length (flat_map (played s) rest) ≡ length (all_measures s)
  pub beats : x.beats + total (flat_map (played s) rest) ≡ total (all_measures s)
  pub lines : x.lines + length (flat_map lyrics_of rest) ≡ length (flat_map lyrics_of s.sections)
  pub all : x.all && every (is_prompted s) rest ≡ has_items s

summed_start : (s : Song) → Summed s s.sections (record { sections = 0; measures = 0; beats = 0; lines = 0; all = true })
unfolding all_measures has_items
summed_start s =
    record {
      sections = omega arith;
      measures = from_none (length (flat_map (played s) s.sections));
      beats = from_none (total (flat_map (played s) s.sections));
      lines = omega arith;
      all = refl;
    }
  where
    from_none : (k : ℕ) → 0 + k ≡ k
    from_none k = omega arith

pub summed_from : (s : Song) (xs : List Section) → xs ≡ s.sections → Summed s xs (record { sections = 0; measures = 0; beats = 0; lines = 0; all = true })
summed_from s xs e = subst (λ ys. Summed s ys (record { sections = 0; measures = 0; beats = 0; lines = 0; all = true })) (sym e) (summed_start s)

summed_next : (s : Song) (y : Section) (rest : List Section) (x : Sums) (c : Counts) (l : ℕ) (b : Bool) → c.measures ≡ length (played s y)
    → c.beats ≡ total (played s y) → l ≡ length y.lyrics → b ≡ is_prompted s y
    → Summed s (y ∷ rest) x → Summed s rest (with_section x c l b)
unfolding flat_map every lyrics_of
summed_next s y rest x c l b m t e p h =
    let h0 = h.sections in
    let h1 = h.measures in
    let h2 = h.beats in
    let h3 = h.lines in
    let a1 = length-append (played s y) (flat_map (played s) rest) in
    let a2 = total_append (played s y) (flat_map (played s) rest) in
    let a3 = length-append y.lyrics (flat_map lyrics_of rest) in
    record {
      sections = omega arith;
      measures = omega arith;
      beats = omega arith;
      lines = omega arith;
      all = ap (λ (q : Bool). (x.all && q) && every (is_prompted s) rest) p ∙ and_assoc x.all (is_prompted s y) (every (is_prompted s) rest) ∙ h.all;
    }

-- A section that is opened.
module _ {s vs : List ℕ} {p : Place} (x : Opened) (o : Opens s p vs x) (f : LyricsFit (section_at s p).lyrics) (t : Tally)
    (u : t ≡ tallied (section_at s p).lyrics) where
  pub opened_summed : (y z : Sums) (c : Counts) (b : Bool) → z ≡ with_section y c t.lines b
      → b ≡ has_prompts x.texts.pattern.outline.empty t → c.measures ≡ length (played (song_of s) (section_at s p))
      → c.beats ≡ total (played (song_of s) (section_at s p))
      → Summed (song_of s) (sections_from s p) y → Summed (song_of s) (sections_from s x.next) z
  opened_summed y z c b w e m d h =
      let g : Summed (song_of s) (section_at s p ∷ sections_from s x.next) y = subst (λ xs. Summed (song_of s) xs y) o.met.first h in
      subst (λ v. Summed (song_of s) (sections_from s x.next) v) (sym w)
      (summed_next (song_of s) (section_at s p) (sections_from s x.next) y c t.lines b m d (opened_lines x o f t u)
      (e ∙ opened_prompts x o f t u) g)

-- The words of the tables are as many.
pub section_words_length : (s : Song) (first : ℕ) (xs : List Section) → length (section_words s first xs) ≡ length xs
unfolding section_words
section_words_length s first [] = refl
section_words_length s first (x ∷ xs) = ap suc (section_words_length s (first + length (played s x)) xs)

pub measure_words_length : (first : ℕ) (row : List (List Beat)) → length (measure_words first row) ≡ length row
unfolding measure_words
measure_words_length first [] = refl
measure_words_length first (m ∷ row) = ap suc (measure_words_length (first + length m) row)

pub beat_words_length : (row : List (List Beat)) → length (flat_map (map beat_word) row) ≡ total row
unfolding flat_map total
beat_words_length [] = refl
beat_words_length (m ∷ row) =
    let h = beat_words_length row in
    let a = length-map m beat_word in
    rw length-append (omega arith)

-- Where all sections have items, all their lines are taken.
pub prompted_parts : (s : Song) (x : Section) → is_prompted s x ≡ true
    → (is_played s x ≡ true) × (not (is_empty x.lyrics) ≡ true) × (every is_counted x.lyrics ≡ true)
prompted_parts s x e =
    let a = both_pass (is_sung s x) (every is_counted x.lyrics) e in
    let b = both_pass (is_played s x) (not (is_empty x.lyrics)) a.0 in
    (b.0, b.1, a.1)

pub all_taken : (s : Song) (xs : List Section) → every (is_prompted s) xs ≡ true → taken_from s xs ≡ flat_map lyrics_of xs
unfolding flat_map every provided◌then◌else◌ lyrics_of
all_taken s [] e = refl
all_taken s (x ∷ xs) e =
    let a = both_pass (is_prompted s x) (every (is_prompted s) xs) e in
    rw (prompted_parts s x a.0).0 (ap (λ (ls : List LyricLine). x.lyrics ++ ls) (all_taken s xs a.1))

pub all_prompted : (s : Song) → has_items s ≡ true → every (is_prompted s) s.sections ≡ true
unfolding has_items
all_prompted s e = e

items_length : (s : Song) → length (map item_word (prompts s)) ≡ (provided has_items s then length (flat_map lyrics_of s.sections) else 0)
unfolding prompts provided◌then◌else◌ lines_taken
items_length s =
    by_cases (has_items s)
    (λ e. rw e (prompts_length 0 (lines_taken s) ∙ ap length (all_taken s s.sections (all_prompted s e))))
    (λ e. rw e)

pub summed_end : (s : Song) (x : Sums) → Summed s [] x → Holds (tables s) (totals_of x)
unfolding tables totals_of flat_map every total
summed_end s x h =
    let h0 = h.sections in
    let h1 = h.measures in
    let h2 = h.beats in
    let h3 : x.lines ≡ length (flat_map lyrics_of s.sections) = let g = h.lines in omega arith in
    let h4 : x.all ≡ has_items s = sym (and-true x.all) ∙ h.all in
    let a = section_words_length s 0 s.sections in
    let b = measure_words_length 0 (all_measures s) in
    let d = beat_words_length (all_measures s) in
    record {
      sections = omega arith;
      measures = omega arith;
      beats = omega arith;
      items = rw (h3, h4) (sym (items_length s));
    }
