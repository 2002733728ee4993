-- What a view tells of the section whose words stand at a place.
use Prim.Native.Nat.{ℕ, ◌+◌, ◌-◌, ◌*◌, ◌^◌, ◌/◌, ◌%◌, ◌<◌, ◌≤◌}
use mathlib.Core.Path.{◌≡◌, refl, sym, ap, ◌∙◌, subst}
use mathlib.Core.List.{List, [], ◌∷◌, ◌++◌, append_assoc, flat_map}
use mathlib.Core.Bool.{Bool, true, false, ◌||◌, ◌&&◌}
use mathlib.Core.Option.{Option, none, some}
use native.Mathlib.Omega.{arith}
use borrow.Author.Tests.{leb-true}
use lib.Dec.{eqb, leb}
use lib.ListN.{length, drop, get_or, length-append}
use lib.Seq.{get_or-drop, drop-drop, take-append_seam, drop-append_seam}
use Rattle.songcode.proofs.ListLaws.{drop_take, both_pass}
use Rattle.songcode.specs.Lists.{provided◌then◌else◌, is_some}
use Rattle.songcode.specs.Song as song
use Rattle.songcode.specs.Song.{Items, LyricLine, Modifiers, Section, Song}
use Rattle.songcode.specs.Answer.References.{pattern_items}
use Rattle.songcode.specs.Answer.Playing.{time_of, bpm_of, repeats}
use Rattle.songcode.specs.Answer.Meter.{all_fit, count, most_measures}
use Rattle.score.specs.declared.views.View.{View}
use Rattle.score.specs.Even.{is_whole, even_measures, even_pattern}
use Rattle.score.specs.Sections.{side_row, pattern_row, cut_word, is_cut, cuts_by, cuts_row, lyric_by, lyric_row, parts_row, bit, section_row, sections_row}
use Rattle.score.specs.Views.{cut_in, cut_at, cuts_length, view_by, view_of, stretch}
use Rattle.score.specs.Fitting.{CutSmall, SectionFits}
use Rattle.score.specs.Seen.{Holds, RowFrom, cut_taken, Sees}

module _ (ws : List ℕ) (at : ℕ) where
  -- A word of those that stand at a place, what stands behind some of them, and some of them in their stretch.
  word_there : (k : ℕ) (row : List ℕ) → drop at ws ≡ row → get_or ws (at + k) 0 ≡ get_or row k 0
  word_there k row e = sym (get_or-drop at ws k 0) ∙ ap (λ (l : List ℕ). get_or l k 0) e

  first_there : (row : List ℕ) → drop at ws ≡ row → get_or ws at 0 ≡ get_or row 0 0
  first_there row e = let z : at + 0 ≡ at = omega arith in rw z at (word_there 0 row e)

  pub behind_there : (n : ℕ) (xs rest : List ℕ) → drop at ws ≡ xs ++ rest → n ≡ length xs → drop (at + n) ws ≡ rest
  behind_there n xs rest e f = sym (drop-drop n at ws) ∙ rw (e, f) (drop-append_seam xs rest)

  pub holds_there : (to : ℕ) (xs rest : List ℕ) → drop at ws ≡ xs ++ rest → to ≡ at + length xs → Holds ws (stretch at to) xs
  holds_there to xs rest e f =
      let k : at + length xs - at ≡ length xs = omega arith in
      record { words = rw f (rw (drop_take at (at + length xs) ws, k, e) (take-append_seam xs rest)); size = f }

-- The fields of the four words.
length_field : (n t b : ℕ) → t ≤ 32 → b ≤ 511 → (n * 2 ^ 15 + t * 2 ^ 9 + b) / 32768 ≡ n
length_field n t b h k = omega arith

meter_field : (n t b : ℕ) → t ≤ 32 → b ≤ 511 → (n * 2 ^ 15 + t * 2 ^ 9 + b) / 512 % 64 ≡ t
meter_field n t b h k = omega arith

tempo_field : (n t b : ℕ) → t ≤ 32 → b ≤ 511 → (n * 2 ^ 15 + t * 2 ^ 9 + b) % 512 ≡ b
tempo_field n t b h k = omega arith

line_field : (h r b : ℕ) → r ≤ 9999 → b ≤ 1 → (h * 2 ^ 16 + r * 2 ^ 2 + b * 2) / 65536 ≡ h
line_field h r b k l = omega arith

repeat_field : (h r b : ℕ) → r ≤ 9999 → b ≤ 1 → (h * 2 ^ 16 + r * 2 ^ 2 + b * 2) / 4 % 16384 ≡ r
repeat_field h r b k l = omega arith

cut_field : (h r b : ℕ) → r ≤ 9999 → b ≤ 1 → (h * 2 ^ 16 + r * 2 ^ 2 + b * 2) / 2 % 2 ≡ b
cut_field h r b k l = omega arith

upper_field : (a b : ℕ) → b < 65536 → (a * 2 ^ 16 + b) / 65536 ≡ a
upper_field a b h = omega arith

lower_field : (a b : ℕ) → b < 65536 → (a * 2 ^ 16 + b) % 65536 ≡ b
lower_field a b h = omega arith

-- A bit, and the answer read again.
pub bit_small : (b : Bool) → bit b ≤ 1
unfolding bit
bit_small true = omega arith
bit_small false = omega arith

pub bit_read : (b : Bool) → eqb (bit b) 1 ≡ b
unfolding bit
bit_read true = refl
bit_read false = refl

-- A cut's word read again.
cut_again : (o : Option song.Cut) → CutSmall o → cut_in (cut_word o) ≡ cut_taken o
unfolding cut_in cut_word cut_taken CutSmall
cut_again none h = refl
cut_again (some c) h =
    let m = c.whole.measures in
    let b = c.further.beats in
    let k = h.0 in
    let l = h.1 in
    let x : (m * 2 ^ 18 + b * 2 ^ 4) / 262144 ≡ m = omega arith in
    let y : (m * 2 ^ 18 + b * 2 ^ 4) / 16 % 16384 ≡ b = omega arith in
    rw (x, y)

-- A song may have 65,535 measures, which is a field of 16 bits.
counted_small : (b : Bool) (k : ℕ) → (b ≡ true → k ≤ 65535) → (provided b then k else 0) < 65536
unfolding provided◌then◌else◌
counted_small true k h = let g = h refl in omega arith
counted_small false k h = omega arith

measures_small : (n : ℕ) (o : Option Items) → even_measures n o < 65536
unfolding even_measures most_measures
measures_small n none = omega arith
measures_small n (some r) =
    counted_small (is_whole r && all_fit n r && leb (count r) 65535) (count r)
    (λ h. leb-true (count r) 65535 (both_pass (is_whole r && all_fit n r) (leb (count r) 65535) h).1)

pub even_small : (s : Song) (x : Section) → even_pattern s x < 65536
unfolding even_pattern
even_small s x = measures_small (time_of s x) (pattern_items s.definitions x.pattern)

cuts_size : (b : Bool) (v w : ℕ) → length (cuts_by b v w) ≡ cuts_length b
unfolding cuts_by cuts_length
cuts_size true v w = refl
cuts_size false v w = refl

pub lyrics_size : (ls : List LyricLine) → length (flat_map lyric_row ls) ≡ 2 * length ls
unfolding flat_map lyric_row lyric_by
lyrics_size [] = refl
lyrics_size (l ∷ ls) = let h = lyrics_size ls in omega arith

-- Both cuts of a section whose words stand at a place.
module _ (ws : List ℕ) (at : ℕ) (m : Modifiers) (f : CutSmall m.cut_start) (g : CutSmall m.cut_end) (rest : List ℕ)
    (e : drop at ws ≡ cuts_row m ++ rest) where
  unfoldable Cuts : Bool → Type 0
  Cuts b = (cut_at ws b at ≡ cut_taken m.cut_start) × (cut_at ws b (at + 1) ≡ cut_taken m.cut_end)

  uncut : (a b : Option song.Cut) → is_some a || is_some b ≡ false → (cut_in 0 ≡ cut_taken a) × (cut_in 0 ≡ cut_taken b)
  unfolding is_some cut_in cut_taken bit
  uncut none none h = (refl, refl)
  uncut none (some c) h = let z : ◌≡◌ {A = ℕ} 1 0 = ap bit h in absurd (let y : ⊥ = omega arith in y)
  uncut (some c) b h = let z : ◌≡◌ {A = ℕ} 1 0 = ap bit h in absurd (let y : ⊥ = omega arith in y)

  by_cut : (b : Bool) → is_cut m ≡ b → drop at ws ≡ cuts_by b (cut_word m.cut_start) (cut_word m.cut_end) ++ rest → Cuts b
  unfolding Cuts cut_at cuts_by is_cut
  by_cut true h k =
      (rw (first_there ws at _ k) (cut_again m.cut_start f), rw (word_there ws at 1 _ k) (cut_again m.cut_end g))
  by_cut false h k = uncut m.cut_start m.cut_end h

  pub cuts_seen : (cut_at ws (is_cut m) at ≡ cut_taken m.cut_start) × (cut_at ws (is_cut m) (at + 1) ≡ cut_taken m.cut_end)
  unfolding Cuts cuts_row
  cuts_seen = by_cut (is_cut m) refl e

-- The parts of a section, where its words stand at a place.
module _ (s : Song) (ws : List ℕ) (at : ℕ) (x : Section) (f : SectionFits s x) (rest : List ℕ) (e : drop at ws ≡ section_row s x ++ rest) where
  abbrev cuts : List ℕ
  cuts = cuts_row x.modifiers

  abbrev lead : List ℕ
  lead = side_row x.modifiers.before

  abbrev pattern : List ℕ
  pattern = pattern_row x.pattern

  abbrev tail : List ℕ
  tail = side_row x.modifiers.after

  abbrev lyrics : List ℕ
  lyrics = flat_map lyric_row x.lyrics

  abbrev parts : List ℕ
  parts = parts_row x

  abbrev size : ℕ
  size = 4 + length parts

  abbrev word_a : ℕ
  word_a = size * 2 ^ 15 + time_of s x * 2 ^ 9 + bpm_of s x

  abbrev word_b : ℕ
  word_b = (x.header - 1) * 2 ^ 16 + repeats x.modifiers * 2 ^ 2 + bit (is_cut x.modifiers) * 2

  abbrev word_c : ℕ
  word_c = length lead * 2 ^ 16 + length tail

  abbrev word_d : ℕ
  word_d = length x.lyrics * 2 ^ 16 + even_pattern s x

  whole : drop at ws ≡ word_a ∷ word_b ∷ word_c ∷ word_d ∷ (parts ++ rest)
  unfolding section_row
  whole = e

  is_a : get_or ws at 0 ≡ word_a
  is_a = first_there ws at _ whole

  is_b : get_or ws (at + 1) 0 ≡ word_b
  is_b = word_there ws at 1 _ whole

  is_c : get_or ws (at + 2) 0 ≡ word_c
  is_c = word_there ws at 2 _ whole

  is_d : get_or ws (at + 3) 0 ≡ word_d
  is_d = word_there ws at 3 _ whole

  parts_size : length parts ≡ length cuts + (length lead + (length pattern + (length tail + 2 * length x.lyrics)))
  unfolding parts_row
  parts_size =
      let a = length-append cuts (lead ++ (pattern ++ (tail ++ lyrics))) in
      let b = length-append lead (pattern ++ (tail ++ lyrics)) in
      let c = length-append pattern (tail ++ lyrics) in
      let d = length-append tail lyrics in
      let g = lyrics_size x.lyrics in
      omega arith

  -- What stands from each part on.
  from_cuts : drop (at + 4) ws ≡ cuts ++ (lead ++ (pattern ++ (tail ++ (lyrics ++ rest))))
  unfolding parts_row
  from_cuts =
      behind_there ws at 4 (word_a ∷ word_b ∷ word_c ∷ word_d ∷ []) (parts ++ rest) whole refl
      ∙ append_assoc cuts (lead ++ (pattern ++ (tail ++ lyrics))) rest
      ∙ ap (λ (l : List ℕ). cuts ++ l)
      (append_assoc lead (pattern ++ (tail ++ lyrics)) rest
      ∙ ap (λ (l : List ℕ). lead ++ l) (append_assoc pattern (tail ++ lyrics) rest ∙ ap (λ (l : List ℕ). pattern ++ l) (append_assoc tail lyrics rest)))

  abbrev first : ℕ
  first = at + 4 + cuts_length (is_cut x.modifiers)

  from_lead : drop first ws ≡ lead ++ (pattern ++ (tail ++ (lyrics ++ rest)))
  unfolding cuts_row
  from_lead = behind_there ws (at + 4) (cuts_length (is_cut x.modifiers)) cuts _ from_cuts (sym (cuts_size _ _ _))

  from_pattern : drop (first + length lead) ws ≡ pattern ++ (tail ++ (lyrics ++ rest))
  from_pattern = behind_there ws first (length lead) lead _ from_lead refl

  from_tail : drop (first + length lead + length pattern) ws ≡ tail ++ (lyrics ++ rest)
  from_tail = behind_there ws (first + length lead) (length pattern) pattern _ from_pattern refl

  from_lyrics : drop (first + length lead + length pattern + length tail) ws ≡ lyrics ++ rest
  from_lyrics = behind_there ws (first + length lead + length pattern) (length tail) tail _ from_tail refl

  pub from_next : drop (at + size) ws ≡ rest
  from_next =
      let z : at + size ≡ at + 4 + length parts = omega arith in
      rw z (behind_there ws (at + 4) (length parts) parts rest
      (behind_there ws at 4 (word_a ∷ word_b ∷ word_c ∷ word_d ∷ []) (parts ++ rest) whole refl) refl)

  -- The fields as numbers.
  abbrev v : View
  v = view_by ws at word_a word_b word_c word_d

  same_view : view_of ws at ≡ v
  unfolding view_of
  same_view = rw (is_a, is_b, is_c, is_d)

  cut_is_lem : eqb (word_b / 2 % 2) 1 ≡ is_cut x.modifiers
  cut_is_lem =
      rw (cut_field (x.header - 1) (repeats x.modifiers) (bit (is_cut x.modifiers)) f.repeat (bit_small (is_cut x.modifiers)))
      (bit_read (is_cut x.modifiers))

  length_is : word_a / 32768 ≡ size
  length_is = length_field size (time_of s x) (bpm_of s x) f.meter f.tempo

  lead_is : word_c / 65536 ≡ length lead
  lead_is = upper_field (length lead) (length tail) f.tail_few

  tail_is : word_c % 65536 ≡ length tail
  tail_is = lower_field (length lead) (length tail) f.tail_few

  lines_is : word_d / 65536 ≡ length x.lyrics
  lines_is = upper_field (length x.lyrics) (even_pattern s x) (even_small s x)

  abbrev last : ℕ
  last = at + size - 2 * length x.lyrics

  cuts_there_lem : length cuts ≡ cuts_length (is_cut x.modifiers)
  unfolding cuts_row
  cuts_there_lem = cuts_size _ _ _

  last_is : last ≡ first + length lead + length pattern + length tail
  last_is =
      let p = parts_size in
      let c = cuts_there_lem in
      omega arith

  end_is : last - length tail ≡ first + length lead + length pattern
  end_is = let l = last_is in omega arith

  pub next_is : (view_of ws at).next ≡ at + size
  unfolding view_by
  next_is = ap (λ (w : View). w.next) same_view ∙ rw length_is

  pub seen : Sees s ws x (view_of ws at)
  unfolding view_by
  seen =
      let n = last_is in
      let m = end_is in
      let l = lyrics_size x.lyrics in
      let q = cuts_seen ws (at + 4) x.modifiers f.front f.back _ from_cuts in
      let h = f.first in
      subst (λ (w : View). Sees s ws x w) (sym same_view)
      (record {
        meter = meter_field size (time_of s x) (bpm_of s x) f.meter f.tempo;
        tempo = tempo_field size (time_of s x) (bpm_of s x) f.meter f.tempo;
        header = rw (line_field (x.header - 1) (repeats x.modifiers) (bit (is_cut x.modifiers)) f.repeat
            (bit_small (is_cut x.modifiers))) (omega arith);
        repeat = repeat_field (x.header - 1) (repeats x.modifiers) (bit (is_cut x.modifiers)) f.repeat (bit_small (is_cut x.modifiers));
        even = lower_field (length x.lyrics) (even_pattern s x) (even_small s x);
        front = rw cut_is_lem q.0;
        back = rw cut_is_lem q.1;
        lead = rw (cut_is_lem, lead_is) (holds_there ws first (first + length lead) lead _ from_lead refl);
        pattern = rw (cut_is_lem, lead_is, tail_is, length_is, lines_is, m)
            (holds_there ws (first + length lead) (first + length lead + length pattern) pattern _ from_pattern refl);
        tail = rw (tail_is, length_is, lines_is, m, n)
            (holds_there ws (first + length lead + length pattern) (first + length lead + length pattern + length tail) tail _ from_tail refl);
        lyrics = rw (length_is, lines_is, n)
            (holds_there ws (first + length lead + length pattern + length tail) (at + size) lyrics _ from_lyrics (omega arith));
      })

-- The first section of the row is seen, and the others stand from the next place on.
module _ (s : Song) (ws : List ℕ) (at end : ℕ) (x : Section) (xs : List Section) (f : SectionFits s x) (h : RowFrom s ws at end (x ∷ xs)) where
  split : drop at ws ≡ section_row s x ++ (sections_row s xs ++ drop end ws)
  unfolding sections_row flat_map
  split = h.words ∙ append_assoc (section_row s x) (sections_row s xs) (drop end ws)

  both : end ≡ at + (4 + length (parts_row x)) + length (sections_row s xs)
  unfolding sections_row flat_map section_row
  both =
      let a = length-append (section_row s x) (sections_row s xs) in
      let b = h.size in
      omega arith

  pub view_sees : Sees s ws x (view_of ws at)
  view_sees = seen s ws at x f _ split

  pub view_next : RowFrom s ws (view_of ws at).next end xs
  view_next =
      rw (next_is s ws at x f _ split)
      (record { words = from_next s ws at x f _ split; size = both; few = h.few })

  pub view_further : at < (view_of ws at).next
  view_further = rw (next_is s ws at x f _ split) (omega arith)

-- No section is left at the end, and before it there is one.
pub row_over : (s : Song) (ws : List ℕ) (at end : ℕ) (xs : List Section) → RowFrom s ws at end xs → end ≤ at → xs ≡ []
unfolding sections_row flat_map section_row
row_over s ws at end [] h e = refl
row_over s ws at end (x ∷ xs) h e =
    let a = length-append (section_row s x) (sections_row s xs) in
    let b = h.size in
    let z : ⊥ = omega arith in
    absurd z

pub row_more : (s : Song) (ws : List ℕ) (at end : ℕ) → RowFrom s ws at end [] → at ≡ end
unfolding sections_row flat_map
row_more s ws at end h = let b = h.size in omega arith
