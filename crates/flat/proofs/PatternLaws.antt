-- The loop over the parts of a section: what the two tables hold of a part, and where the loop stands.
use Prim.Native.Nat.{ℕ, zero, suc, ◌+◌, ◌-◌, ◌<◌, ◌≤◌}
use mathlib.Core.Path.{◌≡◌, refl, sym, ap, ◌∙◌}
use mathlib.Core.List.{List, [], ◌∷◌, ◌++◌, map, map-append}
use native.Mathlib.Omega.{arith}
use native.Mathlib.Nat.{zero-add}
use lib.ListN.{length, take, drop, get_or, length-drop, take-append-drop, get_or-append}
use lib.Seq.{sets, length-sets, take-suc, take_all, take-nil, drop-append-le, take-append-le, drop-drop}
use Rattle.songcode.specs.Bytes.{ascii}
use Rattle.songcode.specs.Answer.Tables.{measure_word}
use Rattle.songcode.specs.Description.Layout.{field}
use Rattle.songcode.specs.Description.Performance.{total}
use Rattle.songcode.specs.EitherOrder.{Filled}
use Rattle.songcode.specs.Answer.Flat.{end_line}
use Rattle.songcode.proofs.ListLaws.{gather_append}
use Rattle.songcode.proofs.MemoryLaws.{first_sets}
use Rattle.songcode.proofs.TurnedRows.{total_append}
use Rattle.packing.specs.declared.fields.MeasureFields.{MeasureFields}
use Rattle.packing.specs.Fields.{HoldsMeasure}
use Rattle.player.specs.declared.playing.Counts.{Counts}
use Rattle.player.specs.Windows.{window, flat, heads}
use Rattle.player.specs.declared.playing.Arrangement.{Arrangement}
use Rattle.player.specs.Arrangements.{arranged_row, PlaysWithin, Plays}
use Rattle.player.proofs.ShortLaws.{Short, total_short, short_row}
use Rattle.player.proofs.WindowLaws.{length_flat, length_heads, total_window}
use Rattle.player.proofs.PartLaws.{PartOf, part_of, filled_window, filled_section, short_window, short_section, part_goes_on, heads_at_lem, beats_at}
use Rattle.player.proofs.SectionLaws.{section_beats}
use Rattle.flat.specs.Sheets.{Sheet, puts}
use Rattle.flat.specs.Measures.{beats_in, measure_line, measure_lines, pattern_lines, Lent}
use Rattle.flat.proofs.SheetLaws.{puts_append, puts_full}
use Rattle.flat.proofs.MeasureLaws.{measure_fields}

-- The fields of a measure's word.
word_first : (a b : ℕ) → a < 2097152 → b < 64 → field 11 21 (measure_word a b) ≡ a
unfolding field measure_word
word_first a b h k = omega arith

word_beats : (a b : ℕ) → a < 2097152 → b < 64 → field 5 6 (measure_word a b) ≡ b
unfolding field measure_word
word_beats a b h k = omega arith

-- A measure of a row, and all before it.
module _ {A : Type 0} where
  total_upto : (i : ℕ) (row : List (List A)) → total (take i row) + length (get_or row i []) ≤ total row
  unfolding total
  total_upto i [] = rw (take-nil {A = List A} i) (omega arith)
  total_upto zero (x ∷ xs) = omega arith
  total_upto (suc i) (x ∷ xs) = let h = total_upto i xs in omega arith

short_at : (i : ℕ) (row : List (List ℕ)) → Short row → length (get_or row i []) ≤ 32
unfolding Short
short_at i [] f = omega arith
short_at zero (x ∷ xs) f = f.0
short_at (suc i) (x ∷ xs) f = short_at i xs f.1

-- Two tables that hold a part.
module _ (part : List (List ℕ)) (ms bs : List ℕ) (short : Short part)
    (many : length part ≤ length ms) (room : total part ≤ length bs) (few : total part ≤ 65536) where
  pub word_at : (i : ℕ) → i < length part → get_or (sets ms 0 (heads 0 part)) i 0 ≡ measure_word (total (take i part)) (length (get_or part i []))
  word_at i h =
      let l = length_heads 0 part in
      let e : 0 + total (take i part) ≡ total (take i part) = zero-add (total (take i part)) in
      rw (first_sets (heads 0 part) ms (omega arith)) (get_or-append (heads 0 part) _ 0 i (omega arith) ∙ heads_at_lem 0 i part h ∙ rw e)

  measure_at_lem : (i : ℕ) → i < length part → beats_in (sets bs 0 (flat part)) (get_or (sets ms 0 (heads 0 part)) i 0) ≡ get_or part i []
  unfolding beats_in
  measure_at_lem i h =
      let a = total (take i part) in
      let b = length (get_or part i []) in
      let u : a + b ≤ total part = total_upto i part in
      let z : b ≤ 32 = short_at i part short in
      let l = length_flat part in
      let d = length-drop a (flat part) in
      rw (word_at i h, word_first a b (omega arith) (omega arith), word_beats a b (omega arith) (omega arith), first_sets (flat part) bs (omega arith))
      (ap (take b) (drop-append-le a (flat part) _ (omega arith)) ∙ take-append-le b (drop a (flat part)) _ (omega arith) ∙ beats_at i part)

  pub measures_held : (k : ℕ) → k ≤ length part → map (beats_in (sets bs 0 (flat part))) (take k (sets ms 0 (heads 0 part))) ≡ take k part
  measures_held zero h = refl
  measures_held (suc k) h =
      let f = beats_in (sets bs 0 (flat part)) in
      let t = sets ms 0 (heads 0 part) in
      let l = length-sets ms 0 (heads 0 part) in
      ap (map f) (take-suc t k 0 (omega arith)) ∙ map-append f (take k t) (get_or t k 0 ∷ [])
      ∙ ap (λ (r : List (List ℕ)). r ++ (f (get_or t k 0) ∷ [])) (measures_held k (omega arith))
      ∙ ap (λ (w : List ℕ). take k part ++ (w ∷ [])) (measure_at_lem k h) ∙ sym (take-suc part k [] h)

-- Measures with beats have one together.
some_beats : (k : ℕ) (row : List (List ℕ)) → Filled row → 1 ≤ k → 1 ≤ length row → 1 ≤ total (take k row)
unfolding Filled total
some_beats zero row f h l = absurd (omega arith)
some_beats (suc k) [] f h l = absurd (omega arith)
some_beats (suc k) (x ∷ xs) f h l = omega (arith, f.0)

-- What is still to be written from a measure on.
unfoldable pub rest_lines : List ℕ → ℕ → ℕ → List (List ℕ) → List ℕ
rest_lines s n zero row = pattern_lines s n row
rest_lines s n (suc k) row = measure_lines s n (drop (suc k) row)

rest_is : (s : List ℕ) (n k : ℕ) (row : List (List ℕ)) → k < length row → rest_lines s n k row ≡ measure_lines s n (drop k row)
unfolding rest_lines pattern_lines
rest_is s n zero [] h = absurd (omega arith)
rest_is s n zero (m ∷ row) h = refl
rest_is s n (suc k) row h = refl

lines_append : (s : List ℕ) (n : ℕ) (a b : List (List ℕ)) → measure_lines s n (a ++ b) ≡ measure_lines s n a ++ measure_lines s n b
unfolding measure_lines
lines_append s n a b = gather_append (λ m. end_line (measure_line s n m)) a b

-- Where the loop stands: at a measure of the row, with what was written before it.
pub record Stands (s : List ℕ) (n : ℕ) (row : List (List ℕ)) (from : ℕ) (x goal : Sheet) : Type 0 where
  pub measure : ℕ
  pub before : from ≡ total (take measure row)
  pub inside : measure ≤ length row - 1
  pub rest : puts (rest_lines s n measure row) x ≡ goal

pub stands_first : (s : List ℕ) (n : ℕ) (row : List (List ℕ)) (x : Sheet) → Stands s n row 0 x (puts (pattern_lines s n row) x)
unfolding rest_lines total
stands_first s n row x = record { measure = 0; before = refl; inside = omega arith; rest = refl }

pub stands_within : (s : List ℕ) (n : ℕ) (row : List (List ℕ)) (from : ℕ) (x goal : Sheet) → Stands s n row from x goal → from ≤ total row
stands_within s n row from x goal h =
    let k = h.measure in
    let e = ap total (take-append-drop k row) in
    let a = total_append (take k row) (drop k row) in
    omega (arith, h.before)

module _ (s : List ℕ) (n : ℕ) (row : List (List ℕ)) (filled : Filled row) (short : Short row) (room : ℕ) (enough : 64 ≤ room) where
  abbrev part : ℕ → List (List ℕ)
  part from = window from room row

  the_part : (from : ℕ) (x goal : Sheet) (h : Stands s n row from x goal) → PartOf row h.measure room (part from)
  the_part from x goal h = rw h.before (part_of h.measure room row filled)

  stands_few : (from : ℕ) (x goal : Sheet) → Stands s n row from x goal → length (part from) ≤ room
  stands_few from x goal h = (the_part from x goal h).few

  rest_parts : (k w : ℕ) → k < length row → k + w < length row → rest_lines s n k row ≡ measure_lines s n (take w (drop k row)) ++ rest_lines s n (k + w) row
  rest_parts k w i j =
      rest_is s n k row i ∙ ap (measure_lines s n) (sym (take-append-drop w (drop k row))) ∙ lines_append s n (take w (drop k row)) (drop w (drop k row))
      ∙ ap (λ (r : List (List ℕ)). measure_lines s n (take w (drop k row)) ++ measure_lines s n r) (drop-drop w k row)
      ∙ ap (λ (t : List ℕ). measure_lines s n (take w (drop k row)) ++ t) (sym (rest_is s n (k + w) row j))

  -- A part without measures: the section plays nothing.
  stands_none : (from : ℕ) (x y goal : Sheet) → Stands s n row from x goal → length (part from) ≡ 0 → y ≡ puts (36 ∷ 49 ∷ 10 ∷ []) x → y ≡ goal
  unfolding rest_lines pattern_lines end_line ascii
  stands_none from x y goal h e d =
      let p = the_part from x goal h in
      let t = total_short (part from) (short_window from room row short) in
      let l = ap length (p.last (omega arith)) in
      let k = length-drop h.measure row in
      d ∙ nothing h.measure row (omega arith) (omega (arith, h.inside)) h.rest
    where
      nothing : (k : ℕ) (r : List (List ℕ)) → length r ≤ 0 → k ≤ 0 → puts (rest_lines s n k r) x ≡ goal → puts (36 ∷ 49 ∷ 10 ∷ []) x ≡ goal
      nothing zero [] a b g = g
      nothing (suc k) r a b g = absurd (omega arith)
      nothing zero (m ∷ r) a b g = absurd (omega arith)

  -- The tables behind a part.
  module _ (ms bs ms' bs' : List ℕ) (from : ℕ) (many : room ≤ length ms) (same : length bs ≡ room) (few : room ≤ 65536)
      (ms-are : ms' ≡ sets ms 0 (heads 0 (part from))) (bs-are : bs' ≡ sets bs 0 (flat (part from))) where
    part_total : total (part from) ≤ room
    part_total = let t = total_window from room row in omega arith

    held : (x goal : Sheet) → Stands s n row from x goal → (k : ℕ) → k ≤ length (part from) → map (beats_in bs') (take k ms') ≡ take k (part from)
    held x goal h k l =
        let f = (the_part from x goal h).few in
        let t = part_total in
        rw (ms-are, bs-are) (measures_held (part from) ms bs (short_window from room row short) (omega arith) (omega arith) (omega arith) k l)

    first_is : (x goal : Sheet) → Stands s n row from x goal → (m : MeasureFields) (w : ℕ) → w < length (part from) → HoldsMeasure (get_or ms' w 0) m
        → m.first ≡ total (take w (part from))
    first_is x goal h m w c holds =
        let f = (the_part from x goal h).few in
        let t = part_total in
        let u = total_upto w (part from) in
        let z = short_at w (part from) (short_window from room row short) in
        let q : get_or ms' w 0 ≡ measure_word (total (take w (part from))) (length (get_or (part from) w [])) =
        rw ms-are (word_at (part from) ms bs (short_window from room row short) (omega arith) (omega arith) (omega arith) w c) in
        sym (measure_fields holds).0 ∙ ap (field 11 21) q
        ∙ word_first (total (take w (part from))) (length (get_or (part from) w [])) (omega arith) (omega arith)

    -- A part that is not full is the rest of the section.
    stands_last : (x y goal : Sheet) (k : ℕ) → Stands s n row from x goal → k ≡ length (part from) → (k ≡ 0 → ⊥) → total (part from) < room
        → y ≡ puts (measure_lines s n (map (beats_in bs') (take k ms'))) x → y ≡ goal
    stands_last x y goal k h e some less d =
        let p = the_part from x goal h in
        let i : h.measure < length row = omega (arith, p.inside) in
        let a : map (beats_in bs') (take k ms') ≡ drop h.measure row =
        held x goal h k (omega arith) ∙ take_all k (part from) (omega arith) ∙ p.last less in
        d ∙ ap (λ (r : List (List ℕ)). puts (measure_lines s n r) x) a ∙ ap (λ (t : List ℕ). puts t x) (sym (rest_is s n h.measure row i)) ∙ h.rest

    -- A full part: all its measures but the last are written, and the next part begins with the last.
    module _ (x y goal : Sheet) (k : ℕ) (h : Stands s n row from x goal) (e : k ≡ length (part from)) (full : room ≤ total (part from))
        (d : y ≡ puts (measure_lines s n (map (beats_in bs') (take (k - 1) ms'))) x) where
      two : 2 ≤ length (part from)
      two = part_goes_on from room row short (omega arith) full

      later : h.measure + (k - 1) < length row
      later =
          let p = (the_part from x goal h).inside in
          let t = two in
          omega arith

      rest_next : puts (rest_lines s n (h.measure + (k - 1)) row) y ≡ goal
      rest_next =
          let p = the_part from x goal h in
          let t = two in
          let l = later in
          let w : ℕ = k - 1 in
          let rest = drop h.measure row in
          let front : take w (part from) ≡ take w rest = p.front w (omega arith) in
          let a : map (beats_in bs') (take w ms') ≡ take w rest = held x goal h w (omega arith) ∙ front in
          let g : y ≡ puts (measure_lines s n (take w rest)) x = d ∙ ap (λ (r : List (List ℕ)). puts (measure_lines s n r) x) a in
          ap (λ (z : Sheet). puts (rest_lines s n (h.measure + w) row) z) g
          ∙ sym (puts_append (measure_lines s n (take w rest)) (rest_lines s n (h.measure + w) row) x)
          ∙ ap (λ (b : List ℕ). puts b x) (sym (rest_parts h.measure w (omega arith) l)) ∙ h.rest

      stands_over : 65536 < y.at → y ≡ goal
      stands_over f = sym (puts_full (rest_lines s n (h.measure + (k - 1)) row) y f) ∙ rest_next

      stands_next : (m : MeasureFields) → HoldsMeasure (get_or ms' (k - 1) 0) m → Stands s n row (from + m.first) y goal × (1 ≤ m.first)
      stands_next m holds =
          let p = the_part from x goal h in
          let t = two in
          let l = later in
          let w : ℕ = k - 1 in
          let b : m.first ≡ total (take w (part from)) = first_is x goal h m w (omega arith) holds in
          let next : total (take h.measure row) + total (take w (part from)) ≡ total (take (h.measure + w) row) = p.next w (omega arith) in
          let z : 1 ≤ total (take w (part from)) = some_beats w (part from) (filled_window from room row) (omega arith) (omega arith) in (
            record { measure = h.measure + w; before = omega (arith, h.before); inside = omega arith; rest = rest_next },
            omega arith,
          )

-- What is known of the row of a section that plays within the tables.
module _ (ws : List ℕ) (x : Arrangement) (h : PlaysWithin ws x 0) where
  pub arranged_filled : Filled (arranged_row ws x)
  arranged_filled = filled_section _ _ x.repeat _ _ _

  pub arranged_short : Short (arranged_row ws x)
  arranged_short =
      let f = short_row x.n ws h.countable.meter in
      short_section _ _ x.repeat _ _ _ (f x.lead) (f x.pattern) (f x.tail)

  pub arranged_total : total (arranged_row ws x) ≤ 2097120
  arranged_total =
      let f = short_row x.n ws h.countable.meter in
      let b = section_beats x.front x.back x.repeat _ _ _ (f x.lead) (f x.pattern) (f x.tail) in
      omega (arith, h.room)

-- Tables as long as lent ones.
pub lent_same : (ms bs ms' bs' : List ℕ) → length ms' ≡ length ms → length bs' ≡ length bs → Lent ms bs → Lent ms' bs'
lent_same ms bs ms' bs' e f l =
    record { two = omega (arith, l.two); few = omega (arith, l.few); enough = omega (arith, l.enough) }

-- What the loop knows when a part has been played.
pub record Told (s : List ℕ) (n : ℕ) (row : List (List ℕ)) (ms bs ms' bs' : List ℕ) (from : ℕ) (c : Counts) (x goal : Sheet) : Type 0 where
  pub filled : Filled row
  pub short : Short row
  pub lent : Lent ms bs
  pub stands : Stands s n row from x goal
  pub plays : Plays (window from (length bs) row) 0 c ms bs ms' bs'

module _ {s : List ℕ} {n : ℕ} {row : List (List ℕ)} {ms bs ms' bs' : List ℕ} {from : ℕ} {c : Counts} {x goal : Sheet}
    (t : Told s n row ms bs ms' bs' from c x goal) where
  pub told_measures : length ms' ≡ length ms
  told_measures = ap length t.plays.measure_table ∙ length-sets ms 0 (heads 0 (window from (length bs) row))

  pub told_beats : length bs' ≡ length bs
  told_beats = ap length t.plays.beat_table ∙ length-sets bs 0 (flat (window from (length bs) row))

  pub told_few : (c.measures ≤ length ms') × (c.measures ≤ 65536)
  told_few =
      let f = stands_few s n row t.filled t.short (length bs) t.lent.two from x goal t.stands in
      let e = told_measures in
      (omega (arith, t.lent.enough, t.plays.measures), omega (arith, t.lent.few, t.plays.measures))

  pub told_none : (y : Sheet) → c.measures ≡ 0 → y ≡ puts (36 ∷ 49 ∷ 10 ∷ []) x → y ≡ goal
  told_none y e d = stands_none s n row t.filled t.short (length bs) t.lent.two from x y goal t.stands (sym t.plays.measures ∙ e) d

  pub told_last : (y : Sheet) → (c.measures ≡ 0 → ⊥) → c.beats < length bs'
      → y ≡ puts (measure_lines s n (map (beats_in bs') (take c.measures ms'))) x → y ≡ goal
  told_last y some less d =
      let e = told_beats in
      stands_last s n row t.filled t.short (length bs) t.lent.two ms bs ms' bs' from t.lent.enough refl t.lent.few
      t.plays.measure_table t.plays.beat_table
      x y goal c.measures t.stands t.plays.measures some (omega (arith, t.plays.beats)) d

  module _ (y : Sheet) (full : length bs' ≤ c.beats) (d : y ≡ puts (measure_lines s n (map (beats_in bs') (take (c.measures - 1) ms'))) x) where
    all_beats : length bs ≤ total (window from (length bs) row)
    all_beats = let e = told_beats in omega (arith, t.plays.beats)

    pub told_over : 65536 < y.at → y ≡ goal
    told_over =
        stands_over s n row t.filled t.short (length bs) t.lent.two ms bs ms' bs' from t.lent.enough refl t.lent.few
        t.plays.measure_table t.plays.beat_table
        x y goal c.measures t.stands t.plays.measures all_beats d

    pub told_next : (m : MeasureFields) → HoldsMeasure (get_or ms' (c.measures - 1) 0) m → Stands s n row (from + m.first) y goal × (1 ≤ m.first)
    told_next =
        stands_next s n row t.filled t.short (length bs) t.lent.two ms bs ms' bs' from t.lent.enough refl t.lent.few
        t.plays.measure_table t.plays.beat_table
        x y goal c.measures t.stands t.plays.measures all_beats d
