-- What a text and a section play, counted: from what is played of a text, and from the plan of an even pattern.
use Rattle.std.proofs.Common.{◌≡◌, ℕ, ◌+◌, ◌-◌, ◌*◌, ◌≤◌, leb, List, [], length, sym, refl, ap, ◌∙◌, arith, length-append, take_all, leb-false, leb-true}
use Rattle.songcode.specs.Lists.{times}
use Rattle.songcode.specs.Description.Performance.{total}
use Rattle.songcode.proofs.ListLaws.{by_cases}
use Rattle.songcode.proofs.TurnedRows.{total_append}
use Rattle.songcode.proofs.CutLaws.{total_take_le}
use Rattle.cuts.specs.declared.Cut.{Cut}
use Rattle.player.specs.declared.pens.Pen.{Pen}
use Rattle.player.specs.Page.{Fine, play, page}
use Rattle.player.specs.Windows.{window, first_beat, last_beat, kept_of, whole_of, section_row}
use Rattle.player.specs.Even.{Level, Even, spanned}
use Rattle.player.proofs.ShortLaws.{Short, total_short}
use Rattle.player.proofs.WindowLaws.{window_large}
use Rattle.player.proofs.EvenLaws.{level_times, level_all, level_kept}
use Rattle.player.proofs.SectionMeaning.{kept_total}
use Rattle.player.proofs.SectionLaws.{wrote_none, wrote_more, times_one, fine_rounds}

-- A text that was played into tables without room, from the first beat to the last.
abbrev pub Whole : Pen → Type 0
Whole p = (p.base ≡ 0) × (p.todo ≡ 65536) × (p.skip ≡ 0) × (p.left ≡ 2097120) × (p.m ≡ 0) × (p.b ≡ 0)

pub whole_fine : (p : Pen) → Whole p → Fine p
whole_fine p w = record { few = omega (arith, w.4, w.5); fits = omega (arith, w.0, w.3, w.5) }

pub counted_text : (row : List (List ℕ)) (p q : Pen) (ms bs ms' bs' : List ℕ) → Whole p → Short row → 32 * length row ≤ 2097120
    → page q ms' bs' ≡ play (times 1 row) (page p ms bs)
    → (q.m ≡ length (whole_of row)) × (q.b ≡ total (whole_of row)) × (q.m ≤ q.b) × (q.b ≤ 2097120)
unfolding whole_of
counted_text row p q ms bs ms' bs' w short few e =
    let t = w.1 in
    let u = total_short row short in
    let k : page q ms' bs' ≡ play row (page p ms bs) = rw (times_one row) at e in
    let all : window 0 (total row) row ≡ window p.skip p.left row = rw (w.2, w.3) (window_large (total row) 2097120 row (omega arith) (omega arith)) in
    let d = wrote_more p.base ms bs [] row (window 0 (total row) row) p p q ms bs ms' bs' (wrote_none p ms bs w.4 w.5) (refl, refl, refl)
    (all ∙ rw (take_all p.todo row (omega arith))) k in
    let f = fine_rounds row (page p ms bs) q ms' bs' k (whole_fine p w) in
    (d.measures, d.beats, f.few, omega (arith, f.fits))

module _ (f b : Cut) (row : List (List ℕ)) where
  -- The numbers of a plan are small.
  pub plan_small : Short row → length row ≤ 65535 → f.beats.0 ≤ 9999
      → (first_beat f row + (last_beat b row - first_beat f row) ≤ 4294967295) × (last_beat b row - first_beat f row ≤ 4294967295)
  unfolding first_beat last_beat
  plan_small short few small =
      let t = total_take_le f.measures.0 row in
      let u = total_take_le (length row - b.measures.0) row in
      let k = total_short row short in
      (omega arith, omega arith)

  -- Where a beat is kept a measure has one.
  pub kept_meter : (n : ℕ) → Level n row → (last_beat b row - first_beat f row ≡ 0 → ⊥) → 1 ≤ n
  unfolding last_beat
  kept_meter n h some = by_cases (leb 1 n)
      (λ q. leb-true 1 n q)
      (λ q.
      let l = leb-false 1 n q in
      let z : n ≡ 0 = omega arith in
      let w : total row ≡ 0 = level_all n row h ∙ ap (λ y. y * length row) z ∙ omega arith in
      let t = total_take_le (length row - b.measures.0) row in
      absurd (some (omega arith)))

-- A section of an even pattern.
pub section_counted : (n k : ℕ) (f b : Cut) (r : ℕ) (lead row tail : List (List ℕ)) (skip left kept ml bl mt bt : ℕ) → Even n k row
    → skip ≡ first_beat f (times r row) → left ≡ last_beat b (times r row) - first_beat f (times r row) → kept ≡ spanned n skip left
    → (ml ≡ length (whole_of lead)) × (bl ≡ total (whole_of lead)) → (mt ≡ length (whole_of tail)) × (bt ≡ total (whole_of tail))
    → (ml + kept + mt ≡ length (section_row f b r lead row tail)) × (bl + left + bt ≡ total (section_row f b r lead row tail))
unfolding section_row
section_counted n k f b r lead row tail skip left kept ml bl mt bt e s l c x y =
    let all = times r row in
    let m = level_kept n f b all (level_times n r row e.level) in
    let j : left ≡ total (kept_of f b all) = l ∙ sym (kept_total f b all) in
    let i : kept ≡ length (kept_of f b all) = c ∙ rw (s, l) (sym m) in
    (rw (x.0, y.0, i, length-append, length-append) (omega arith), rw (x.1, y.1, j, total_append, total_append) (omega arith))
