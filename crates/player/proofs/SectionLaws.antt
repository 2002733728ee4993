-- From what a played row leaves to the contracts of counting, of the plan and of a section.
use Rattle.std.proofs.Common.{◌≡◌, ℕ, zero, suc, ◌+◌, ◌-◌, ◌*◌, ◌≤◌, min, leb, List, [], ◌++◌, length, take, sym, refl, ap, ◌∙◌, subst, append-nil, arith}
use Rattle.std.proofs.Common.{length-append, take_all, leb-false, leb-true}
use lib.Seq.{sets}
use Rattle.songcode.specs.Lists.{times}
use Rattle.songcode.specs.Description.Performance.{total}
use Rattle.songcode.proofs.TurnedRows.{total_append}
use Rattle.songcode.proofs.ListLaws.{by_cases}
use Rattle.songcode.proofs.CutLaws.{total_take_le}
use Rattle.songcode.proofs.MemoryLaws.{sets_append}
use Rattle.player.specs.declared.pens.Pen.{Pen}
use Rattle.player.specs.declared.playing.Plan.{Plan}
use Rattle.player.specs.declared.playing.Counts.{Counts}
use Rattle.cuts.specs.declared.Cut.{Cut}
use Rattle.player.specs.Page.{Page, Fine, play, page}
use Rattle.player.specs.Arrangements.{Opening, Plays}
use Rattle.player.specs.Windows.{window, first_beat, last_beat, kept_of, whole_of, section_row, flat, heads}
use Rattle.player.proofs.PageLaws.{fine_play, play_append}
use Rattle.player.proofs.ContentLaws.{Done, played}
use Rattle.player.proofs.ShortLaws.{Short, short_times, total_short, total_few}
use Rattle.player.proofs.WindowLaws.{total_window, window_none, window_filled, length_flat, length_heads, flat_append, heads_append}
use Rattle.player.proofs.PartLaws.{section_part, uncut_window, filled_section, window_room}

-- Counting.
pub tallied : (row : List (List ℕ)) (k : ℕ) (q : Pen) (ms ms' bs bs' : List ℕ) → Short row → k ≤ 65536
    → ◌≡◌ {A = Page} (record { pen = q; ms = ms'; bs = bs' })
    (play row (record { pen = record { base = 0; todo = k; skip = 4294967295; left = 0; m = 0; b = 0 }; ms = ms; bs = bs }))
    → (q.todo ≡ k - length row) × (q.skip ≡ 4294967295 - total (take k row)) × (total (take k row) ≤ 2097152)
tallied row k q ms ms' bs bs' f h e =
    let g : Page = record { pen = record { base = 0; todo = k; skip = 4294967295; left = 0; m = 0; b = 0 }; ms = ms; bs = bs } in
    let d = subst (λ (h : Page). Done g h row) (sym e) (played row g) in
    let t = total_few k row f in
    let e = d.skip in
    (d.todo (omega arith), e, omega arith)

-- The plan.
take_capped : (m : ℕ) (row : List (List ℕ)) → length row ≤ 65535 → take (min m 65536) row ≡ take m row
take_capped m row h =
    by_cases (leb m 65536)
    (λ e. let l = leb-true m 65536 e in
    let z : min m 65536 ≡ m = omega arith in rw z)
    (λ e. let l = leb-false m 65536 e in
    let z : min m 65536 ≡ 65536 =
    omega arith in rw z (take_all 65536 row (omega arith) ∙ sym (take_all m row (omega arith))))

-- All measures, counted up to 65,536 of them.
pub tallied_all : (row : List (List ℕ)) (a b : ℕ) → length row ≤ 65535 → a ≡ min 65536 (length row) → b ≡ total (take 65536 row) → b ≡ total (take a row)
tallied_all row a b h e f =
    let z : a ≡ length row = omega arith in
    f ∙ ap total (take_all 65536 row (omega arith) ∙ sym (rw z (take_all (length row) row (omega arith))))

pub planned_is : (row : List (List ℕ)) (f k : Cut) (a j x i y u v : ℕ) → length row ≤ 65535 → a ≡ min 65536 (length row)
    → j ≡ min f.measures.0 65536 → x ≡ total (take j row) → i ≡ a - k.measures.0
    → y ≡ total (take i row) → u ≡ y - k.beats.0 → v ≡ u - (x + f.beats.0)
    → (a ≡ length row) × (x + f.beats.0 ≡ first_beat f row) × (v ≡ last_beat k row - first_beat f row)
unfolding first_beat last_beat
planned_is row f k a j x i y u v h p e q o r s w =
    let a' : a ≡ length row = omega arith in
    let x' : x ≡ total (take f.measures.0 row) = q ∙ rw e (ap total (take_capped f.measures.0 row h)) in
    let i' : i ≡ length row - k.measures.0 = rw a' at o in
    let y' : y ≡ total (take (length row - k.measures.0) row) = rw i' at r in
    (a', rw x', rw (← y', ← x') (omega arith))

-- What was written so far: the words of a row from the first place of both tables on.
pub record Wrote (base : ℕ) (ms bs : List ℕ) (row : List (List ℕ)) (q : Pen) (ms' bs' : List ℕ) : Type 0 where
  pub first : q.base ≡ base
  pub measures : q.m ≡ length row
  pub beats : q.b ≡ total row
  pub measure_table : ms' ≡ sets ms 0 (heads base row)
  pub beat_table : bs' ≡ sets bs 0 (flat row)

pub wrote_none : (p : Pen) (ms bs : List ℕ) → p.m ≡ 0 → p.b ≡ 0 → Wrote p.base ms bs [] p ms bs
unfolding total heads flat
wrote_none p ms bs e k = record { first = refl; measures = e; beats = k; measure_table = refl; beat_table = refl }

-- A row behind it, begun with the pen o.
pub wrote_more : (base : ℕ) (ms bs : List ℕ) (w row v : List (List ℕ)) (p o q : Pen) (ms1 bs1 ms2 bs2 : List ℕ) → Wrote base ms bs w p ms1 bs1
    → (o.base ≡ p.base) × (o.m ≡ p.m) × (o.b ≡ p.b) → v ≡ window o.skip o.left (take o.todo row) → page q ms2 bs2 ≡ play row (page o ms1 bs1)
    → Wrote base ms bs (w ++ v) q ms2 bs2
wrote_more base ms bs w row v p o q ms1 bs1 ms2 bs2 h same e k =
    let g : Page = page o ms1 bs1 in
    let d = subst (λ (h : Page). Done g h row) (sym k) (played row g) in
    let ob : o.base ≡ base = same.0 ∙ h.first in
    let om : o.m ≡ length w = same.1 ∙ h.measures in
    let obs : o.b ≡ total w = same.2 ∙ h.beats in
    let m1 : q.m ≡ length w + length v = rw (← e, om) at d.m in
    let b1 : q.b ≡ total w + total v = rw (← e, obs) at d.b in
    let ms3 : ms2 ≡ sets ms1 (length w) (heads (base + total w) v) = rw (← e, ob, om, obs) at d.ms in
    let bs3 : bs2 ≡ sets bs1 (total w) (flat v) = rw (← e, obs) at d.bs in
    let lm = length_heads base w in
    let lb = length_flat w in
    let zm : 0 + length (heads base w) ≡ length w = omega arith in
    let zb : 0 + length (flat w) ≡ total w = omega arith in
    let am : sets ms 0 (heads base w ++ heads (base + total w) v) ≡ sets (sets ms 0 (heads base w)) (length w) (heads (base + total w) v) =
    rw zm at (sets_append ms 0 (heads base w) (heads (base + total w) v)) in
    let ab : sets bs 0 (flat w ++ flat v) ≡ sets (sets bs 0 (flat w)) (total w) (flat v) = rw zb at (sets_append bs 0 (flat w) (flat v)) in
    record {
      first = d.base ∙ ob;
      measures = rw length-append (omega arith);
      beats = rw total_append (omega arith);
      measure_table = rw (ms3, h.measure_table, heads_append base w v) (sym am);
      beat_table = rw (bs3, h.beat_table, flat_append w v) (sym ab);
    }

pub times_one : (row : List (List ℕ)) → times 1 row ≡ row
unfolding times
times_one row = append-nil row

-- Every measure is looked at where a beat is to be written.
seen_all : (s l todo k : ℕ) (row : List (List ℕ)) → ((l ≡ 0 → ⊥) → todo ≡ k) → length row ≤ k → window s l row ≡ window s l (take todo row)
seen_all s zero todo k row e h = window_none s row ∙ sym (window_none s (take todo row))
seen_all s (suc l) todo k row e h = let t : todo ≡ k = e (λ z. omega arith) in rw t (ap (λ x. window s (suc l) x) (sym (take_all k row h)))

-- The pens of the pattern and of the tail, as the code makes them.
abbrev pub AtPattern : Plan → Pen → Pen → Type 0
AtPattern plan lead p =
    ((p.base ≡ lead.base) × (p.m ≡ lead.m) × (p.b ≡ lead.b)) × ((p.skip ≡ plan.skip + lead.skip) × ((p.left ≡ min lead.left
    (plan.left - lead.skip)) × ((p.left ≡ 0 → ⊥) → p.todo ≡ plan.todo)))

abbrev pub AtTail : Plan → Pen → Pen → Pen → Type 0
AtTail plan lead pattern p =
    ((p.base ≡ pattern.base) × (p.m ≡ pattern.m) × (p.b ≡ pattern.b))
    × ((p.skip ≡ lead.skip - plan.left) × ((p.left ≡ lead.left - (plan.left - lead.skip)) × ((p.left ≡ 0 → ⊥) → p.todo ≡ 65536)))

-- Three texts on one page.
module _ (f k : Cut) (r : ℕ) (lead row tail : List (List ℕ)) (plan : Plan)
    (planned : (plan.todo ≡ length (times r row)) × (plan.skip ≡ first_beat f (times r row)) × (plan.left ≡ last_beat k (times r row) - first_beat f
    (times r row)))
    (p a : Pen) (ms bs ms1 bs1 : List ℕ) (first : (p.todo ≡ 65536) × (p.m ≡ 0) × (p.b ≡ 0))
    (short : length lead + length (times r row) + length tail ≤ 65536)
    (led : page a ms1 bs1 ≡ play (times 1 lead) (page p ms bs)) where
  lead_page : page a ms1 bs1 ≡ play lead (page p ms bs)
  lead_page = rw (times_one lead) at led

  lead_all : take p.todo lead ≡ lead
  lead_all = let t = first.0 in take_all p.todo lead (omega (arith, short))

  lead_done : Done (page p ms bs) (page a ms1 bs1) lead
  lead_done = let g : Page = page p ms bs in subst (λ (h : Page). Done g h lead) (sym lead_page) (played lead g)

  pub skip_fits : f.beats.0 ≤ 9999 → Short (times r row) → length (times r row) ≤ 65535 → p.skip ≤ 2097120 → plan.skip + a.skip ≤ 18446744073709551615
  unfolding first_beat
  skip_fits few x long h =
      let s = lead_done.skip in
      let e = planned.1 in
      let t = total_take_le f.measures.0 (times r row) in
      let u = total_short (times r row) x in
      omega arith

  pub wrote_window : (o b u c : Pen) (ms2 bs2 ms3 bs3 : List ℕ) → AtPattern plan a o → page b ms2 bs2 ≡ play (times r row) (page o ms1 bs1)
      → AtTail plan a b u → page c ms3 bs3 ≡ play (times 1 tail) (page u ms2 bs2)
      → Wrote p.base ms bs (window p.skip p.left (section_row f k r lead row tail)) c ms3 bs3
  wrote_window o b u c ms2 bs2 ms3 bs3 i j x y =
      let s1 : a.skip ≡ p.skip - total lead = rw lead_all at lead_done.skip in
      let l1 : a.left ≡ p.left - (total lead - p.skip) = rw lead_all at lead_done.left in
      let all = times r row in
      let w1 = wrote_more p.base ms bs [] lead (window p.skip p.left lead) p p a ms bs ms1 bs1 (wrote_none p ms bs first.1 first.2)
      (refl, refl, refl) (rw lead_all) lead_page in
      let kept = seen_all o.skip o.left o.todo plan.todo all i.1.1.1 (same_le planned.0) in
      let w2 = wrote_more p.base ms bs (window p.skip p.left lead) all (window o.skip o.left all) a o b ms1 bs1 ms2 bs2 w1 i.0 kept j in
      let rest = seen_all u.skip u.left u.todo 65536 tail x.1.1.1 (omega (arith, short)) in
      let w3 = wrote_more p.base ms bs (window p.skip p.left lead ++ window o.skip o.left all) tail
      (window u.skip u.left tail) b u c ms2 bs2 ms3 bs3 w2 x.0 rest (rw (times_one tail) at y) in
      let e = section_part p.skip p.left f k r lead row tail plan.skip plan.left a.skip a.left planned.1 planned.2 s1 l1 in
      rw (e, ← i.1.0, ← i.1.1.0, ← x.1.0, ← x.1.1.0) w3
    where
      same_le : plan.todo ≡ length (times r row) → length (times r row) ≤ plan.todo
      same_le e = omega arith

-- The three texts behind one another, with one pen.
pub three_texts : (lead all tail : List (List ℕ)) (g h i j : Page) → h ≡ play (times 1 lead) g → i ≡ play all h → j ≡ play (times 1 tail) i
    → j ≡ play (lead ++ (all ++ tail)) g
three_texts lead all tail g h i j a b c =
    let a' : h ≡ play lead g = rw (times_one lead) at a in
    let c' : j ≡ play tail i = rw (times_one tail) at c in
    rw (c', b, a', play_append lead (all ++ tail) g, play_append all tail (play lead g))

pub wrote_uncut : (f k : Cut) (r : ℕ) (lead row tail : List (List ℕ)) (p q : Pen) (ms bs ms' bs' : List ℕ)
    → (f.measures.0 ≡ 0) × (f.beats.0 ≡ 0) × (k.measures.0 ≡ 0) × (k.beats.0 ≡ 0)
    → (p.todo ≡ 65536) × (p.m ≡ 0) × (p.b ≡ 0) → length lead + length (times r row) + length tail ≤ 65536
    → page q ms' bs' ≡ play (lead ++ (times r row ++ tail)) (page p ms bs)
    → Wrote p.base ms bs (window p.skip p.left (section_row f k r lead row tail)) q ms' bs'
wrote_uncut f k r lead row tail p q ms bs ms' bs' z first h e =
    let all = lead ++ (times r row ++ tail) in
    let l : length all ≡ length lead + (length (times r row) + length tail) = rw (length-append, length-append) in
    let t = first.0 in
    rw (uncut_window p.skip p.left f k r lead row tail z.0 z.1 z.2 z.3)
    (wrote_more p.base ms bs [] all (window p.skip p.left all) p p q ms bs ms' bs' (wrote_none p ms bs first.1 first.2) (refl, refl, refl)
    (rw (take_all p.todo all (omega arith))) e)

-- The beats of the parts.
pub total_whole : (row : List (List ℕ)) → total (whole_of row) ≤ total row
unfolding whole_of
total_whole row = rw (total_window 0 (total row) row) (omega arith)

pub total_kept : (f k : Cut) (row : List (List ℕ))
    → (total (kept_of f k row) ≤ last_beat k row - first_beat f row) × (last_beat k row - first_beat f row ≤ total row)
unfolding kept_of last_beat
total_kept f k row =
    let t = total_take_le (length row - k.measures.0) row in
    (rw (total_window (first_beat f row) (total (take (length row - k.measures.0) row) - k.beats.0 - first_beat f row) row) (omega arith), omega arith)

-- Cuts only take beats away.
pub section_beats : (f k : Cut) (r : ℕ) (lead row tail : List (List ℕ)) → Short lead → Short row → Short tail
    → total (section_row f k r lead row tail) ≤ 32 * (length lead + length (times r row) + length tail)
unfolding section_row
section_beats f k r lead row tail x y z =
    let a = total_whole lead in
    let b = total_kept f k (times r row) in
    let b0 = b.0 in
    let b1 = b.1 in
    let d = total_whole tail in
    let p = total_short lead x in
    let q = total_short (times r row) (short_times r row y) in
    let u = total_short tail z in
    rw (total_append, total_append) (omega arith)

plays_same : (base base' : ℕ) (ms bs : List ℕ) (row row' : List (List ℕ)) (c : Counts) (ms' bs' : List ℕ) → base ≡ base' → row ≡ row'
    → Plays row base c ms bs ms' bs' → Plays row' base' c ms bs ms' bs'
plays_same base base' ms bs row row' c ms' bs' e k t = rw (e, k) at t

-- The tables end as the page that they were lent to left them.
pub plays_left : (row : List (List ℕ)) (base : ℕ) (c : Counts) (ms bs ms' bs' ms'' bs'' : List ℕ) → Plays row base c ms bs ms' bs'
    → ms'' ≡ ms' → bs'' ≡ bs' → Plays row base c ms bs ms'' bs''
plays_left row base c ms bs ms' bs' ms'' bs'' t e f = rw (e, f) t

-- A section is the part of all its beats.
module _ (f k : Cut) (r : ℕ) (lead row tail : List (List ℕ)) (x : Short lead) (y : Short row) (z : Short tail) (p : Pen) (ms bs : List ℕ) (c : Counts)
    (ms' bs' : List ℕ)
    (t : Plays (window p.skip p.left (section_row f k r lead row tail)) p.base c ms bs ms' bs') where
  pub plays_section : (base : ℕ) → base + 32 * (length lead + length (times r row) + length tail) ≤ 2097120
      → (p.base ≡ base) × (p.skip ≡ 0) × (p.left ≡ 2097120 - base) → Plays (section_row f k r lead row tail) base c ms bs ms' bs'
  plays_section base h e =
      let n = section_beats f k r lead row tail x y z in
      plays_same p.base base ms bs _ _ c ms' bs' e.0
      (rw (e.1, e.2) (window_filled (2097120 - base) (section_row f k r lead row tail) (filled_section f k r lead row tail) (omega arith))) t

  pub plays_part : (from : ℕ) → 32 * (length lead + length (times r row) + length tail) ≤ 2097120
      → (p.base ≡ 0) × (p.skip ≡ from) × (p.left ≡ min (length bs) 2097120)
      → Plays (window from (length bs) (section_row f k r lead row tail)) 0 c ms bs ms' bs'
  plays_part from h e =
      let n = section_beats f k r lead row tail x y z in
      plays_same p.base 0 ms bs _ _ c ms' bs' e.0
      (rw (e.1, e.2) (window_room from (length bs) 2097120 (section_row f k r lead row tail) (omega arith))) t

pub fine_rounds : (row : List (List ℕ)) (g : Page) (q : Pen) (ms bs : List ℕ) → page q ms bs ≡ play row g → Fine g.pen → Fine q
fine_rounds row g q ms bs e f = subst (λ (h : Page). Fine h.pen) (sym e) (fine_play row g f)

pub opening_fine : (p : Pen) → Opening p → Fine p
opening_fine p o = record { few = omega (arith, o.measures); fits = omega (arith, o.beats, o.fits) }

-- A pen behind another writes no more than that one would.
pub fine_pattern : (plan : Plan) (a o : Pen) → Fine a → AtPattern plan a o → Fine o
fine_pattern plan a o f i =
    let base = i.0.0 in
    let m = i.0.1 in
    let b = i.0.2 in
    let l = i.1.1.0 in
    record { few = omega (arith, f.few); fits = omega (arith, f.fits) }

pub fine_tail : (plan : Plan) (row : List (List ℕ)) (a o b u : Pen) (ms bs ms' bs' : List ℕ) → Fine a → AtPattern plan a o
    → page b ms' bs' ≡ play row (page o ms bs) → AtTail plan a b u → Fine u
fine_tail plan row a o b u ms bs ms' bs' f i e x =
    let g : Page = page o ms bs in
    let d = subst (λ (h : Page). Done g h row) (sym e) (played row g) in
    let n = fine_rounds row g b ms' bs' e (fine_pattern plan a o f i) in
    let t = total_window o.skip o.left (take o.todo row) in
    let wrote : b.b ≤ a.b + min a.left (plan.left - a.skip) = omega (arith, d.b, i.0.2, i.1.1.0) in
    let base : u.base ≡ a.base = x.0.0 ∙ d.base ∙ i.0.0 in
    record {
      few = omega (arith, n.few, x.0.1, x.0.2);
      fits = room a.base a.b a.left (plan.left - a.skip) u.base u.b u.left
          f.fits (omega (arith, x.0.2)) base x.1.1.0;
    }
  where
    room : (base b l n base' b' l' : ℕ) → base + b + l ≤ 2097120 → b' ≤ b + min l n → base' ≡ base → l' ≡ l - n → base' + b' + l' ≤ 2097120
    room base b l n base' b' l' h i e k = omega arith
