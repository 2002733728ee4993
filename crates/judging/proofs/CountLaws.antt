-- A section's measures, from the outlines of its texts: each of them counts up to 65,536.
use Prim.Native.Nat.{ℕ, ◌+◌, ◌*◌, ◌≤◌, min}
use mathlib.Core.Path.{◌≡◌, refl, ap, ◌∙◌}
use mathlib.Core.List.{List}
use mathlib.Core.Logic.{◌⊎◌, inl, inr}
use mathlib.Core.Option.{Option, none, some, bind}
use native.Mathlib.Omega.{arith}
use native.Mathlib.Nat.{mul-le-mul}
use lib.Dec.{leb}
use lib.ListN.{length, length-map}
use borrow.Author.Tests.{leb-true, leb-false}
use Rattle.songcode.specs.Lists.{times}
use Rattle.songcode.specs.Song.{Items, Section, Song, Side}
use Rattle.songcode.specs.Answer.References.{pattern_items}
use Rattle.songcode.specs.Answer.Playing.{repeats, measures_of}
use Rattle.songcode.specs.Answer.Meter.{measures_in, side_count, section_count}
use Rattle.songcode.proofs.ListLaws.{by_cases, times_length}
use Rattle.songcode.proofs.RowLaws.{length_items}
use Rattle.outlines.specs.declared.readings.Outline.{Outline}
use Rattle.outlines.specs.Words.{vacant}
use Rattle.player.specs.Texts.{row_words}
use Rattle.player.specs.Walks.{row_of}
use Rattle.sections.specs.declared.values.Modifiers.{Modifiers}
use Rattle.laying.specs.declared.texts.Text.{Text}
use Rattle.laying.specs.declared.texts.Texts.{Texts}
use Rattle.laying.specs.Scores.{Carries, side_items, TextsAre}
use Rattle.judging.specs.Lengths.{count_of_texts}

-- A text's measures.
pub carried_count : (ws : List ℕ) (t : Text) (o : Option Items) → Carries ws t o → t.outline.measures ≡ min 65536 (measures_in o)
unfolding Carries measures_in vacant
carried_count ws t none w = ap (λ (x : Outline). x.measures) w.0 ∙ omega arith
carried_count ws t (some r) w = w.1.measures

pub carried_fits : (ws : List ℕ) (t : Text) (o : Option Items) → Carries ws t o → t.outline.measures ≤ 65536
carried_fits ws t o w = let e = carried_count ws t o w in omega arith

side_count_lem : (o : Option Side) → measures_in (side_items o) ≡ side_count o
unfolding measures_in side_items side_count bind
side_count_lem none = refl
side_count_lem (some x) = refl

-- The measures that a text plays, k times over.
pub played_length : (ws : List ℕ) (t : Text) (o : Option Items) (n k : ℕ) → Carries ws t o
    → length (times k (row_of n ws t.at)) ≡ k * measures_in o
unfolding Carries measures_in row_words
played_length ws t none n k w = times_length k (row_of n ws t.at) ∙ ap (λ (x : ℕ). k * x) (ap length (w.1 n))
played_length ws t (some r) n k w =
    times_length k (row_of n ws t.at) ∙ ap (λ (x : ℕ). k * x) (ap length (w.2 n) ∙ length-map (measures_of n none r) _ ∙ length_items n none r)

-- A number as it is counted: it is right, or both have passed 65,535.
abbrev pub Counted : ℕ → ℕ → Type 0
Counted found all = (found ≡ all) ⊎ ((65536 ≤ found) × (65536 ≤ all))

sides_counted : (a q b : ℕ) → Counted (min 65536 a + q + min 65536 b) (a + q + b)
sides_counted a q b =
    by_cases (leb (a + b) 65536)
    (λ e. let h = leb-true (a + b) 65536 e in inl (omega arith))
    (λ e. let h = leb-false (a + b) 65536 e in inr (omega arith, omega arith))

all_counted : (k a p b : ℕ) → 1 ≤ k → Counted (min 65536 a + k * min 65536 p + min 65536 b) (a + k * p + b)
all_counted k a p b h =
    by_cases (leb p 65536)
    (λ e. let l = leb-true p 65536 e in
    let m : min 65536 p ≡ p = omega arith in rw m (sides_counted a (k * p) b))
    (λ e.
    let l = leb-false p 65536 e in
    let m : min 65536 p ≡ 65536 = omega arith in
    let low : 65536 ≤ p = omega arith in
    let q : 1 * 65536 ≤ k * p = mul-le-mul h low in
    rw m (passed (k * p) (omega arith)))
  where
    passed : (q : ℕ) → 65536 ≤ q → Counted (min 65536 a + k * 65536 + min 65536 b) (a + q + b)
    passed q l = inr (omega arith, omega arith)

pub section_counted : (song : Song) (x : Section) (ws : List ℕ) (m : Modifiers) (t : Texts)
    → TextsAre song.definitions x ws t → m.repeat ≡ repeats x.modifiers → 1 ≤ m.repeat
    → Counted (count_of_texts m t) (section_count song x)
unfolding section_count
section_counted song x ws m t w e h =
    let a = carried_count ws t.lead (side_items x.modifiers.before) w.lead ∙ ap (min 65536)
    (side_count_lem x.modifiers.before) in
    let p = carried_count ws t.pattern (pattern_items song.definitions x.pattern) w.pattern in
    let b = carried_count ws t.tail (side_items x.modifiers.after) w.tail ∙ ap (min 65536)
    (side_count_lem x.modifiers.after) in
    rw (a, p, b, ← e) (all_counted m.repeat (side_count x.modifiers.before)
    (measures_in (pattern_items song.definitions x.pattern)) (side_count x.modifiers.after) h)

pub pattern_within : (song : Song) (x : Section) → repeats x.modifiers * measures_in (pattern_items song.definitions x.pattern) ≤ section_count song x
unfolding section_count
pattern_within song x = omega arith

pub count_small : (m : Modifiers) (t : Texts) → m.repeat ≤ 9999 → t.lead.outline.measures ≤ 65536
    → t.pattern.outline.measures ≤ 65536 → t.tail.outline.measures ≤ 65536
    → count_of_texts m t ≤ 655425536
count_small m t k a p b = let h : m.repeat * t.pattern.outline.measures ≤ 9999 * 65536 = mul-le-mul k p in omega arith
