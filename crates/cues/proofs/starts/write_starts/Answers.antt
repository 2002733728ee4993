-- Section by section: the starts written so far and those of the sections that are left are the starts of all measures.
use Prim.Native.Nat.{ℕ, ◌+◌, ◌-◌}
use mathlib.Core.Path.{◌≡◌, refl, sym, ◌∙◌, subst}
use mathlib.Core.List.{List, []}
use native.Mathlib.Omega.{arith}
use lib.ListN.{length, get_or}
use Rattle.songcode.specs.Lists.{sum}
use Rattle.songcode.specs.Description.Joined.{measure_count}
use Rattle.songcode.proofs.MemoryLaws.{Wrote, wrote_start, wrote_end}
use Rattle.packing.proofs.RoundTrips.{section_fields}
use Rattle.cues.specs.Cues.{starts}
use Rattle.cues.proofs.TableLaws.{all_right, table_right}
use Rattle.cues.proofs.SectionLaws.{measures_few, cover_at, timed_at, timed_bpm, sum_section, starts_section, lengths_none, joined_parts, part_length}
use borrow.Author.Rules.{rules}
use Rattle.cues.proofs.starts.write_starts.Goals as goal

-- Nothing is left.
sum_end : (time : ℕ) {xs : List ℕ} {all : ℕ} → xs ≡ [] → time + sum xs ≡ all → time ≡ all
unfolding sum
sum_end time e h = let z : time + 0 ≡ _ = rw e at h in omega (arith, z)

starts_end : (time i : ℕ) (o o' xs all : List ℕ) → xs ≡ [] → Wrote o i o' (starts time xs) all → Wrote o i o' [] all
unfolding starts
starts_end time i o o' xs all e w = subst (λ ys. Wrote o i o' (starts time ys) all) e w

pub loop-word-init : goal.loop-word-init
unfolding all_right
loop-word-init c =
    let j = joined_parts c.args.sections.now c.args.measures.now c.requires.0 in (
      search rules,
      search rules,
      search rules,
      j.0,
      c.requires.1,
      table_right _ refl refl,
      measures_few c.args.measures.now j.1 (λ k. search rules),
      c.requires.2,
      omega arith,
      wrote_start _ _,
    )

pub slice_bounds-write_stretch-end : goal.slice_bounds-write_stretch-end
slice_bounds-write_stretch-end c =
    let l = c.loop-word in
    let a = c.args in
    let f = section_fields c.section_of-section.ensures in
    omega (arith, f.1, (cover_at l.word-index a.sections.now c.loop-word-test.true l.first (length a.measures.now) l.invariant.3).0)

pub write_stretch-time-requires : goal.write_stretch-time-requires
write_stretch-time-requires c =
    let l = c.loop-word in
    let a = c.args in
    let t = c.loop-word-test.true in
    let f = section_fields c.section_of-section.ensures in
    let m = c.section_of-section.result.measures in
    let r = (cover_at l.word-index a.sections.now t l.first (length a.measures.now) l.invariant.3).0 in
    let p = part_length l.first (l.first + m - l.first) a.measures.now (omega (arith, f.1, r)) in
    let q = part_length l.first (length l.cues - l.first) l.cues (omega (arith, l.invariant.0, l.invariant.1, l.invariant.7)) in record {
      measures_in_bounds = (
        omega (arith, p, q, f.1, r, l.invariant.0, l.invariant.7),
        omega (arith, p, f.1, r, l.invariant.6),
        omega (arith, l.invariant.1, l.invariant.2, l.invariant.6),
        l.invariant.5,
      );
      bpm_bound = λ h. omega (
        arith,
        f.2,
        timed_bpm (get_or a.sections.now l.word-index 0) (timed_at l.word-index a.sections.now t l.invariant.4).0
            (omega (arith, h, p, f.1)),
      );
    }

pub loop-word-preserved : goal.loop-word-preserved
loop-word-preserved c =
    let l = c.loop-word in
    let a = c.args in
    let t = c.loop-word-test.true in
    let s = c.section_of-section.result in
    let f = section_fields c.section_of-section.ensures in
    let r = cover_at l.word-index a.sections.now t l.first (length a.measures.now) l.invariant.3 in
    let p = part_length l.first (l.first + s.measures - l.first) a.measures.now (omega (arith, f.1, r.0)) in
    let n : l.first + s.measures - l.first ≡ measure_count (get_or a.sections.now l.word-index 0) = omega (arith, f.1) in (
      search rules,
      omega (arith, f.1, r.0),
      omega (arith, c.write_stretch-time.ensures.value.1, p, f.1, l.invariant.2),
      rw f.1 r.1,
      (timed_at l.word-index a.sections.now t l.invariant.4).1,
      l.invariant.5,
      l.invariant.6,
      l.invariant.7,
      rw c.write_stretch-time.ensures.value.0 (sym (sum_section l.word-index l.first l.time s.tempo (l.first + s.measures - l.first) s.measures
          a.sections.now a.measures.now t f.2 n f.1) ∙ l.invariant.8),
      rw c.write_stretch-time.ensures.value.0
          (starts_section l.word-index l.first l.time s.tempo (l.first + s.measures - l.first) s.measures a.sections.now
          a.measures.now t f.2 n f.1 _ l.cues _ _
          (omega (arith, f.1, r.0)) l.invariant.9 c.write_stretch-time.ensures.cues_after),
    )

pub returns : goal.returns
returns c =
    let l = c.loop-word in
    let a = c.args in
    let n = lengths_none l.word-index l.first a.sections.now a.measures.now c.loop-word-test.false in record {
      value = sum_end l.time n l.invariant.8;
      cues_after = wrote_end _ l.first l.cues _ (starts_end l.time l.first _ l.cues _ _ n l.invariant.9);
    }
