-- The outline of a stretch tells what its items say with references put in; for stages 3, 4 and 5.
use Prim.Native.Nat.{ℕ, ◌≤◌}
use mathlib.Core.Path.{◌≡◌, refl, ap, ◌∙◌}
use mathlib.Core.List.{List, []}
use mathlib.Core.Bool.{Bool, true, ◌&&◌, and-true}
use mathlib.Core.Option.{Option, none}
use native.Mathlib.Omega.{arith}
use native.Mathlib.Nat.{mod-one}
use borrow.Author.Tests.{eq-eqb}
use lib.ListN.{take, drop, replicate}
use Rattle.songcode.specs.Lists.{is_empty}
use Rattle.songcode.specs.Song.{Items}
use Rattle.songcode.specs.Answer.PatternText.{depth, loops_deep, references}
use Rattle.songcode.proofs.WrittenBefore.{write_items}
use Rattle.songcode.specs.Answer.References.{put_in}
use Rattle.songcode.specs.Answer.Meter.{all_fit, stray}
use Rattle.songcode.proofs.ListLaws.{Each}
use Rattle.tokens.specs.TokenWords.{token_words}
use Rattle.score.specs.declared.stretches.Stretch.{Stretch}
use Rattle.score.specs.Standing.{ItemsFit, Stands}
use Rattle.score.proofs.StandingLaws.{stands_written}
use Rattle.outlines.specs.declared.readings.Outline.{Outline}
use Rattle.outlines.specs.Sizes.{divides}
use Rattle.outlines.specs.Readings.{started, closed, Nested, words_read, outside, summed, outlined}
use Rattle.outlines.specs.Told.{Tells, Told}
use Rattle.outlines.proofs.TreeLaws.{after, items_read}
use Rattle.outlines.proofs.ChordLaws.{closed_chord, closed_wants, items_chord, items_wants}
use Rattle.outlines.proofs.MeterLaws.{items_sizes_lem}
use Rattle.outlines.proofs.CountLaws.{items_adds}
use Rattle.outlines.proofs.WholeLaws.{closed_whole, items_whole}

divides_one : (n : ℕ) → divides 1 n ≡ true
unfolding divides
divides_one n = eq-eqb _ 0 (mod-one n)

-- The end state of the items.
sum_tells : (find : ℕ → Outline) (f : ℕ → Option Items) (e : Bool) (r : Items) → ItemsFit r → Each (Told find f) (references r)
    → Tells (summed e (closed (after find r started))) (put_in f r)
unfolding summed started
sum_tells find f e r h t =
    record {
      sizes = λ n low high. items_sizes_lem find f n low high r started refl t ∙ ap (λ b. b && all_fit n (put_in f r)) (divides_one n);
      wants = closed_wants (after find r started) ∙ items_wants find f r started h t ∙ and-true (stray none (put_in f r));
      chord = closed_chord (after find r started) ∙ items_chord find f r started h t;
      whole = closed_whole (after find r started) ∙ items_whole find f r started h t;
      measures = items_adds find f r started refl t ∙ omega arith;
    }

pub read_whole : (find : ℕ → Outline) (r : Items) → ItemsFit r → depth r ≤ loops_deep
    → (words_read find outside (token_words (write_items r []))).reading ≡ after find r started
unfolding token_words words_read outside started loops_deep
read_whole find r h d = ap (λ (x : Nested). x.reading) (items_read find r started (replicate loops_deep 0) [] h (omega arith) (omega arith)).read

pub outline_tells : (find : ℕ → Outline) (f : ℕ → Option Items) (ws : List ℕ) (s : Stretch) (r : Items) → Stands ws s r → ItemsFit r → depth r ≤ loops_deep
    → Each (Told find f) (references r)
    → Tells (outlined find (drop s.from (take s.to ws))) (put_in f r)
unfolding outlined
outline_tells find f ws s r p h d t =
    rw (stands_written ws s r p, read_whole find r h d) (sum_tells find f (is_empty (token_words (write_items r []))) r h t)
