-- A section's pattern is empty exactly where its text names an empty definition.
use Prim.Native.Nat.{ℕ}
use mathlib.Core.Path.{◌≡◌}
use mathlib.Core.List.{List}
use mathlib.Core.Bool.{not}
use borrow.Author.Tests.{eqb-true, eqb-false}
use lib.Dec.{eqb}
use Rattle.songcode.specs.Lists.{provided◌then◌else◌, is_some}
use Rattle.songcode.specs.Song.{Pattern}
use Rattle.songcode.specs.Answer.References.{pattern_items}
use Rattle.songcode.specs.Answer.Answer.{song_of}
use Rattle.songcode.proofs.ListLaws.{by_cases}
use Rattle.score.specs.declared.stretches.Stretch.{Stretch}
use Rattle.score.specs.Sections.{pattern_row}
use Rattle.score.specs.Fitting.{PatternFits}
use Rattle.score.specs.Seen.{Holds}
use Rattle.laying.specs.Laying.{Names, named_at}
use Rattle.laying.specs.Scores.{named_text, is_empty_text, Told}
use Rattle.laying.proofs.NamedLaws.{name_there, named_nothing, named_some}

pub empty_pattern : (ws : List ℕ) (t : Stretch) {s : List ℕ} → Told s ws → (p : Pattern) → PatternFits p → Holds ws t (pattern_row p)
    → is_empty_text ws t ≡ not (is_some (pattern_items (song_of s).definitions p))
unfolding is_empty_text provided◌then◌else◌ pattern_items is_some named_text
empty_pattern ws t {s} told p f h =
    let names = name_there ws t p f h.words in
    by_cases (eqb (named_at ws t) 0)
    (λ e. let g : Names p 0 = rw (eqb-true (named_at ws t) 0 e) at names in rw (e, (named_nothing p g).1))
    (λ e. rw (e, named_some p (named_at ws t) names (eqb-false (named_at ws t) 0 e)) (told.filled (named_at ws t)))
