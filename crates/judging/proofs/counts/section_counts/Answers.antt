-- Each number by what its function tells.
use Prim.Native.Nat.{ℕ}
use mathlib.Core.Path.{◌≡◌, sym, ap, ◌∙◌, subst}
use lib.ListN.{length}
use Rattle.score.specs.declared.lyrics.Lyric.{Lyric}
use Rattle.score.specs.declared.views.View.{View}
use Rattle.player.specs.declared.playing.Arrangement.{Arrangement}
use Rattle.player.specs.Arrangements.{arrangement_in, arranged_row, PlaysWithin}
use Rattle.judging.specs.declared.lyrics.Tally.{Tally}
use Rattle.judging.specs.declared.counts.LastCount.{LastCount}
use Rattle.judging.specs.declared.counts.SectionCounts.{SectionCounts}
use Rattle.judging.specs.Lyrics.{Inside, tally_in, tallied}
use Rattle.judging.specs.Counts.{later_in, count_ending, stop_in, Ends, section_counts}
use Rattle.judging.proofs.LastCountLaws.{lyrics_within, lyrics_told, last_told}
use Rattle.judging.proofs.counts.section_counts.Goals as goal

counts_are : {a b c d : ℕ} {t u : LastCount} → a ≡ b → c ≡ d → t ≡ u
    → ◌≡◌ {A = SectionCounts} (record { sum = a; measures = c; last = t }) (record { sum = b; measures = d; last = u })
counts_are p q r = rw (p, q, r)

pub count_section-played-requires : goal.count_section-played-requires
count_section-played-requires c =
    let ws = c.args.words.now in
    subst (λ (x : Arrangement). PlaysWithin ws x 0) (sym (c.arrangement_in.ensures ∙ ap (arrangement_in ws) c.section_at-view.ensures))
    c.requires.1.within

pub tally_lyrics-lyrics-requires : goal.tally_lyrics-lyrics-requires
tally_lyrics-lyrics-requires c =
    subst (λ (v : View). Inside c.args.words.now v.lyrics) (sym c.section_at-view.ensures) (lyrics_within c.requires.1)

pub later_in-requires : goal.later_in-requires
later_in-requires c =
    subst (λ (v : View). Inside c.args.words.now v.lyrics) (sym c.section_at-view.ensures) (lyrics_within c.requires.1)

pub count_place-last-requires : goal.count_place-last-requires
count_place-last-requires c =
    let ws = c.args.words.now in
    let view = c.section_at-view.ensures in
    subst (λ (l : Lyric). Ends c.args.s.now l) (sym (c.later_in.ensures ∙ ap (λ (v : View). later_in ws v.lyrics) view))
    (last_told c.requires.1).ends

pub returns : goal.returns
unfolding section_counts tallied
returns c =
    let s = c.args.s.now in
    let ws = c.args.words.now in
    let view = c.section_at-view.ensures in
    let plays = c.arrangement_in.ensures ∙ ap (arrangement_in ws) view in
    let tally = c.tally_lyrics-lyrics.ensures ∙ ap (λ (v : View). tally_in ws v.lyrics) view in
    let last = c.later_in.ensures ∙ ap (λ (v : View). later_in ws v.lyrics) view in
    λ x m.
    counts_are (ap (λ (t : Tally). t.sum) (tally ∙ lyrics_told m))
    (c.count_section-played.ensures.0 ∙ ap (λ (y : Arrangement). length (arranged_row ws y)) plays ∙ m.measures)
    (c.count_place-last.ensures ∙ ap (λ (l : Lyric). count_ending l.number (stop_in s l) l.count) last ∙ (last_told m).is)

pub section_at-view-requires : goal.section_at-view-requires
section_at-view-requires c = c.requires.1.low
