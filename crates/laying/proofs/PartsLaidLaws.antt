-- The parts of a section laid one behind the other: each has room, and together they are all its parts.
use Prim.Native.Nat.{ℕ, ◌+◌, ◌*◌, ◌≤◌}
use mathlib.Core.Path.{◌≡◌, ap, ◌∙◌}
use mathlib.Core.List.{List, ◌++◌, append_assoc, map}
use mathlib.Core.Bool.{Bool, true, false}
use native.Mathlib.Omega.{arith}
use lib.ListN.{length, length-append, length-map}
use lib.Seq.{sets, length-sets}
use Rattle.songcode.specs.Answer.Sections.{lyric_line}
use Rattle.songcode.proofs.MemoryLaws.{sets_sets}
use Rattle.tokens.specs.Kept.{KeptFrom}
use Rattle.score.specs.Sections.{cuts_by}
use Rattle.sections.specs.declared.blocks.SectionRead.{SectionRead}
use Rattle.sections.specs.Runs.{lines_of}
use Rattle.sections.specs.Slots.{setting_at}
use Rattle.laying.specs.Laying.{weight, said_weight}
use Rattle.laying.specs.Rows.{read_word, cuts_said, has_cut, lead_said, pattern_said, tail_said, lyrics_said, parts_said, PlacesAre}
use Rattle.score.proofs.ViewLaws.{lyrics_size}
use Rattle.laying.proofs.KeptRowLaws.{kept_on}
use Rattle.laying.proofs.WeightLaws.{run_words, said_words}

-- So many words are laid from a place on.
pub record Done (at : ℕ) (held done words : List ℕ) (fill : ℕ) : Type 0 where
  pub there : words ≡ sets held at done
  pub filled : fill ≡ at + length done
  pub inside : fill ≤ length held

pub done_next : {at : ℕ} {held done words : List ℕ} {fill : ℕ} (new : List ℕ) {next : List ℕ} {end : ℕ} → Done at held done words fill
    → next ≡ sets words fill new → end ≡ fill + length new → end ≤ length held → Done at held (done ++ new) next end
done_next {at} {held} {done} {words} {fill} new d e f r =
    let k = length-append done new in
    let g = d.filled in
    record {
      there = e ∙ rw d.there (sets_sets at fill done new held d.filled);
      filled = omega arith;
      inside = r;
    }

pub done_length : {at : ℕ} {held done words : List ℕ} {fill : ℕ} → Done at held done words fill → length words ≡ length held
done_length {at} {held} {done} d = ap length d.there ∙ length-sets held at done

cuts_few : (b : Bool) (v w : ℕ) → length (cuts_by b v w) ≤ 2
unfolding cuts_by
cuts_few true v w = omega arith
cuts_few false v w = omega arith

module _ (s : List ℕ) (r : SectionRead) (at : ℕ) (held : List ℕ)
    (room : at + (2 + (said_weight (setting_at s r.modifiers.before) + weight (lines_of s r.pattern)
    + said_weight (setting_at s r.modifiers.after) + 2 * length (lines_of s r.lyrics))) ≤ length held) where
  cuts_small : length (cuts_said r.modifiers) ≤ 2
  unfolding cuts_said
  cuts_small = cuts_few (has_cut r.modifiers) (read_word r.modifiers.front) (read_word r.modifiers.back)

  lead_small : length (lead_said s r) ≤ said_weight (setting_at s r.modifiers.before)
  unfolding lead_said
  lead_small = said_words (setting_at s r.modifiers.before)

  pattern_small : length (pattern_said s r) ≤ weight (lines_of s r.pattern)
  unfolding pattern_said
  pattern_small = run_words (lines_of s r.pattern)

  tail_small : length (tail_said s r) ≤ said_weight (setting_at s r.modifiers.after)
  unfolding tail_said
  tail_small = said_words (setting_at s r.modifiers.after)

  lyrics_are : length (lyrics_said s r) ≡ 2 * length (lines_of s r.lyrics)
  unfolding lyrics_said
  lyrics_are =
      let a = lyrics_size (map lyric_line (lines_of s r.lyrics)) in
      let b = length-map (lines_of s r.lyrics) lyric_line in
      omega arith

  module _ {one : List ℕ} {from : ℕ} (one-laid : one ≡ sets held at (cuts_said r.modifiers)) (one-fill : from ≡ at + length (cuts_said r.modifiers)) where
    first : Done at held (cuts_said r.modifiers) one from
    first = let c = cuts_small in record { there = one-laid; filled = one-fill; inside = omega arith }

    pub room_lead : from + said_weight (setting_at s r.modifiers.before) ≤ length one
    room_lead =
        let c = cuts_small in
        let l = done_length first in
        omega arith

    module _ {two : List ℕ} {begun : ℕ} (two-laid : two ≡ sets one from (lead_said s r)) (two-fill : begun ≡ from + length (lead_said s r)) where
      second : Done at held (cuts_said r.modifiers ++ lead_said s r) two begun
      second =
          let c = cuts_small in
          let a = lead_small in
          done_next (lead_said s r) first two-laid two-fill (omega arith)

      pub room_lines : begun + weight (lines_of s r.pattern) ≤ length two
      room_lines =
          let c = cuts_small in
          let a = lead_small in
          let l = done_length second in
          omega arith

      pub kept_lines : KeptFrom s held at → KeptFrom s two begun
      kept_lines k =
          let f = second.filled in
          rw second.there (kept_on at (cuts_said r.modifiers ++ lead_said s r) f (omega arith) k)

      module _ {three : List ℕ} {ended : ℕ} (three-laid : three ≡ sets two begun (pattern_said s r))
          (three-fill : ended ≡ begun + length (pattern_said s r)) where
        third : Done at held ((cuts_said r.modifiers ++ lead_said s r) ++ pattern_said s r) three ended
        third =
            let c = cuts_small in
            let a = lead_small in
            let b = pattern_small in
            done_next (pattern_said s r) second three-laid three-fill (omega arith)

        pub room_tail : ended + said_weight (setting_at s r.modifiers.after) ≤ length three
        room_tail =
            let c = cuts_small in
            let a = lead_small in
            let b = pattern_small in
            let l = done_length third in
            omega arith

        module _ {four : List ℕ} {last : ℕ} (four-laid : four ≡ sets three ended (tail_said s r)) (four-fill : last ≡ ended + length (tail_said s r)) where
          fourth : Done at held (((cuts_said r.modifiers ++ lead_said s r) ++ pattern_said s r) ++ tail_said s r) four last
          fourth =
              let c = cuts_small in
              let a = lead_small in
              let b = pattern_small in
              let d = tail_small in
              done_next (tail_said s r) third four-laid four-fill (omega arith)

          pub room_lyrics : last + 2 * length (lines_of s r.lyrics) ≤ length four
          room_lyrics =
              let c = cuts_small in
              let a = lead_small in
              let b = pattern_small in
              let d = tail_small in
              let l = done_length fourth in
              omega arith

          module _ {five : List ℕ} {end : ℕ} (five-laid : five ≡ sets four last (lyrics_said s r))
              (five-fill : end ≡ last + 2 * length (lines_of s r.lyrics)) where
            pub all_laid : five ≡ sets held at (parts_said s r)
            unfolding parts_said
            all_laid =
                let y = lyrics_are in
                let z = room_lyrics in
                let l = done_length fourth in
                let c = cuts_said r.modifiers in
                let a = lead_said s r in
                let b = pattern_said s r in
                let d = tail_said s r in
                let e = lyrics_said s r in
                let f : end ≡ last + length e = omega arith in
                let h : end ≤ length held = omega arith in
                let w = done_next e fourth five-laid f h in
                w.there ∙ ap (λ (ws : List ℕ). sets held at ws)
                (append_assoc ((c ++ a) ++ b) d e ∙ append_assoc (c ++ a) b (d ++ e) ∙ append_assoc c a (b ++ (d ++ e)))

            pub all_places : PlacesAre s r at (record { from = from; begun = begun; ended = ended; last = last; end = end })
            all_places = record { from = one-fill; begun = two-fill; ended = three-fill; last = four-fill; end = five-fill }
