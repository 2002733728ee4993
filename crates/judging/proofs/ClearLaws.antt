-- What a verdict that gives nothing says of stages 3 to 7, and the song's own keys among its metadata.
use Prim.Native.Nat.{ℕ, ◌<◌}
use mathlib.Core.Path.{◌≡◌, refl, sym, ap, ◌∙◌}
use mathlib.Core.List.{List, [], ◌∷◌}
use mathlib.Core.Option.{Option, none, get_or, bind}
use native.Mathlib.Omega.{arith}
use Rattle.songcode.specs.Bytes.{Byte}
use Rattle.songcode.specs.Complaints.{Complaint, earliest, stage_or, verdict}
use Rattle.songcode.specs.Song.{Song, KeyName, time, bpm}
use Rattle.songcode.specs.Answer.Keys.{key_place, time_in, bpm_in}
use Rattle.songcode.specs.Answer.References.{reference_faults}
use Rattle.songcode.specs.Answer.Playing as playing
use Rattle.songcode.specs.Answer.Playing.{time_among, bpm_among}
use Rattle.songcode.specs.Answer.Meter.{meter_faults, length_faults}
use Rattle.songcode.specs.Answer.Lyrics.{count_faults, sum_faults}
use Rattle.songcode.specs.Answer.SongText.{metadata_lines, song_in}
use Rattle.songcode.specs.Answer.Answer.{blocks_of, song_of}
use Rattle.sections.specs.declared.blocks.Place.{Place}
use Rattle.sections.specs.declared.values.Keys.{Keys}
use Rattle.sections.specs.Runs.{lines_of}
use Rattle.sections.specs.Slots.{Setting, setting_among}
use Rattle.sections.specs.Values.{time_said, bpm_said, KeysAre}
use Rattle.sections.proofs.SaidLaws.{key_among}
use Rattle.laying.specs.Metadata.{lines_before, MetadataEnds}
use Rattle.laying.specs.Rows.{SongKeys}
use Rattle.judging.specs.Charts.{Clear}
use Rattle.laying.proofs.ComplaintLaws.{earliest_none}
use Rattle.judging.proofs.StageLaws.{given_none}
use Rattle.judging.specs.Stages.{lyric_faults, playing_faults, later_faults}

-- A verdict that gives nothing: no stage complains.
pub verdict_clear : (xs : List Complaint) (rest : List (List Complaint)) → verdict (xs ∷ rest) ≡ none → (xs ≡ []) × (verdict rest ≡ none)
unfolding verdict
verdict_clear xs rest z = let g = given_none (earliest xs) (verdict rest) z in (earliest_none xs g.0, g.1)

pub song_clear : (song : Song) → verdict (later_faults song) ≡ none → Clear song
unfolding later_faults playing_faults lyric_faults
song_clear song z =
    let a = verdict_clear (reference_faults song) (playing_faults song) z in
    let b = verdict_clear (meter_faults song) (length_faults song 0 song.sections ∷ lyric_faults song) a.1 in
    let c = verdict_clear (length_faults song 0 song.sections) (lyric_faults song) b.1 in
    let d = verdict_clear (count_faults song) (sum_faults song ∷ []) c.1 in
    let e = verdict_clear (sum_faults song) [] d.1 in
    record { references = a.0; meters = b.0; lengths = c.0; counts = d.0; sums = e.0 }

pub clear_none : (song : Song) → Clear song → verdict (later_faults song) ≡ none
unfolding later_faults playing_faults lyric_faults verdict earliest stage_or
clear_none song clear = rw (clear.references, clear.meters, clear.lengths, clear.counts, clear.sums) refl

-- The song's time and bpm, as they are found among the lines before the metadata's end.
module _ (s : List ℕ) (p : Place) (k : Keys) (ends : MetadataEnds s p) (are : KeysAre (lines_of s (lines_before p)) k) where
  song_key : (f : List Byte → Option ℕ) (n : KeyName) → key_place n < 8
      → bind (setting_among (key_place n) (lines_of s (lines_before p))) (λ x. f x.text)
      ≡ bind (playing.setting_named n (song_of s).keys) f
  unfolding song_of song_in
  song_key f n h = ap (λ (o : Option Setting). bind o (λ x. f x.text)) (ends.keys (key_place n) h) ∙ sym (key_among f n (metadata_lines (blocks_of s)))

  pub song_keys : SongKeys (song_of s) k
  unfolding time_among time_said bpm_among bpm_said key_place
  song_keys =
      record {
        time = are.time ∙ ap (λ (o : Option ℕ). get_or o 0) (song_key time_in time (omega arith));
        time_fits = are.time_fits;
        bpm = are.bpm ∙ ap (λ (o : Option ℕ). get_or o 511) (song_key bpm_in bpm (omega arith));
        bpm_fits = are.bpm_fits;
      }
