-- The answer of stages 1 to 7 from the verdicts of the first two and of the others.
use Prim.Native.Nat.{ℕ}
use mathlib.Core.Path.{◌≡◌, refl, sym, ap, ◌∙◌}
use mathlib.Core.List.{List, [], ◌∷◌}
use mathlib.Core.Option.{none, some}
use Rattle.songcode.specs.Complaints.{Complaint, complaint, earliest, stage_or, verdict}
use Rattle.songcode.specs.Answer.SongText.{text_faults}
use Rattle.songcode.specs.Answer.Tables.{tables}
use Rattle.songcode.specs.Answer.Answer.{input_faults, blocks_of, song_of, song_stages, refused, accepted, answer_by, song_answer}
use Rattle.songcode.proofs.VerdictAgree.{verdict_append}
use Rattle.refusals.specs.declared.Refusal.{Refusal}
use Rattle.std.specs.Prelude.{Some}
use Rattle.refusals.specs.Names.{number_of}
use Rattle.refusals.specs.Refusals.{told}
use Rattle.judging.specs.Charts.{Clear, RefusedLater}
use Rattle.judging.specs.Stages.{lyric_faults, playing_faults, later_faults}
use Rattle.judging.proofs.ClearLaws.{clear_none}

-- The stages of the song alone.
module _ (bs : List ℕ) where
  firsts : List (List Complaint)
  firsts = input_faults bs ∷ text_faults (blocks_of bs) ∷ []

  stages_are : verdict (song_stages bs) ≡ stage_or (verdict firsts) (verdict (later_faults (song_of bs)))
  unfolding song_stages firsts later_faults playing_faults lyric_faults
  stages_are = verdict_append firsts (later_faults (song_of bs))

  refuses : (c : Complaint) → verdict (song_stages bs) ≡ some c → song_answer bs ≡ refused c.number c.line
  unfolding song_answer answer_by
  refuses c e = rw e refl

  -- Stages 1 and 2 refuse.
  pub early_refused : (e : Refusal) → told (Some e) ≡ verdict (input_faults bs ∷ text_faults (blocks_of bs) ∷ [])
      → song_answer bs ≡ refused (number_of e.why) e.line
  unfolding firsts stage_or told
  early_refused e is = refuses (complaint (number_of e.why) e.line)
      (stages_are ∙ ap (λ o. stage_or o (verdict (later_faults (song_of bs)))) (sym is))

  -- They do not.
  module _ (input : input_faults bs ≡ []) (texts : text_faults (blocks_of bs) ≡ []) where
    firsts_none : verdict firsts ≡ none
    unfolding firsts verdict earliest stage_or
    firsts_none = rw (input, texts) refl

    later_are : verdict (song_stages bs) ≡ verdict (later_faults (song_of bs))
    unfolding stage_or
    later_are = stages_are ∙ ap (λ o. stage_or o (verdict (later_faults (song_of bs)))) firsts_none

    pub late_refused : (e : Refusal) → RefusedLater bs e → song_answer bs ≡ refused (number_of e.why) e.line
    unfolding told
    late_refused e is = refuses (complaint (number_of e.why) e.line) (later_are ∙ sym is)

    pub song_accepted : Clear (song_of bs) → song_answer bs ≡ accepted (tables (song_of bs))
    unfolding song_answer answer_by
    song_accepted clear = rw (later_are ∙ clear_none (song_of bs) clear) refl
