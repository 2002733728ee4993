-- What the answer complains of in each stage: the lists that the theorem of a stage compares with what is stated.
use Rattle.std.specs.Prelude.{ℕ, List}
use Rattle.songcode.specs.Complaints.{Complaint}
use Rattle.songcode.specs.Answer.SongText.{text_faults}
use Rattle.songcode.specs.Answer.References.{reference_faults}
use Rattle.songcode.specs.Answer.Meter.{meter_faults, length_faults}
use Rattle.songcode.specs.Answer.Lyrics.{count_faults, sum_faults}
use Rattle.songcode.specs.Answer.Tables.{tables}
use Rattle.songcode.specs.Answer.Answer.{Room, input_faults, blocks_of, song_of, room_faults}
use Rattle.songcode.specs.Description.Refusals.{Stage, stage1, stage2, stage3, stage4, stage5, stage6, stage7, stage8}

unfoldable pub complaints_in : Room → List ℕ → Stage → List Complaint
complaints_in room bs stage1 = input_faults bs
complaints_in room bs stage2 = text_faults (blocks_of bs)
complaints_in room bs stage3 = reference_faults (song_of bs)
complaints_in room bs stage4 = meter_faults (song_of bs)
complaints_in room bs stage5 = length_faults (song_of bs) 0 (song_of bs).sections
complaints_in room bs stage6 = count_faults (song_of bs)
complaints_in room bs stage7 = sum_faults (song_of bs)
complaints_in room bs stage8 = room_faults room (tables (song_of bs))
