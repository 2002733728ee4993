-- Laws that the proof of the call cites, and that callers use; and the demands, proved.
pub mod AnswerLaws
pub mod Demanded
