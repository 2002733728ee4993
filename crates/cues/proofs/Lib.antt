-- Laws that the proofs of the functions cite.
pub mod JoinLaws
pub mod StartLaws
pub mod TableLaws
pub mod SectionLaws
pub mod SongJoins
pub mod BeatLaws
pub mod Demanded
