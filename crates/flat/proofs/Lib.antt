-- Laws of the definitions that the proofs of the functions cite.
pub mod SheetLaws
pub mod BlockLaws
pub mod LineLaws
pub mod MetadataLaws
pub mod SilentLaws
pub mod RowLaws
pub mod AnswerLaws
pub mod SectionLaws
pub mod SongLaws
pub mod MeasureLaws
pub mod PatternLaws
pub mod HeardLaws
