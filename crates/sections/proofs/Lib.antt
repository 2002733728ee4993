-- Laws of the definitions that the proofs of the functions cite, and that callers use.
pub mod ListLaws
pub mod RunLaws
pub mod LineLaws
pub mod TestLaws
pub mod FrontLaws
pub mod SlotLaws
pub mod ValueLaws
pub mod GatherLaws
pub mod NoLinesLaws
pub mod PartLaws
pub mod BlockLaws
pub mod NextLaws
pub mod SaidLaws
pub mod TellLaws
pub mod OrderLaws
pub mod SectionLaws
pub mod MeetLaws
