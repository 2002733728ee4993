-- Laws under the proofs of this crate's functions, and those that the crates above cite.
pub mod RowLaws
pub mod NumberLaws
pub mod BaseLaws
pub mod TakenLaws
pub mod DecimalLaws
pub mod PartLaws
pub mod WordLaws
pub mod LexLaws
pub mod PlainBases
pub mod ReadLaws
pub mod KindLaws
pub mod TokensFit
pub mod LineFitLaws
pub mod FewLaws
pub mod KeptLaws
