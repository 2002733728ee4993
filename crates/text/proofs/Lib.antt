-- Laws of the definitions that the proofs of the functions cite.
pub mod ListLaws
pub mod TestLaws
pub mod LeadLaws
pub mod GoodLaws
pub mod EndLaws
pub mod InputLaws
pub mod SpanLaws
pub mod FirstLaws
pub mod SolidLaws
pub mod WalkLaws
pub mod StartLaws
pub mod CutLaws
pub mod TrimLaws
pub mod LineLaws
