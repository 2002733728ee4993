-- Laws of the definitions that the proofs of the functions cite, and that callers use.
pub mod PartLaws
pub mod PlaceLaws
pub mod KindLaws
pub mod NameLaws
pub mod PhraseLaws
pub mod LyricLaws
pub mod StyleLaws
pub mod NumberLaws
pub mod ValueLaws
pub mod WordLaws
pub mod CutLaws
pub mod ReadLaws
pub mod OfLineLaws
