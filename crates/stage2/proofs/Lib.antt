-- The walk over the lines gives the least complaint of all blocks.
pub mod BlockWalk
pub mod SeenLaws
pub mod MetadataWalk
pub mod DefinitionWalk
pub mod PlaceLaws
pub mod PatternWalk
pub mod SectionWalk
pub mod TextWalk
pub mod SmallLineFaults
pub mod SmallFaults
pub mod SmallLines
-- The walk by value.
pub mod MarkLaws
pub mod HeadLaws
pub mod StateLaws
pub mod NoteLaws
-- What the functions return.
pub mod MarkReturns
pub mod HeadReturns
pub mod NameReturns
pub mod LineReturns
pub mod BodyReturns
pub mod MetadataReturns
pub mod ModifierReturns
pub mod BlockReturns
pub mod WalkReturns
