-- Laws of the definitions that the proofs of the functions cite.
pub mod WordLaws
pub mod PlaceLaws
pub mod ViewLaws
pub mod RowLaws
pub mod PlayedLaws
pub mod LyricLaws
pub mod StandingLaws
