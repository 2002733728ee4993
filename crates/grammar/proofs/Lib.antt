-- Laws of the check of pattern text.
pub mod ArmLaws
pub mod TestLaws
pub mod RowLaws
pub mod StepLaws
pub mod TextLaws
pub mod WordLaws
pub mod LateLaws
pub mod PartLaws
pub mod LineLaws
pub mod VerdictLaws
pub mod BeginningLaws
pub mod KeptLaws
