-- The check of pattern text, in the shape of the code.
pub mod Kinds
pub mod Places
pub mod Checks
pub mod States
pub mod Verdicts
pub mod Sides
