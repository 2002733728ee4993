-- The definitions that the call's contract names.
pub mod Answers
