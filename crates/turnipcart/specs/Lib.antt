-- What the exported calls promise, and that each promise has one outcome.
pub mod Answers
pub mod OneOutcome
