-- What the contracts on the texts of a chart say: how they are laid into the buffer, and what stands there.
pub mod Laying
pub mod Metadata
pub mod Keys
pub mod Fronts
pub mod Scores
pub mod Loading
pub mod Rows
