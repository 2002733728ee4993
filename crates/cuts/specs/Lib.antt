-- A cut by its two numbers.
pub mod Cuts
