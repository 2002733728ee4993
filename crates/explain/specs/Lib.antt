-- What the contract of the call says.
pub mod Causes
pub mod Stopped
pub mod Times
pub mod MisfitNamed
pub mod StrayNamed
pub mod Sums
pub mod Explained
