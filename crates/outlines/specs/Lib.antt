-- What the contracts of the outlines say.
pub mod Sizes
pub mod Readings
pub mod Words
pub mod Faults
pub mod Told
pub mod Even
pub mod Rows
pub mod Shown
