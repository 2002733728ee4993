-- What the contracts on the row of words say.
pub mod Places
pub mod Standing
pub mod Even
pub mod Sections
pub mod Fitting
pub mod Views
pub mod Seen
pub mod LyricLines
