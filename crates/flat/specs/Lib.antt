-- What the contracts on a flat copy say, over the definitions of songcode and the crates below.
pub mod Sheets
pub mod Measures
pub mod Taken
pub mod Blocks
pub mod Answers
