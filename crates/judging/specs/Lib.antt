-- What the contracts of stages 3 to 7 say, over the definitions of songcode.
pub mod References
pub mod Meters
pub mod Lengths
pub mod Measures
pub mod Lyrics
pub mod Counts
pub mod Sums
pub mod Singing
pub mod Walking
pub mod Stages
pub mod Charts
