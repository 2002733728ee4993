-- What the contracts on the lines of a chart say, over the definitions of songcode.
pub mod Kinds
pub mod Names
pub mod Cuts
pub mod KeySettings
pub mod Parts
pub mod Phrases
pub mod LyricParts
