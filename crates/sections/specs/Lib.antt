-- What the contracts on the blocks of a chart say, over the definitions of songcode.
pub mod Runs
pub mod Slots
pub mod Values
pub mod Gathering
pub mod BlockParts
pub mod SectionSays
pub mod Onward
pub mod Numbered
