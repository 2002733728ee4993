-- What the contracts on refusals say, over the complaints of songcode.
pub mod Names
pub mod Refusals
pub mod Ranks
