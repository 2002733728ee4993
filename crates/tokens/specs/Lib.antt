-- What the contracts on words and tokens say, over the definitions of songcode.
pub mod TokenWords
pub mod Signs
pub mod Bases
pub mod Decimals
pub mod Lexing
pub mod Kept
pub mod Fitting
