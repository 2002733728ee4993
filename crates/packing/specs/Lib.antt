-- What the contracts on the fields of the tables' words say, over the definitions of songcode.
pub mod Fields
pub mod ReadBack
