-- Laws on words and their fields.
pub mod Bits
pub mod RoundTrips
pub mod RowsRead
pub mod ReadBackProved
