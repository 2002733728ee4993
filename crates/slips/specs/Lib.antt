-- What the finders promise.
pub mod Places
pub mod Standing
pub mod Taken
pub mod Clauses
pub mod Rules
pub mod RulesRead
pub mod Marks
pub mod PatternText
pub mod Strays
pub mod Misfits
pub mod Readings
pub mod Referring
pub mod BlocksMet
pub mod MeterTold
pub mod Finds
pub mod WrongText
