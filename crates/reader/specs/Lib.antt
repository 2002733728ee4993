-- What the contracts of the calls say: the answer, and the final content of all lent memory; and what is demanded of them.
pub mod Answers
pub mod Room
pub mod Demands
