-- What the contracts of the writers say: the final content of each table, and what its words are made of.
pub mod Prompts
