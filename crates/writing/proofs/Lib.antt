-- Laws that the proofs of the writers cite.
pub mod SongLaws
pub mod PromptLaws
