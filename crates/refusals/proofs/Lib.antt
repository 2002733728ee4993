-- Laws of the definitions that the proofs of the functions cite.
pub mod NameLaws
pub mod PassedLaws
pub mod RankLaws
