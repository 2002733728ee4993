-- Laws of moves, bases, words and tables; last, the demands.
pub mod RootLaws
pub mod BaseLaws
pub mod WordLaws
pub mod TableLaws
pub mod Octaves
pub mod Demanded
