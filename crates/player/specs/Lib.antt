-- What the contracts of the player say.
pub mod Signs
pub mod Bars
pub mod Page
pub mod Again
pub mod Walks
pub mod Windows
pub mod Even
pub mod Arrangements
pub mod Examples
pub mod Texts
