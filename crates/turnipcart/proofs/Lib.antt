-- That no second outcome meets what an exported call promises.
pub mod Outcomes
pub mod CauseLaws
pub mod PaperLaws
