-- Light cues, by document 02: how long each measure lasts, when it starts, and the answer.
pub mod Cues
pub mod Beats
pub mod Table
pub mod Answers
pub mod Demands
