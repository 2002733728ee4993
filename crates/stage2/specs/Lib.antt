-- Stage 2 as a walk over the lines of a text: by complaints as numbers, in songcode's words, and by value as the code keeps it.
pub mod Places
pub mod Walk
pub mod States
pub mod Heads
pub mod LineNotes
pub mod BodyLines
