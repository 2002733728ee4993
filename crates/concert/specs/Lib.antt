-- Request 3 of document 02, concert pitch for horns: a beat table moved by semitones, and what the call promises of it.
pub mod Pitches
pub mod Moves
pub mod Promises
pub mod Demands
