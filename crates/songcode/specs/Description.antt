-- The description, which calls no reader: how a song is written, what it plays, which tables it has, what stops a chart.
pub mod WrittenText
pub mod WrittenPattern
pub mod WrittenSection
pub mod WrittenSong
pub mod Performance
pub mod WrittenLyrics
pub mod Fits
pub mod WrittenTables
pub mod Layout
pub mod Described
pub mod Given
pub mod StoppedText
pub mod StoppedSong
pub mod Refusals
pub mod Joined
pub mod WrittenFlat
