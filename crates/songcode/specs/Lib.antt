-- Documents 01 and 02 as definitions. First the words that all pages use.
pub mod Lists
pub mod Bytes
pub mod Song
pub mod Complaints
-- The answer to a chart, and beside it the description, which calls no reader; each in a folder of its own.
pub mod Answer
pub mod Description
-- What is promised of the second call, and of the flat copy.
pub mod Jumps
pub mod FlatCharts
pub mod FlatDemands
-- Last what is promised of all this.
pub mod StageLists
pub mod Starred
pub mod Edges
pub mod EitherOrder
pub mod EachSection
pub mod Apart
pub mod AsBefore
pub mod Seams
pub mod WholeCharacters
pub mod FieldsFit
pub mod Shown
pub mod Clauses
pub mod Demands
