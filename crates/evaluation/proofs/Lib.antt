pub mod EarlierLines
pub mod LineMeant
pub mod SpaceTable
pub mod Writers
pub mod LineLocated
pub mod LineWords
pub mod AcceptedTable
mod OwnWords
pub mod LinesDone
pub mod Turn
mod Vectors
