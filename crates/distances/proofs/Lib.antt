pub mod Stages
pub mod StartTable
pub mod Rooms
