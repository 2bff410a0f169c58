pub mod Refusing
pub mod LentTools
pub mod ToolsMade
