pub mod Reading
pub mod Writing
pub mod Taken
pub mod Examples
