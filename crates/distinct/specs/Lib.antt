pub mod Repeats
pub mod Sorting
pub mod Examples
