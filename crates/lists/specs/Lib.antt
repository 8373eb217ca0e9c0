pub mod Rules
pub mod Words
pub mod Runs
pub mod Joined
pub mod Examples
