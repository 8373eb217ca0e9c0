pub mod Granted
pub mod Parts
pub mod Examples
