pub mod Big
pub mod Wide
pub mod Scan
pub mod Parts
