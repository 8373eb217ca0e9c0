pub mod Earlier
pub mod Sizes
pub mod Verdicts
pub mod Examples
