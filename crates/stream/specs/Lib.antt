pub mod Store
pub mod Feeding
pub mod Inner
pub mod Handing
pub mod Buffer
pub mod Runs
pub mod Examples
