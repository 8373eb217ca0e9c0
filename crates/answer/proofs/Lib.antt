pub mod Tables
pub mod Tests
pub mod Passing
