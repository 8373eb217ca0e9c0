pub mod Refusals
pub mod WrittenBack
pub mod Passing
pub mod Choosing
pub mod Agreeing
pub mod Crossing
