pub mod BigLaws
pub mod DigitsLaws
pub mod Bits
pub mod WideOrder
pub mod Parts
pub mod Scans
