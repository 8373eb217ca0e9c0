pub mod Ascii
pub mod Help
