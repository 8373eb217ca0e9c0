pub mod Pieces
pub mod Fits
pub mod Datagrams
pub mod Members
pub mod Usable
pub mod Examples
