pub mod Sum
pub mod SumLaws
pub mod Update
pub mod Packet
pub mod Transport
pub mod UpdateLaws
pub mod Fronts
pub mod Examples
