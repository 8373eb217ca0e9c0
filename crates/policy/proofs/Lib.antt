pub mod HighBits
pub mod AddressBounds
pub mod CoverLaws
pub mod AdmitLaws
pub mod PassLaws
