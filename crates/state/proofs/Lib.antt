pub mod StateLaws
pub mod StoreLaws
pub mod LoadCases
pub mod LoadLaws
