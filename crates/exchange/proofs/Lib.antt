pub mod ReadCases
pub mod WriteCases
pub mod ReadLaws
pub mod WriteLaws
