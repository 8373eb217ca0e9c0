pub mod Table
pub mod ClassTable
pub mod ClassRule
pub mod ChainLaws
