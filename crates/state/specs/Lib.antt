pub mod State
pub mod Loading
pub mod Examples
