pub mod Chain
pub mod Class
pub mod Examples
