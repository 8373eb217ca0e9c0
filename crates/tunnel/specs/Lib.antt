pub mod Tunnel
pub mod Answers
pub mod Judging
pub mod Sending
pub mod Opening
