pub mod Judging
pub mod Lengths
pub mod Values
pub mod Frames
pub mod Accepted
pub mod ReadBack
