pub mod Reading
pub mod Encoding
pub mod RoundTrip
pub mod Writing
