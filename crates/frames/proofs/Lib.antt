pub mod Cuts
pub mod Numerals
pub mod Powers
pub mod Reading
pub mod RoundTrip
pub mod Writing
