pub mod Walks
pub mod Fills
pub mod Arranged
pub mod RoundTrip
pub mod Encoding
