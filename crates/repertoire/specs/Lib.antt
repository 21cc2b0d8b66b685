pub mod Links
pub mod Numbers
