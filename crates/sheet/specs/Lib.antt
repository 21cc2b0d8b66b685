pub mod Order
pub mod Sheets
pub mod Steps
