pub mod Begins
pub mod Runs
pub mod Serves
