pub mod Ladders
pub mod Preferences
pub mod Preferred
pub mod RuleLaws
pub mod Rules
pub mod Samples
pub mod Soundness
