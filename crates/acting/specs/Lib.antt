pub mod Calls
pub mod Effects
