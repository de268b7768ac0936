pub mod Blocks
pub mod Limits
