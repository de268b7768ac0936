pub mod Writes
pub mod Phases
