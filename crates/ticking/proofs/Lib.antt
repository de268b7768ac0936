pub mod HeadsRead
pub mod Turns
pub mod Woken
