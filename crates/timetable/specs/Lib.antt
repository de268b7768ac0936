pub mod Deadlines
pub mod Promises
pub mod Text
