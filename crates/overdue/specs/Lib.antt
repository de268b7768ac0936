pub mod Messages
pub mod Search
