pub mod PastTheEnd
pub mod Loops
