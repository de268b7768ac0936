pub mod ByOrder
pub mod PartsJoined
pub mod PastTheRounds
