pub mod Laws
pub mod Deadlines
pub mod OneSeat
