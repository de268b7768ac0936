pub mod Faults
pub mod Seating
pub mod Leaders
pub mod Report
