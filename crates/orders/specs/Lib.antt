pub mod Ranking
pub mod Rows
pub mod Wheel
pub mod WheelOrder
