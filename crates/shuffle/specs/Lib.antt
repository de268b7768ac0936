pub mod SplitMix
pub mod Shuffle
pub mod ShuffleOrder
