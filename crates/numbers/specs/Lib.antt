pub mod Quorum
pub mod Numbering
pub mod Sets
