pub mod Plans
pub mod Stages
