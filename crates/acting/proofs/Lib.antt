pub mod ByCheck
