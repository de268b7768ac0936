pub mod Promises
pub mod Beginning
pub mod Listings
