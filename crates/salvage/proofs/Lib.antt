pub mod Listing
pub mod theorems
