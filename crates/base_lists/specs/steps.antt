pub mod Filling
pub mod Made
