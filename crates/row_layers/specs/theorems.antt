pub mod Numbers
pub mod Ties
