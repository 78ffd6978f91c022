pub mod Number
pub mod Names
