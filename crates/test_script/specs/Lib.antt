pub mod Seek
pub mod Number
pub mod Names
pub mod steps
