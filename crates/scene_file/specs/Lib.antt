pub mod File
pub mod Answers
pub mod theorems
pub mod steps
