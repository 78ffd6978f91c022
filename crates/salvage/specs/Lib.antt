pub mod Salvage
pub mod Answers
pub mod theorems
pub mod steps
