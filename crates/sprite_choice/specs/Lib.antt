pub mod Choice
pub mod theorems
pub mod steps
