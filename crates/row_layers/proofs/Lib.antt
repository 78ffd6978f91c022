pub mod Numbers
pub mod theorems
