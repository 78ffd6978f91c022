pub mod Text
pub mod steps
