pub mod Answers
pub mod Unlit
pub mod Order
