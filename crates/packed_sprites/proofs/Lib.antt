pub mod Over
pub mod Room
