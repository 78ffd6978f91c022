pub mod Bytes
pub mod Idle
pub mod Rows
