pub mod Port
pub mod Sequences
pub mod Sound
pub mod theorems
