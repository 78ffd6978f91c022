pub mod Answers
pub mod Sequences
pub mod Sound
