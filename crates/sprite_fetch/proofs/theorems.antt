pub mod Turns
pub mod Wins
