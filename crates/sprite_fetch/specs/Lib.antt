pub mod Fetch
pub mod Wins
pub mod steps
