pub mod Tests
pub mod Memory
pub mod steps
