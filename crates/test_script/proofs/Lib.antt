pub mod Tests
pub mod Seeking
pub mod Reading
pub mod Naming
