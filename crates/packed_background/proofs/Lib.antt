pub mod Eight
pub mod Laid
