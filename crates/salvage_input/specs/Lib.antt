pub mod Input
pub mod steps
