pub mod Row
pub mod steps
