pub mod Source
pub mod Map
pub mod theorems
pub mod steps
