pub mod Replay
pub mod Drawing
pub mod Memory
pub mod Placing
pub mod Section
pub mod Pixels
pub mod theorems
pub mod steps
