pub mod Tab
pub mod Keep
pub mod Runs
pub mod Places
pub mod Each
pub mod Apart
pub mod theorems
pub mod steps
