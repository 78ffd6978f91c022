pub mod Said
pub mod Settled
