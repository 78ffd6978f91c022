pub mod Order
pub mod Draws
pub mod Shows
pub mod theorems
