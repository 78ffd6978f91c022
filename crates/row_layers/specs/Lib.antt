pub mod Layers
pub mod Numbers
pub mod Order
pub mod theorems
