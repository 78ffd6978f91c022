pub mod Mosaic
pub mod theorems
