pub mod Turns
pub mod Walk
pub mod Recoloured
