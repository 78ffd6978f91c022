pub mod Recoloured
