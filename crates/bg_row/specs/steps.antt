pub mod Cells
pub mod Recoloured
