pub mod Renderer
pub mod Edges
pub mod Unlit
pub mod Bit15
pub mod theorems
pub mod steps
