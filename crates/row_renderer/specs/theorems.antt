pub mod Renderer
pub mod Edges
pub mod Order
