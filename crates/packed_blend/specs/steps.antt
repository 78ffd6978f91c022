pub mod Blended
pub mod Laws
