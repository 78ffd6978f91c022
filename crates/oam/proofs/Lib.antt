pub mod NineBits
pub mod Fair
