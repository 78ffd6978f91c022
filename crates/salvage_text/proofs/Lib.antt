pub mod Decimal
pub mod Spaced
pub mod Lines
