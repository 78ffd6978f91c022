pub mod Signed
pub mod Below
