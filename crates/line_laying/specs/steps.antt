pub mod Laying
pub mod Recoloured
