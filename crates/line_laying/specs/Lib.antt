pub mod Laying
pub mod Order
pub mod theorems
pub mod steps
