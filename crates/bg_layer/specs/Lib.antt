pub mod Background
