pub mod theorems
