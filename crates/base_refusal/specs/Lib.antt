pub mod Numbers
pub mod Answer
pub mod Results
pub mod theorems
pub mod steps
