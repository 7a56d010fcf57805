pub mod Characters
pub mod Word
pub mod Side
pub mod Line
pub mod Fault
pub mod Answer
pub mod Inner
