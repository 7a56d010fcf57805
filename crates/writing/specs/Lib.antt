pub mod Written
pub mod Table
pub mod Write
pub mod Shape
