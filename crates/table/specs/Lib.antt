pub mod Rows
pub mod Table
pub mod Groups
pub mod Solved
pub mod Choices
pub mod Marks
pub mod Masks
