pub mod Front
pub mod Block
pub mod Table
pub mod Read
pub mod Inner
pub mod Terms
