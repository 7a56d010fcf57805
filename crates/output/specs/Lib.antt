pub mod Step
pub mod Room
pub mod Writing
