pub mod Put
pub mod Answer
pub mod Filled
