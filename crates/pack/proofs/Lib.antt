pub mod Cutting
pub mod Blocks
pub mod Accepts
pub mod Answered
pub mod Going
pub mod Running
pub mod Telling
