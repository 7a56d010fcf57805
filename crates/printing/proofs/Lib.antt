pub mod Sides
pub mod KeyLines
pub mod Starting
pub mod Numbered
pub mod Total
pub mod Running
