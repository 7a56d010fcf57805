pub mod Cut
pub mod Held
pub mod Told
pub mod Packing
