pub mod Asked
pub mod Printed
pub mod Library
