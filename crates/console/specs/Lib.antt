pub mod Knowing
pub mod Going
pub mod Lines
