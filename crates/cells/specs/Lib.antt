pub mod Layout
pub mod Squeeze
pub mod Keeps
