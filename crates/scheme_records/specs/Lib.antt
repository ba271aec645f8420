pub mod Bytes
pub mod Decoded
pub mod Listed
pub mod Walked
pub mod Said
