pub mod Digits
pub mod Choosing
pub mod Saying
pub mod Cutting
