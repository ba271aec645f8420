pub mod Shifts
pub mod Orders
pub mod Places
pub mod Changes
pub mod Values
pub mod Filtered
