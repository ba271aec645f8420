pub mod Helds
pub mod Counts
pub mod Changes
