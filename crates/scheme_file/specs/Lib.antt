pub mod Faults
pub mod Checks
pub mod Sound
pub mod Growing
pub mod Distinct
pub mod Lawful
