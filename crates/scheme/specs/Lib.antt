pub mod Tables
pub mod Card
pub mod CardNames
pub mod Lawful
pub mod CardLawful
