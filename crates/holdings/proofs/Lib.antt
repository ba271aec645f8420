pub mod Places
mod Takes
mod Searches
mod Counting
