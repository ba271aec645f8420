pub mod Numbers
pub mod Words
pub mod Commands
pub mod Answers
pub mod Scripts
