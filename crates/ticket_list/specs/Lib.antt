pub mod Pairs
pub mod PairOrder
pub mod Sizes
pub mod Listing
pub mod Keeps
