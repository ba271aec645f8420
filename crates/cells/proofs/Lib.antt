mod Adds
mod Counts
mod Cells
mod Removes
mod Stores
