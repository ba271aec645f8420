mod Zeros
mod Firsts
mod Blocks
mod Nested
