pub mod Pieces
pub mod Numbers
pub mod Turns
pub mod Kept
pub mod Whole
