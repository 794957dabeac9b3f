pub mod Kept
pub mod Acts
pub mod Built
pub mod Looked
