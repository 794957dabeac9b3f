pub mod Scripts
pub mod Steps
pub mod Lines
pub mod Runs
pub mod Saves
pub mod Revisions
