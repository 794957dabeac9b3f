mod Sides
mod Same
mod Calls
mod Finding
mod Rowing
mod Filling
pub mod Says
pub mod Looking
