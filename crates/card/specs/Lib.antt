pub mod Belongs
pub mod Models
pub mod Cards
pub mod Wanting
pub mod Histories
pub mod Promises
