pub mod Filling
pub mod Serving
pub mod Stands
pub mod Promises
