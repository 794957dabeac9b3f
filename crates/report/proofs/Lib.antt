pub mod Decimals
pub mod Putting
pub mod Joining
pub mod Sizes
pub mod Accepting
pub mod Answering
pub mod Reporting
