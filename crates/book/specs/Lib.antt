pub mod Answers
pub mod Symbols
pub mod Rules
pub mod Files
pub mod Kinds
pub mod Held
pub mod Refusals
pub mod Texts
