pub mod Texts
pub mod Buffers
pub mod Writers
