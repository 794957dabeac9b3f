pub mod Codes
pub mod Equal
pub mod Places
pub mod Records
pub mod Loads
pub mod Admission
pub mod RoundTrip
pub mod Exact
