pub mod Translations
pub mod Tellings
