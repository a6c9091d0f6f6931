pub mod LastingTexts
pub mod Held
