pub mod SameKinds
pub mod Versions
pub mod Identifiers
pub mod Sources
pub mod NameKeys
pub mod DocTexts
pub mod DocLines
