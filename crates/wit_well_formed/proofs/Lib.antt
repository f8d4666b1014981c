pub mod Lists
mod Nameless
mod Others
pub mod Counted
pub mod Keys
pub mod Apart
pub mod Order
mod Earlier
pub mod Holding
pub mod Offsets
pub mod Whole
pub mod Parsed
mod Sorts
mod Numbers
mod Few
mod Names
pub mod Belonging
mod New
mod Labels
mod Parameters
pub mod NamesWithin
mod PlainNames
pub mod PlainTexts
pub mod OffsetNames
pub mod InterfaceNames
pub mod Passed
