pub mod FileLaws
pub mod FileParts
pub mod FileBreaks
pub mod Wholes
pub mod Passed
