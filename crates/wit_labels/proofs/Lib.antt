pub mod Every
pub mod Moving
pub mod Including
pub mod Renaming
pub mod Naming
pub mod Typing
pub mod Forming
pub mod Passed
