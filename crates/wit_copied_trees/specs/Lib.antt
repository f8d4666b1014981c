pub mod Renamed
pub mod Law
pub mod There
pub mod Passed
