pub mod Holding
pub mod Natures
pub mod Results
pub mod Rules
pub mod Failing
pub mod Telling
pub mod Passed
