mod Outcomes
mod ItemPaths
mod ItemFinding
pub mod Gathering
pub mod Numbers
mod Uses
mod Using
pub mod Standing
mod PackagePaths
mod Grouping
mod Depending
mod PackageNames
mod Parting
pub mod Passed
