pub mod SectionBytes
pub mod Neighbours
pub mod NestedSections
