pub mod Instances
pub mod Declarators
pub mod TypeDefinitions
