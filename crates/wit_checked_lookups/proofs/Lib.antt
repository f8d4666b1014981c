pub mod Listed
pub mod Items
pub mod NameTests
pub mod OwnKinds
