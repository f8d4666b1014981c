pub mod SpacesView
pub mod WalkView
pub mod Judged
pub mod Tests
pub mod Texts
