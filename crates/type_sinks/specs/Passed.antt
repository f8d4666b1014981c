-- What crates above name of those below.
pub use Rattle.type_writing.specs.Functions as type_writing-Functions
pub use Rattle.type_writing.specs.Passed.type_meaning-Items as type_meaning-Items
pub use Rattle.type_writing.specs.Passed.type_meaning-Scope as type_meaning-Scope
pub use Rattle.type_writing.specs.Passed.type_meaning-Tree as type_meaning-Tree
pub use Rattle.type_writing.specs.Passed.type_meaning-Words as type_meaning-Words
pub use Rattle.type_writing.specs.Placing as type_writing-Placing
pub use Rattle.type_writing.specs.Refusals as type_writing-Refusals
pub use Rattle.type_writing.specs.Unfolding as type_writing-Unfolding
pub use Rattle.type_writing.specs.Writing as type_writing-Writing
pub use Rattle.type_writing.specs.declared.fault.Fault as type_writing-declared-fault-Fault
