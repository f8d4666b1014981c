-- What crates above name of those below.
pub use Rattle.type_meaning.specs.Items as type_meaning-Items
pub use Rattle.type_meaning.specs.Scope as type_meaning-Scope
pub use Rattle.type_meaning.specs.Syntax as type_meaning-Syntax
pub use Rattle.type_meaning.specs.Tree as type_meaning-Tree
pub use Rattle.type_meaning.specs.Words as type_meaning-Words
